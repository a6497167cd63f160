use Rattle.std.proofs.Common.{◌≡◌, ℕ, ◌<◌, ◌≤◌, get_or}
use Rattle.aat_read_sfnt.proofs.metrics.write_run.Given as goal

abbrev pub invariant-loop-glyph : goal.invariant-loop-glyph
invariant-loop-glyph l = record {
  before : (k : ℕ) → k < l.fn.from → get_or l.advances k 0 ≡ get_or l.fn.advances k 0;
  written : (k : ℕ) → l.fn.from ≤ k → k < l.glyph → get_or l.advances k 0 ≡ l.fn.advance;
}
