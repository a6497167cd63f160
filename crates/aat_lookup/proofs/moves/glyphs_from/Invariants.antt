use Rattle.std.proofs.Common.{◌≡◌, ℕ, ◌+◌, ◌<◌, length, get_or}
use Rattle.aat_lookup.proofs.moves.glyphs_from.Given as goal

abbrev pub invariant-loop-place : goal.invariant-loop-place
invariant-loop-place g l = record {
  long : length l.glyphs.items ≡ l.fn.count;
  each : (k : ℕ) → k < l.place → get_or l.glyphs.items k 0 ≡ l.fn.lowest + k;
}
