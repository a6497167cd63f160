use Rattle.std.proofs.Common.{◌≡◌, ℕ, ◌*◌, ◌<◌, get_or}
use Rattle.aat_bytes.specs.Numbers.{be16}
use Rattle.aat_read_sfnt.proofs.metrics.write_long_advances.Given as goal

abbrev pub invariant-loop-glyph : goal.invariant-loop-glyph
invariant-loop-glyph l = (k : ℕ) → k < l.glyph → get_or l.advances k 0 ≡ be16 l.bytes (4 * k)
