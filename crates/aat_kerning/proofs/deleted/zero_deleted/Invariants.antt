use Rattle.std.proofs.Common.{◌≡◌, length}
use Rattle.aat_kerning.proofs.Zeroed.{zeroed_first}
use Rattle.aat_kerning.proofs.deleted.zero_deleted.Given as goal

abbrev pub invariant-loop-i : goal.invariant-loop-i
invariant-loop-i l = record {
  done : l.positions ≡ zeroed_first l.i l.glyphs l.initial.positions;
  len : length l.positions ≡ length l.initial.positions;
}
