use Rattle.std.proofs.Common.{◌≡◌, drop}
use Rattle.aat_characters.specs.Marks.{value_among}
use Rattle.aat_characters.proofs.mark.value_among.Given as goal

abbrev pub invariant-loop-row : goal.invariant-loop-row
invariant-loop-row l = value_among (drop l.row-index l.rows) l.number ≡ value_among l.rows l.number
