use Rattle.std.proofs.Common.{◌≡◌, drop}
use Rattle.aat_write_truetype.specs.kern.ClassBytes.{value_from}
use Rattle.aat_write_truetype.proofs.kern.classes.wrong_value.Given as goal

abbrev pub invariant-loop-place : goal.invariant-loop-place
invariant-loop-place l = value_from l.place (drop l.place l.row) ≡ value_from 0 l.row
