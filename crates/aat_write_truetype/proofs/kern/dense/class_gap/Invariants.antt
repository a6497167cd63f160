use Rattle.std.proofs.Common.{◌≡◌, drop}
use Rattle.aat_write_truetype.specs.kern.DenseClasses.{class_gap, gap_from}
use Rattle.aat_write_truetype.proofs.kern.dense.class_gap.Given as goal

abbrev pub invariant-loop-place : goal.invariant-loop-place
invariant-loop-place l = gap_from l.limit l.first l.place (drop l.place l.classes) ≡ class_gap l.limit l.classes
