use Rattle.aat_layout.specs.Clusters.{IsSmall}
use Rattle.aat_shape.proofs.build.buffer_of.Given as goal

abbrev pub invariant-loop-run : goal.invariant-loop-run
invariant-loop-run l = IsSmall l.buffer
