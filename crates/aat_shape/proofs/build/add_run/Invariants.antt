use Rattle.aat_layout.specs.Clusters.{IsSmall}
use Rattle.aat_shape.proofs.build.add_run.Given as goal

abbrev pub invariant-loop-cluster : goal.invariant-loop-cluster
invariant-loop-cluster l = IsSmall l.buffer
