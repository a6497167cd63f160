use Rattle.aat_layout.specs.Clusters.{IsSmall}
use Rattle.aat_shape.proofs.kerned.asking_buffer_of.Given as goal

abbrev pub invariant-loop-placed : goal.invariant-loop-placed
invariant-loop-placed l = IsSmall l.buffer
