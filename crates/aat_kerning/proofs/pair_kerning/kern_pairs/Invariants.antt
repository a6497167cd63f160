use Rattle.aat_kerning.proofs.Walk.{IsWalk}
use Rattle.aat_kerning.proofs.pair_kerning.kern_pairs.Given as goal
use Rattle.aat_kerning.specs.Values.{values_of}

abbrev pub invariant-loop-place : goal.invariant-loop-place
invariant-loop-place g l = record {
  walk : IsWalk l.fn.run.skips l.fn.run.kern_mask l.fn.run.is_cross_stream (values_of l.fn.run.values) l.fn.buffer l.buffer l.left l.place;
}
