use Rattle.std.proofs.Common.{below_more, arith}
use Rattle.aat_read_machine.proofs.state_array.StateArray.passed_states.Goals as goal

pub loop-passed-preserved : goal.loop-passed-preserved
loop-passed-preserved c = record {
  names = below_more _ _ c.loop-passed.invariant.names (omega (arith, c.entry_states.ensures.named));
  within = omega arith;
}
