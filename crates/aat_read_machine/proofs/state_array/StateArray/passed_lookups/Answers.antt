use Rattle.std.proofs.Common.{below_more, arith}
use Rattle.aat_read_machine.proofs.state_array.StateArray.passed_lookups.Goals as goal

pub loop-passed-preserved : goal.loop-passed-preserved
loop-passed-preserved c =
    below_more _ _ c.loop-passed.invariant (omega (arith, c.entry_lookups.ensures.named))
