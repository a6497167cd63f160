use Rattle.std.proofs.Common.{◌-◌}
use Rattle.aat_read_machine.specs.inside.Passed.{AskFor}
use Rattle.aat_read_machine.proofs.state_array.StateArray.passed_lookups.Given as goal

abbrev pub invariant-loop-passed : goal.invariant-loop-passed
invariant-loop-passed l = AskFor l.self l.passed l.fn.count

abbrev pub decreases-loop-passed : goal.decreases-loop-passed
decreases-loop-passed l = l.fn.known - l.passed
