use Rattle.std.proofs.Common.{◌-◌, ◌+◌, ◌≤◌}
use Rattle.aat_read_machine.specs.inside.Passed.{NameBelow}
use Rattle.aat_read_machine.proofs.state_array.StateArray.passed_states.Given as goal

abbrev pub invariant-loop-passed : goal.invariant-loop-passed
invariant-loop-passed l = record { names : NameBelow l.self l.passed l.fn.count; within : l.passed ≤ l.fn.index + 1 }

abbrev pub decreases-loop-passed : goal.decreases-loop-passed
decreases-loop-passed l = l.fn.index + 1 - l.passed
