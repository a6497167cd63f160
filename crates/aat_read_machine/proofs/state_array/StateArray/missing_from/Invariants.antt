use Rattle.std.proofs.Common.{◌+◌, ◌-◌, ◌<◌}
use Rattle.aat_read_machine.specs.StateArray.{AreIndexed}
use Rattle.aat_read_machine.proofs.state_array.StateArray.missing_from.Given as goal

abbrev pub invariant-loop-cell : goal.invariant-loop-cell
invariant-loop-cell l = record { before : AreIndexed l.self l.cell; within : l.cell < l.fn.row + l.self.class_count }

abbrev pub decreases-loop-cell : goal.decreases-loop-cell
decreases-loop-cell l = l.fn.row + l.self.class_count - l.cell
