use Rattle.std.proofs.Common.{◌≤◌}
use Rattle.aat_read_machine.specs.inside.Passed.{IsWalk}
use Rattle.aat_read_machine.proofs.state_array.StateArray.walk_row.Given as goal

abbrev pub invariant-loop-cell : goal.invariant-loop-cell
invariant-loop-cell l = record { walk : IsWalk l.self l.cell l.walk; rises : l.fn.walk.count ≤ l.walk.count }
