use Rattle.std.proofs.Common.{◌*◌, ◌-◌, ◌≤◌}
use Rattle.aat_read_machine.specs.StateArray.{AreIndexed}
use Rattle.aat_read_machine.specs.inside.Passed.{IsWalk}
use Rattle.aat_read_machine.proofs.state_array.StateArray.states.Given as goal

abbrev pub invariant-loop-state : goal.invariant-loop-state
invariant-loop-state l = record {
  walk : IsWalk l.self (l.state * l.self.class_count) l.walk;
  indexed : AreIndexed l.self (l.state * l.self.class_count);
  within : l.state ≤ l.walk.count;
}

abbrev pub decreases-loop-state : goal.decreases-loop-state
decreases-loop-state l = 65536 - l.state
