use Rattle.std.proofs.Common.{◌≡◌, ◌+◌, ◌*◌, ◌≤◌, length}
use Rattle.aat_kerning_machines.specs.Positions.{IsPlaced}
use Rattle.aat_kerning_machines.specs.Stack.{popped}
use Rattle.aat_kerning_machines.specs.inside.StackValues.{value_at}
use Rattle.aat_kerning_machines.proofs.stack_values.ValueList.give_all.Given as goal

abbrev pub invariant-loop-place : goal.invariant-loop-place
invariant-loop-place g l = record {
  done : popped l.self.is_cross_stream l.self.kern_mask (value_at l.self.ends_at_missing l.self.values.now l.self.step) l.self.step l.stack l.index l.buffer
      ≡ popped l.self.is_cross_stream l.self.kern_mask (value_at l.self.ends_at_missing l.self.values.now l.self.step) l.self.step l.fn.stack l.first l.fn.buffer;
  placed : IsPlaced l.buffer;
  below : l.index + 65535 * length l.stack ≤ 65535 * 9;
}

abbrev pub decreases-loop-place : goal.decreases-loop-place
decreases-loop-place g l = length l.stack
