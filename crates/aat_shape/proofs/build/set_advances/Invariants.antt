use Rattle.std.proofs.Common.{◌≡◌, length}
use Rattle.aat_layout.specs.Buffer.{position_list}
use Rattle.aat_shape.proofs.build.set_advances.Given as goal

abbrev pub invariant-loop-i : goal.invariant-loop-i
invariant-loop-i l = length (position_list l.buffer) ≡ l.i-end
