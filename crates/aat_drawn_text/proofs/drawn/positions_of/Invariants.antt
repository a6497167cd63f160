use Rattle.std.proofs.Common.{◌≡◌, take}
use Rattle.aat_buffer.specs.Buffer.{position_list}
use Rattle.aat_drawn_text.proofs.drawn.positions_of.Given as goal

abbrev pub invariant-loop-i : goal.invariant-loop-i
invariant-loop-i g l = l.positions.items ≡ take l.i (position_list l.fn.buffer)
