use Rattle.std.proofs.Common.{◌≡◌, pos, negsuc, cond}
use Rattle.aat_glyph.specs.Directions.{is_backward}
use Rattle.aat_kerning_machines.specs.Positions.{attached_as}
use Rattle.aat_kerning.proofs.Attached.{on_first_positions}
use Rattle.aat_kerning.proofs.positioning.attach_cursively.Given as goal

abbrev pub invariant-loop-i : goal.invariant-loop-i
invariant-loop-i g l = record {
  done : l.buffer ≡ on_first_positions (attached_as 2 (cond (is_backward l.fn.buffer.direction) (pos 1) (negsuc 0))) l.i l.fn.buffer;
}
