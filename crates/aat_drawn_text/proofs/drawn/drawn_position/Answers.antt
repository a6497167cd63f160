use Rattle.std.proofs.Common.{◌∙◌, ap, arith, length}
use Rattle.aat_buffer.specs.Buffer.{position_list}
use Rattle.aat_glyph.specs.placement.Attachments.{IsUnattached}
use Rattle.aat_drawn_text.specs.inside.Drawing.{IsDrawn}
use Rattle.aat_drawn_text.proofs.DrawnPlaces.{length_of_added}
use Rattle.aat_drawn_text.proofs.Unattached.{own_position}
use Rattle.aat_drawn_text.proofs.drawn.drawn_position.Goals as goal

pub bounds-drawn-i : goal.bounds-drawn-i
bounds-drawn-i g c =
    let b = c.args.buffer.now in
    let known : IsDrawn b c.in-Some.drawn = rw c.in-Some.is at c.requires.attached in
    omega (arith, c.requires.in_line, c.requires.placed, ap length c.requires.line, length_of_added b.direction (position_list b) c.in-Some.drawn.added.now known.added)

pub returns-in-None : goal.returns-in-None
returns-in-None g c =
    let b = c.args.buffer.now in
    let alone : IsUnattached b.direction (position_list b) = rw c.in-None.is at c.requires.attached in
    c.pos.ensures.read ∙ own_position b c.args.i alone

pub offset_bounds-drawn-i : goal.offset_bounds-drawn-i
offset_bounds-drawn-i g c = omega (arith, c.requires.in_line)
