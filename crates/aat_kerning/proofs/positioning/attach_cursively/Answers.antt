use Rattle.std.proofs.Common.{◌≡◌, ◌≤◌, ◌<◌, ◌∙◌, ap, cond, pos, negsuc, arith, length}
use Rattle.aat_buffer.specs.Buffer.{position_list}
use Rattle.aat_glyph.specs.Directions.{is_backward}
use Rattle.aat_glyph.specs.declared.glyph.Direction.{Direction}
use Rattle.aat_glyph.specs.declared.glyph.GlyphPosition.{GlyphPosition}
use Rattle.aat_kerning_machines.specs.Positions.{attached_as}
use Rattle.aat_kerning.proofs.Attached.{attached_all, attached_more, attached_none, attached_places}
use Rattle.aat_kerning.proofs.positioning.attach_cursively.Goals as goal

-- what is done to each position of a text in this direction
abbrev change : Direction → GlyphPosition → GlyphPosition
change d = attached_as 2 (cond (is_backward d) (pos 1) (negsuc 0))

pub loop-i-init : goal.loop-i-init
loop-i-init g c = record { done = attached_none (change c.args.buffer.now.direction) c.args.buffer.now }

pub pos_mut-position-requires : goal.pos_mut-position-requires
pos_mut-position-requires g c =
    let start = c.args.buffer.now in
    omega (arith, attached_places (change start.direction) start c.loop-i.buffer c.loop-i.i c.loop-i.invariant.done, c.requires, c.len-i-end.ensures.count, c.loop-i-test.true)

pub loop-i-preserved : goal.loop-i-preserved
loop-i-preserved g c =
    let start = c.args.buffer.now in
    let x = c.pos_mut-position.result.now in
    let low : c.loop-i.i < length (position_list start) = omega (arith, c.requires, c.len-i-end.ensures.count, c.loop-i-test.true) in
    let wrote : c.attached_cursively.result ≡ change start.direction x =
    c.attached_cursively.ensures ∙ ap (λ (d : Direction). change d x) c.direction-direction.ensures in
    record {
      done = attached_more (change start.direction) start c.loop-i.buffer c.loop-i.i x c.attached_cursively.result low c.loop-i.invariant.done c.pos_mut-position.ensures.value wrote;
    }

pub returns-clause-attached : goal.returns-clause-attached
returns-clause-attached g c =
    let start = c.args.buffer.now in
    let past : length (position_list start) ≤ c.loop-i.i = omega (arith, c.requires, c.len-i-end.ensures.count, c.loop-i-test.false) in
    attached_all (change start.direction) start c.loop-i.buffer c.loop-i.i past c.loop-i.invariant.done
