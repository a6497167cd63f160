use Rattle.aat_glyph.proofs.placement.Besides.{alike}
use Rattle.aat_glyph.proofs.placement.Wraps.{mark_offset_is}
use Rattle.aat_glyph.proofs.placement.offsets.marked.Goals as goal

pub returns : goal.returns
returns c =
    let parent = c.args.followed.now in
    let there = c.args.followed_pen in
    let q = c.args.position in
    let pen = c.args.pen in
    alike q _ _ _ _
    (mark_offset_is parent.x_offset q.x_offset there.x pen.x)
    (mark_offset_is parent.y_offset q.y_offset there.y pen.y)
