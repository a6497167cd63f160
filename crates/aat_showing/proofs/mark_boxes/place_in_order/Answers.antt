use Rattle.std.proofs.Common.{arith}
use Rattle.aat_shaped_text.specs.Parts.{no_shaped_glyph}
use Rattle.aat_showing.specs.FaceMetrics.{mark_placing}
use Rattle.aat_showing.specs.MarkBoxes.{next_base, placed}
use Rattle.aat_showing.specs.inside.KnownBases.{told_base}
use Rattle.aat_showing.proofs.Scanned.{one_scanned}
use Rattle.aat_showing.proofs.mark_boxes.place_in_order.Goals as goal

pub loop-i-preserved : goal.loop-i-preserved
loop-i-preserved c =
    let p = mark_placing c.args.face.now c.args.direction c.args.moves in
    one_scanned (next_base p) (placed p) c.loop-i.glyphs _ no_shaped_glyph c.placed_next-next.result.0 (told_base p c.loop-i.known)
    (told_base p c.placed_next-next.result.1) c.loop-i.i (omega arith) c.placed_next-next.ensures.glyph c.placed_next-next.ensures.base c.loop-i.invariant
