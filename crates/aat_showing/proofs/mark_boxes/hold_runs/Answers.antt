use Rattle.std.proofs.Common.{Bool, arith}
use Rattle.aat_shaped_text.specs.Parts.{no_shaped_glyph}
use Rattle.aat_shaped_text.specs.declared.text.ShapedGlyph.{ShapedGlyph}
use Rattle.aat_showing.specs.MarkBoxes.{begins_run, held}
use Rattle.aat_showing.proofs.Scanned.{one_scanned}
use Rattle.aat_showing.proofs.mark_boxes.hold_runs.Goals as goal

pub loop-i-preserved : goal.loop-i-preserved
loop-i-preserved c =
    one_scanned (λ (begun : Bool) (g : ShapedGlyph). begins_run g) (held c.args.direction) c.loop-i.glyphs _ no_shaped_glyph c.held.result c.loop-i.begun
    c.begins_run-begun.result c.loop-i.i (omega arith) c.held.ensures c.begins_run-begun.ensures c.loop-i.invariant
