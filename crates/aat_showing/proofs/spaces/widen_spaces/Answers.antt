use Rattle.std.proofs.Common.{arith, get_or, rules}
use Rattle.std.proofs.lemmas.List.{drop_all, get_or_default, take_all}
use Rattle.std.proofs.lemmas.List.Edits.{map_over_more}
use Rattle.aat_shaped_text.specs.Parts.{no_shaped_glyph}
use Rattle.aat_shaped_text.specs.declared.text.ShapedGlyph.{ShapedGlyph}
use Rattle.aat_showing.specs.FaceMetrics.{space_metrics}
use Rattle.aat_showing.specs.Spaces.{widened}
use Rattle.aat_showing.proofs.spaces.widen_spaces.Goals as goal

pub loop-i-preserved : goal.loop-i-preserved
loop-i-preserved c =
    let own : ShapedGlyph → ShapedGlyph = λ g. widened (space_metrics c.args.face.now c.args.direction) g.kind g in
    let old : ShapedGlyph = get_or c.loop-i.glyphs c.loop-i.i no_shaped_glyph in
    rw c.widened.ensures (map_over_more own c.args.glyphs.now c.loop-i.glyphs c.loop-i.i old (omega arith) c.loop-i.invariant
    (get_or_default c.loop-i.glyphs c.loop-i.i no_shaped_glyph old (omega arith)))

pub returns : goal.returns
returns c = search (rules, take_all, drop_all)
