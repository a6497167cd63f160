use Rattle.std.proofs.Common.{◌∙◌, ◌+◌, ◌<◌, List, ap, arith, length, map}
use Rattle.aat_shaped_text.specs.declared.text.ShapedGlyph.{ShapedGlyph}
use Rattle.aat_records.specs.Lines.{filled_from}
use Rattle.aat_records.specs.Records.{as_it_is, glyph_record}
use Rattle.aat_records.proofs.LinesPut.{one_count, one_line}
use Rattle.aat_records.proofs.lines.put_glyphs.Goals as goal

pub loop-i-preserved : goal.loop-i-preserved
loop-i-preserved c =
    let inside : c.loop-i.i < length c.args.lines.now = omega arith in
    record {
      counted = ap (λ (own : List ShapedGlyph). c.loop-i.count + length own) c.glyphs-glyphs.ensures
          ∙ one_count c.args.lines.now c.loop-i.i c.index-lines-i.result c.loop-i.count inside c.index-lines-i.is
          c.loop-i.invariant.counted;
      put = one_line c.args.lines.now c.loop-i.i c.index-lines-i.result c.args.out.now c.loop-i.out
          c.put_behind.new.out c.loop-i.count inside c.index-lines-i.is c.loop-i.invariant.counted c.loop-i.invariant.put
          (c.put_behind.ensures
          ∙ ap (λ (own : List ShapedGlyph). filled_from c.loop-i.count (map (glyph_record as_it_is) own) c.loop-i.out)
          c.glyphs-glyphs.ensures);
    }
