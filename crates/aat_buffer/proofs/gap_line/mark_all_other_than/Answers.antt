use Rattle.std.proofs.Common.{arith, ap, ◌∙◌, set}
use Rattle.std.proofs.lemmas.List.{get_or_default, length-set}
use Rattle.std.proofs.lemmas.List.Edits.{map_over_more}
use Rattle.aat_buffer.specs.Marks.{marked_above}
use Rattle.aat_buffer.proofs.gap_line.mark_all_other_than.Goals as goal

pub loop-glyph-preserved : goal.loop-glyph-preserved
loop-glyph-preserved c =
    let xs = c.args.glyphs.now in
    let ys = c.loop-glyph.glyphs in
    let i = c.loop-glyph.glyph-index in
    record {
      done = ap (set ys i) c.mark_glyph_other_than.ensures ∙ map_over_more (marked_above c.args.cluster 3) xs ys i _ (omega (arith, c.loop-glyph.invariant.len)) c.loop-glyph.invariant.done (get_or_default ys i _ _ (omega arith));
      len = length-set ys i c.mark_glyph_other_than.new.glyph ∙ c.loop-glyph.invariant.len;
    }
