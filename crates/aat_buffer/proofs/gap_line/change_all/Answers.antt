use Rattle.std.proofs.Common.{arith, ap, sym, refl, ◌∙◌, set}
use Rattle.std.proofs.lemmas.List.{get_or_default, length-set}
use Rattle.std.proofs.lemmas.List.Edits.{map_over_more}
use Rattle.std.proofs.iter.Next.{says_at}
use Rattle.aat_buffer.proofs.gap_line.change_all.Goals as goal

pub loop-glyph-preserved : goal.loop-glyph-preserved
loop-glyph-preserved g c =
    let xs = c.args.glyphs.now in
    let ys = c.loop-glyph.glyphs in
    let i = c.loop-glyph.glyph-index in
    record {
      done = λ f by. ap (set ys i) (sym (by _ _ (says_at g.F.Fn c.change.ensures refl))) ∙ map_over_more f xs ys i _ (omega (arith, c.loop-glyph.invariant.len)) (c.loop-glyph.invariant.done f by) (get_or_default ys i _ _ (omega arith));
      len = length-set ys i c.change.result ∙ c.loop-glyph.invariant.len;
    }
