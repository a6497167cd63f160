use Rattle.std.proofs.Common.{◌∙◌, arith, refl}
use Rattle.std.proofs.lemmas.List.{length-set}
use Rattle.aat_buffer.specs.Buffer.{glyph_at}
use Rattle.aat_shaped_text.specs.Parts.{shaped_at}
use Rattle.aat_drawn_text.proofs.DrawnPlaces.{taken_more}
use Rattle.aat_drawn_text.proofs.drawn.take_clusters.Goals as goal

pub loop-i-preserved : goal.loop-i-preserved
loop-i-preserved c =
    let l = c.loop-i in
    record {
      done = taken_more c.args.line.now c.args.glyphs.now l.glyphs l.i (glyph_at c.args.line.now l.i) (omega (arith, c.loop-i-test.true, c.requires)) (omega (arith, c.loop-i-test.true))
          refl l.invariant.done;
      len = length-set l.glyphs l.i (record (shaped_at l.glyphs l.i) { cluster = (glyph_at c.args.line.now l.i).cluster }) ∙ l.invariant.len;
    }
