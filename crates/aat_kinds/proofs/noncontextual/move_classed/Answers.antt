use Rattle.std.proofs.Common.{◌∙◌, ap, refl, true, arith, set}
use Rattle.std.proofs.lemmas.List.{length-set, get_or_default}
use Rattle.std.proofs.lemmas.List.Edits.{map_over_more}
use Rattle.std.proofs.lemmas.List.Elements.{All-set}
use Rattle.aat_buffer.specs.Buffer.{Is16Bit}
use Rattle.aat_font.specs.Face.{glyph_classes_of}
use Rattle.aat_kinds.specs.Values.{with_looked_up_value}
use Rattle.aat_kinds.proofs.noncontextual.move_classed.Goals as goal

pub loop-glyph-preserved : goal.loop-glyph-preserved
loop-glyph-preserved c =
    let xs = c.args.glyphs.now in
    let ys = c.loop-glyph.glyphs in
    let i = c.loop-glyph.glyph-index in
    let was = c.loop-glyph.invariant in
    let f = with_looked_up_value (λ _. true) (glyph_classes_of c.args.face.now) c.args.lookup.now in
    record {
      done = ap (set ys i) (c.moved.ensures.replaced (λ _. true) c.args.lookup.now refl c.requires.moves) ∙ map_over_more f xs ys i _ (omega (arith, was.same_length)) was.done (get_or_default ys i _ _ (omega arith));
      same_length = length-set ys i c.moved.result ∙ was.same_length;
      small = All-set Is16Bit ys i c.moved.result c.moved.ensures.small was.small;
    }
