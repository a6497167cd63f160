use Rattle.std.proofs.Common.{◌∙◌, ap, refl, true, None, arith, set}
use Rattle.std.proofs.lemmas.List.{length-set, get_or_default}
use Rattle.std.proofs.lemmas.List.Edits.{map_over_more}
use Rattle.std.proofs.lemmas.List.Elements.{All-set}
use Rattle.aat_buffer.specs.Buffer.{Is16Bit}
use Rattle.aat_kinds.specs.Values.{with_looked_up_value}
use Rattle.aat_kinds.proofs.noncontextual.move_alone.Goals as goal

pub loop-glyph-preserved : goal.loop-glyph-preserved
loop-glyph-preserved c =
    let xs = c.args.glyphs.now in
    let ys = c.loop-glyph.glyphs in
    let i = c.loop-glyph.glyph-index in
    let was = c.loop-glyph.invariant in
    let f = with_looked_up_value (λ _. true) None c.args.lookup.now in
    record {
      done = ap (set ys i) (c.moved_alone.ensures.replaced (λ _. true) c.args.lookup.now refl c.requires.moves) ∙ map_over_more f xs ys i _ (omega (arith, was.same_length)) was.done (get_or_default ys i _ _ (omega arith));
      same_length = length-set ys i c.moved_alone.result ∙ was.same_length;
      small = All-set Is16Bit ys i c.moved_alone.result c.moved_alone.ensures.small was.small;
    }
