use Rattle.std.proofs.Common.{false, arith}
use Rattle.std.proofs.lemmas.List.Elements.{All-push}
use Rattle.aat_buffer.specs.Buffer.{Is16Bit}
use Rattle.aat_shaped_text.specs.declared.text.CharacterKind.TheVariants.{Other}
use Rattle.aat_drawn_text.proofs.LineMade.{line_more}
use Rattle.aat_drawn_text.proofs.line.line_of.Goals as goal

pub loop-glyph-preserved : goal.loop-glyph-preserved
loop-glyph-preserved g c =
    let l = c.loop-glyph in
    let x = c.line_glyph.result in
    record {
      made =
          line_more c.args.face.now c.args.features.now c.args.text.now l.glyph-index (record { glyph_id = 0; cluster = 0; is_ignorable = false; is_mark = false; kind = Other }) x l.line.items
          c.loop-glyph-test.true c.line_glyph.ensures.value c.push_reserved.ensures.items l.invariant.made;
      ids =
          rw c.push_reserved.ensures.items
          (All-push Is16Bit l.line.items x l.invariant.ids c.line_glyph.ensures.small);
      count = omega (arith, c.push_reserved.ensures.len, l.invariant.count);
      room = omega (arith, c.push_reserved.ensures.capacity, l.invariant.room);
    }
