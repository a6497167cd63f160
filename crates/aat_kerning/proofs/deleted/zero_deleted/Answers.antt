use Rattle.std.proofs.Common.{◌≡◌, ◌+◌, ◌∙◌, ap, suc, List, arith, get_or, set}
use Rattle.std.proofs.lemmas.List.{length-set}
use Rattle.aat_glyph.specs.declared.glyph.GlyphPosition.{GlyphPosition}
use Rattle.aat_buffer.specs.Buffer.{no_glyph, zero_position}
use Rattle.aat_kerning.specs.Zeroing.{zeroed_position}
use Rattle.aat_kerning.proofs.Zeroed.{zeroed_first, zeroed_step}
use Rattle.aat_kerning.proofs.deleted.zero_deleted.Goals as goal

pub loop-i-preserved : goal.loop-i-preserved
loop-i-preserved c =
    let gs = c.args.glyphs.now in
    let qs = c.args.positions.now in
    let i = c.loop-i.i in
    let was = c.loop-i.invariant in
    let next : suc i ≡ i + 1 = omega arith in
    record {
      done =
          ap (set c.loop-i.positions i) c.zero_position.ensures
          ∙ ap (λ (ps : List GlyphPosition). set ps i (zeroed_position (get_or gs i no_glyph) (get_or ps i zero_position))) was.done
          ∙ zeroed_step gs qs i (omega (arith, c.requires, c.loop-i-test.true)) c.loop-i-test.true
          ∙ ap (λ n. zeroed_first n gs qs) next;
      len = length-set c.loop-i.positions i c.zero_position.new.position ∙ was.len;
    }
