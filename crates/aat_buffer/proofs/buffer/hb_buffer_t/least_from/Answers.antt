use Rattle.std.proofs.Common.{ℕ, ap, fold, min, sym, ◌∙◌}
use Rattle.std.proofs.lemmas.List.Sums.{fold-append}
use Rattle.aat_glyph.specs.declared.glyph.hb_glyph_info_t.{hb_glyph_info_t}
use Rattle.aat_buffer.proofs.buffer.hb_buffer_t.least_from.Goals as goal

pub returns : goal.returns
returns g c =
    let f = λ (m : ℕ) (x : hb_glyph_info_t). min m x.cluster in
    c.least_with-2.ensures ∙ ap (λ m. fold f m c.parts.result.1.now) c.least_with.ensures
    ∙ sym (fold-append f c.args.cluster c.parts.result.0.now c.parts.result.1.now) ∙ ap (fold f c.args.cluster) c.parts.ensures
