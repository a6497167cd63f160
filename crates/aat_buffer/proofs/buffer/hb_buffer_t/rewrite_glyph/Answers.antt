use Rattle.std.proofs.Common.{◌≡◌, ◌<◌, ◌∙◌, List, ap, arith, length, length-set, refl, sym}
use Rattle.std.proofs.lemmas.Option.{get_or_from_slice_get}
use Rattle.aat_glyph.specs.declared.glyph.hb_glyph_info_t.{hb_glyph_info_t}
use Rattle.aat_buffer.specs.Buffer.{Buffer, glyph_at, no_glyph, with_info}
use Rattle.aat_buffer.proofs.Marked.{kept_at_place, merged_at_place}
use Rattle.aat_buffer.proofs.buffer.hb_buffer_t.rewrite_glyph.Goals as goal

pub invariant_of-self : goal.invariant_of-self
invariant_of-self g c =
    let a = c.self.inside in
    let gs = a.line.glyphs in
    let x = c.get_mut-place.result.now in
    let lines : gs ≡ c.args.self.now.line = ap (λ (b : Buffer). b.line) c.self.view_is in
    let inside : c.args.i < length gs = omega (arith, c.requires, ap length lines) in
    let count = length-set gs c.args.i (record c.args.glyph { mask = x.mask; cluster = x.cluster }) in
    record {
      in_line = omega (arith, count, c.self.invariant.in_line);
      within_max = omega (arith, count, c.self.invariant.within_max);
      small = c.self.invariant.small;
      placed = λ stand. c.self.invariant.placed stand ∙ sym count;
      marked = kept_at_place gs c.args.i x (record c.args.glyph { mask = x.mask; cluster = x.cluster }) c.get_mut-place.ensures.value inside refl (λ was. was) a.marked c.self.invariant.marked;
      merged = merged_at_place gs c.args.i x (record c.args.glyph { mask = x.mask; cluster = x.cluster }) c.get_mut-place.ensures.value inside refl (λ was. was) a.merged c.self.invariant.merged;
    }

pub returns-clause-after : goal.returns-clause-after
returns-clause-after g c =
    let gs = c.self.inside.line.glyphs in
    let x = c.get_mut-place.result.now in
    let lines : gs ≡ c.args.self.now.line = ap (λ (b : Buffer). b.line) c.self.view_is in
    let read : x ≡ glyph_at c.args.self.now.line c.args.i =
    sym (get_or_from_slice_get gs c.args.i x no_glyph c.get_mut-place.ensures.value) ∙ ap (λ (xs : List hb_glyph_info_t). glyph_at xs c.args.i) lines in
    ap (λ (b : Buffer). with_info b c.args.i (record c.args.glyph { mask = x.mask; cluster = x.cluster })) c.self.view_is ∙ ap (λ (z : hb_glyph_info_t). with_info c.args.self.now c.args.i (record c.args.glyph { mask = z.mask; cluster = z.cluster })) read
