use mir.Val.{of_z, to_z}
use Rattle.std.proofs.Common.{◌≡◌, ◌∙◌, ap, arith, length, rules, sym, ℤ}
use Rattle.std.proofs.lemmas.Int.{to_z-of_z}
use Rattle.std.specs.Int.{w32}
use Rattle.std.specs.Int.RustNames.{FitsSigned}
use Rattle.aat_font.specs.declared.face.hb_font_t.{hb_font_t}
use Rattle.aat_shaped_text.specs.ShapedText.{shaped_text}
use Rattle.aat_shaper.specs.Shaper.{value_along}
use Rattle.aat_shaper.proofs.shaper.Shaper.lines_at.Goals as goal

pub fill-requires-clause-ready : goal.fill-requires-clause-ready
fill-requires-clause-ready g c =
    let d = c.args.direction in
    let features = c.args.features.now in
    let text = c.args.text.now in
    let shaper = c.args.self.now in
    let z = c.tracking_along.result in
    let fits : FitsSigned w32 z = search rules in
    let value : value_along shaper.values d ≡ to_z w32 (of_z w32 z) = sym (to_z-of_z w32 z fits ∙ c.tracking_along.ensures) in
    let font : shaper.font ≡ c.font.result.now = sym c.font.ensures in
    record {
      short = c.requires.short;
      stops = c.requires.stops;
      drawn =
          c.glyphs.ensures
          ∙ (c.requires.shaped
          ∙ (ap (λ (v : ℤ). shaped_text v shaper.font d features text) value
          ∙ ap (λ (f : hb_font_t). shaped_text (to_z w32 (of_z w32 z)) f d features text) font));
      bounded = (let few = c.requires.bounded in omega (arith, few, ap length c.glyphs.ensures));
    }
