use Rattle.std.proofs.Common.{◌∙◌, ap, sym}
use Rattle.aat_font.specs.declared.face.hb_font_t.{hb_font_t}
use Rattle.aat_shaped_text.specs.ShapedText.{shaped_text}
use Rattle.aat_shaper.proofs.Stretches.{whole_refused}
use Rattle.aat_shaper.specs.Shaper.{TrackValues, value_along}
use Rattle.aat_shaper.proofs.shaper.Shaper.shape_lines.Goals as goal

pub returns-in-Err-clause-refused : goal.returns-in-Err-clause-refused
returns-in-Err-clause-refused g c =
    whole_refused c.args.self.now.font c.args.direction c.args.features.now c.args.text.now c.in-Err.error
    c.in-Err.ensures.refused

pub lines_of-lines-requires-clause-shaped : goal.lines_of-lines-requires-clause-shaped
lines_of-lines-requires-clause-shaped g c =
    let d = c.args.direction in
    let features = c.args.features.now in
    let text = c.args.text.now in
    let old = c.args.self.now in
    let e = c.in-Ok.ensures in
    e.shaped
    ∙ (ap (λ (values : TrackValues). shaped_text (value_along values d) old.font d features text) (sym e.values)
    ∙ ap (λ (f : hb_font_t). shaped_text (value_along c.shape.new.self.values d) f d features text) (sym e.font))
