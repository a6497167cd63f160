use Rattle.std.proofs.Common.{◌≡◌, ◌∙◌, List, Option, ap, ap₂, sym}
use Rattle.aat_characters.specs.declared.script_rules.ScriptRules.{ScriptRules}
use Rattle.aat_font.specs.declared.face.hb_font_t.{hb_font_t}
use Rattle.aat_font.specs.declared.plan.Feature.{Feature}
use Rattle.aat_glyph.specs.declared.glyph.Direction.{Direction}
use Rattle.aat_shaped_text.specs.ShapedText.{shaped_text}
use Rattle.aat_shaped_text.specs.declared.text.ShapedGlyph.{ShapedGlyph}
use Rattle.aat_shaped_text.specs.declared.text.TextGlyph.{TextGlyph}
use Rattle.aat_shaper.specs.Shaper.{value_along}
use Rattle.aat_showing.specs.HiddenParts.{Showing, shown}
use Rattle.aat_typesetter.specs.Prepared.{Prepared}
use Rattle.aat_typesetter.specs.ScriptSettings.{features_for}
use Rattle.aat_typesetter.specs.Typeset.{drawn_setting, shaped_setting, showing_for}
use Rattle.aat_typesetter.specs.inside.Drawn.{drawn_by}
use Rattle.aat_typesetter.specs.inside.Inside.{showing_by}
use Rattle.aat_typesetter.proofs.shaping.draw.Goals as goal

pub returns-clause-shaped : goal.returns-clause-shaped
unfolding shaped_setting
returns-clause-shaped g c =
    let shaper = c.args.shaper.now in
    let text = c.args.text.now in
    let asked : c.deref-2.result.now ≡ features_for shaper.font text.rules c.args.features.now =
    c.deref-2.ensures.value
    ∙ (c.in_ok-put_features.ensures
    ∙ ap₂ (λ (f : hb_font_t) (r : Option ScriptRules). features_for f r c.args.features.now) c.font-font.ensures
    (ap (λ (p : Prepared). p.rules) c.text.view_is))
    in
    c.in_ok-shape.ensures.shaped
    ∙ (ap₂ (λ (d : Direction) (t : List TextGlyph). shaped_text (value_along shaper.values d) shaper.font d c.deref-2.result.now t)
    (ap (λ (p : Prepared). p.direction) c.text.view_is) (c.deref.ensures.value ∙ ap (λ (p : Prepared). p.glyphs) c.text.view_is)
    ∙ ap (λ (fs : List Feature). shaped_text (value_along shaper.values text.direction) shaper.font text.direction fs text.glyphs) asked)

pub returns-clause-drawn : goal.returns-clause-drawn
unfolding drawn_setting
returns-clause-drawn g c =
    let face = c.args.face.now in
    let shaper = c.args.shaper.now in
    let text = c.args.text.now in
    let showing : showing_by face c.shown_for-showing.result ≡ showing_for face shaper.font text.rules text.direction =
    c.shown_for-showing.ensures
    ∙ (ap (λ (f : hb_font_t). showing_for face f c.text.inside.rules c.text.inside.direction) c.font-font.ensures
    ∙ ap (λ (p : Prepared). showing_for face shaper.font p.rules p.direction) c.text.view_is)
    in
    ap (λ (gs : List ShapedGlyph). drawn_by c.in_ok-drawn.drawn.is_as_shaped gs c.in_ok-drawn.drawn.glyphs.items) (sym c.glyphs.ensures)
    ∙ (c.in_ok-drawn.ensures
    ∙ (ap (λ (s : Showing). shown s c.glyphs.result.now) showing
    ∙ ap (shown (showing_for face shaper.font text.rules text.direction)) (c.glyphs.ensures ∙ returns-clause-shaped g c)))
