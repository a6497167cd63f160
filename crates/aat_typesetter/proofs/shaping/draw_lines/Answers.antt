use Rattle.std.proofs.Common.{◌≡◌, ◌∙◌, List, Option, ap, ap₂, length, rules, subst}
use Rattle.aat_characters.specs.declared.script_rules.ScriptRules.{ScriptRules}
use Rattle.aat_font.specs.declared.face.hb_font_t.{hb_font_t}
use Rattle.aat_font.specs.declared.plan.Feature.{Feature}
use Rattle.aat_glyph.specs.declared.glyph.Direction.{Direction}
use Rattle.aat_shaped_text.specs.ShapedText.{shaped_text}
use Rattle.aat_shaped_text.specs.declared.text.TextGlyph.{TextGlyph}
use Rattle.aat_shaper.specs.Lines.{RefusesLines, end_of}
use Rattle.aat_shaper.specs.Shaper.{value_along}
use Rattle.aat_typesetter.specs.Prepared.{Prepared}
use Rattle.aat_typesetter.specs.ScriptSettings.{features_for}
use Rattle.aat_typesetter.specs.Typeset.{shaped_setting}
use Rattle.aat_typesetter.specs.TypesetLines.{RefusesParts, end_of_lines}
use Rattle.aat_typesetter.specs.inside.Inside.{setting_by, showing_by}
use Rattle.aat_typesetter.proofs.EndsKept.{ends_kept}
use Rattle.aat_typesetter.proofs.shaping.draw_lines.Goals as goal

pub returns-clause-shaped : goal.returns-clause-shaped
unfolding shaped_setting
returns-clause-shaped g c =
    let shaper = c.args.shaper.now in
    let text = c.args.text.now in
    let asked : c.deref-3.result.now ≡ features_for shaper.font text.rules c.args.features.now =
    c.deref-3.ensures.value
    ∙ (c.in_ok-put_features.ensures
    ∙ ap₂ (λ (f : hb_font_t) (r : Option ScriptRules). features_for f r c.args.features.now) c.font-font.ensures
    (ap (λ (p : Prepared). p.rules) c.text.view_is))
    in
    c.in_ok-lines.ensures.whole
    ∙ (ap₂ (λ (d : Direction) (t : List TextGlyph). shaped_text (value_along shaper.values d) shaper.font d c.deref-3.result.now t)
    (ap (λ (p : Prepared). p.direction) c.text.view_is) (c.deref-2.ensures.value ∙ ap (λ (p : Prepared). p.glyphs) c.text.view_is)
    ∙ ap (λ (fs : List Feature). shaped_text (value_along shaper.values text.direction) shaper.font text.direction fs text.glyphs) asked)

pub returns-clause-end : goal.returns-clause-end
returns-clause-end g c =
    ap end_of_lines c.in_ok-set.ensures
    ∙ (ends_kept (showing_by c.args.face.now c.shown_for-showing.result) c.deref-5.result.now 0 0 c.deref-6.result.now
    ∙ (ap end_of c.deref-6.ensures.value
    ∙ (c.in_ok-lines.ensures.end ∙ ap length (c.deref-2.ensures.value ∙ ap (λ (p : Prepared). p.glyphs) c.text.view_is))))

pub returns-in_err-lines-clause-refused : goal.returns-in_err-lines-clause-refused
unfolding RefusesParts
returns-in_err-lines-clause-refused g c =
    let shaper = c.args.shaper.now in
    let text = c.args.text.now in
    let error = c.in_err-lines.field-0.0 in
    let asked : c.deref-3.result.now ≡ features_for shaper.font text.rules c.args.features.now =
    c.deref-3.ensures.value
    ∙ (c.in_ok-put_features.ensures
    ∙ ap₂ (λ (f : hb_font_t) (r : Option ScriptRules). features_for f r c.args.features.now) c.font-font.ensures
    (ap (λ (p : Prepared). p.rules) c.text.view_is))
    in
    let ByDirection : Direction → Type 0 = λ d. RefusesLines shaper.font d c.deref-3.result.now c.deref-2.result.now error in
    let ByFeatures : List Feature → Type 0 = λ fs. RefusesLines shaper.font text.direction fs c.deref-2.result.now error in
    let ByText : List TextGlyph → Type 0 =
    λ t. RefusesLines shaper.font text.direction (features_for shaper.font text.rules c.args.features.now) t error
    in
    let refused : RefusesParts (setting_by c.args.face.now shaper c.args.features.now text) error =
    subst ByText (c.deref-2.ensures.value ∙ ap (λ (p : Prepared). p.glyphs) c.text.view_is)
    (subst ByFeatures asked (subst ByDirection (ap (λ (p : Prepared). p.direction) c.text.view_is) c.in_err-lines.ensures.refused))
    in
    search rules
