use Rattle.std.proofs.Common.{◌≡◌, ◌≤◌, ◌^◌, List, ap₂, length, rules, subst, sym}
use Rattle.aat_shaped_text.specs.declared.text.ShapedGlyph.{ShapedGlyph}
use Rattle.aat_typesetter.specs.Typeset.{BreaksHoldIn, IsWithinLimits, RefusesSetting, Setting, TypesetterValue, drawn_setting, setting, setting_of}
use Rattle.aat_typesetter.specs.Prepared.{Prepared}
use Rattle.aat_typesetter.specs.TypesetErrors.{RefusesTypesetting}
use Rattle.aat_typesetter.proofs.BreaksHeld.{breaks_hold}
use Rattle.aat_typesetter.proofs.Refusals.{refused_besides}
use Rattle.aat_typesetter.proofs.typesetter.Typesetter.line.Goals as goal

pub returns-clause-breaks : goal.returns-clause-breaks
returns-clause-breaks g c =
    let s = setting c.args.self.now c.args.options.now c.args.text.now in
    let drawn : c.set.new.self.glyphs ≡ drawn_setting s = search rules in
    let fits : IsWithinLimits s = search rules in
    subst (λ (gs : List ShapedGlyph). BreaksHoldIn s gs) (sym drawn) (breaks_hold s c.breaks_hold_as_shown.ensures fits)

pub returns-in_err-set-clause-refused : goal.returns-in_err-set-clause-refused
returns-in_err-set-clause-refused g c =
    let options = c.args.options.now in
    let text = c.args.text.now in
    let same : setting_of c.prepare.new.self options c.in_ok-ready.ready ≡ setting c.args.self.now options text =
    ap₂ (λ (t : TypesetterValue) (p : Prepared). setting_of t options p) c.in_ok-ready.ensures.left c.in_ok-ready.ensures.ok
    in
    let refused : RefusesTypesetting (2 ^ 32 ≤ length text) (RefusesSetting (setting c.args.self.now options text)) c.in_err-set.field-0.0 =
    refused_besides (2 ^ 32 ≤ length text) (RefusesSetting (setting c.args.self.now options text)) c.in_err-set.field-0.0
    (subst (λ (s : Setting). RefusesTypesetting ⊥ (RefusesSetting s) c.in_err-set.field-0.0) same c.in_err-set.ensures.refused)
    in
    search rules
