use Rattle.std.proofs.Common.{◌≡◌, ◌∙◌, ◌≤◌, ◌^◌, ℕ, List, ap, length, subst}
use Rattle.std.specs.Prelude.{IfErr, IfOk, OnOk}
use Rattle.aat_text.specs.LineEnds.{line_ends}
use Rattle.aat_text.specs.declared.lines.LineEnd.{LineEnd}
use Rattle.aat_typesetter.specs.Prepared.{Prepared, options_for_lines, prepared}
use Rattle.aat_typesetter.specs.Typeset.{IsWithinLimits, Setting, TypesetterValue, nothing_set, setting_for_lines, setting_of}
use Rattle.aat_typesetter.specs.TypesetErrors.{RefusesTypesetting}
use Rattle.aat_typesetter.specs.TypesetLines.{AreSetLines, RefusesParts}
use Rattle.aat_typesetter.specs.declared.options.TextOptions.{TextOptions}
use Rattle.aat_typesetter.proofs.Refusals.{results_besides}
use Rattle.aat_typesetter.proofs.typesetter.Typesetter.lines.Goals as goal

-- what is broken into lines is that of the definition
same_setting :
    (t u : TypesetterValue) (told asked : TextOptions) (ready : Prepared) (text : List ℕ)
    → u ≡ nothing_set t → told ≡ asked → ready ≡ prepared t.face told text
    → setting_of u told ready ≡ setting_of t asked (prepared t.face asked text)
same_setting t u told asked ready text forgot same_told made =
    ap (λ (v : TypesetterValue). setting_of v told ready) forgot
    ∙ (ap (λ (o : TextOptions). setting_of t o ready) same_told
    ∙ ap (λ (p : Prepared). setting_of t asked p)
    (made ∙ ap (λ (o : TextOptions). prepared t.face o text) same_told))

pub returns-clause-lines : goal.returns-clause-lines
returns-clause-lines g c =
    let options = c.args.options.now in
    let text = c.args.text.now in
    let told = c.options_for_lines-told.result in
    let same : setting_of c.prepare.new.self told c.in_ok-ready.ready ≡ setting_for_lines c.args.self.now options text =
    same_setting c.args.self.now c.prepare.new.self told (options_for_lines options text) c.in_ok-ready.ready text c.in_ok-ready.ensures.left c.options_for_lines-told.ensures c.in_ok-ready.ensures.ok
    in
    let ends : c.deref.result.now ≡ line_ends options.unit text = c.deref.ensures.value ∙ c.in_ok-ends.ensures.ok in
    subst (λ (s : Setting). IfOk c.set_in_lines.result (λ r. AreSetLines s (line_ends options.unit text) c.args.width r.items)) same
    (subst (λ (e : List LineEnd).
    IfOk c.set_in_lines.result (λ r. AreSetLines (setting_of c.prepare.new.self told c.in_ok-ready.ready) e c.args.width r.items))
    ends c.set_in_lines.ensures.lines)

pub returns-clause-refused : goal.returns-clause-refused
returns-clause-refused g c =
    let options = c.args.options.now in
    let text = c.args.text.now in
    let told = c.options_for_lines-told.result in
    let same : setting_of c.prepare.new.self told c.in_ok-ready.ready ≡ setting_for_lines c.args.self.now options text =
    same_setting c.args.self.now c.prepare.new.self told (options_for_lines options text) c.in_ok-ready.ready text c.in_ok-ready.ensures.left c.options_for_lines-told.ensures c.in_ok-ready.ensures.ok
    in
    results_besides (2 ^ 32 ≤ length text) (RefusesParts (setting_for_lines c.args.self.now options text)) c.set_in_lines.result
    (subst (λ (s : Setting). IfErr c.set_in_lines.result (RefusesTypesetting ⊥ (RefusesParts s))) same c.set_in_lines.ensures.refused)

pub returns-clause-fits : goal.returns-clause-fits
returns-clause-fits g c =
    let options = c.args.options.now in
    let text = c.args.text.now in
    let told = c.options_for_lines-told.result in
    let same : setting_of c.prepare.new.self told c.in_ok-ready.ready ≡ setting_for_lines c.args.self.now options text =
    same_setting c.args.self.now c.prepare.new.self told (options_for_lines options text) c.in_ok-ready.ready text c.in_ok-ready.ensures.left c.options_for_lines-told.ensures c.in_ok-ready.ensures.ok
    in
    subst (λ (s : Setting). OnOk c.set_in_lines.result (IsWithinLimits s)) same c.set_in_lines.ensures.fits
