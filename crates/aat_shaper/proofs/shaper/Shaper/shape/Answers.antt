use mir.Val.{of_z, to_z}
use Rattle.std.proofs.Common.{rules, ◌∙◌, ◌≤◌, ap, arith, length, subst, sym, List, ℤ}
use Rattle.std.specs.Int.{w32}
use Rattle.std.specs.Int.RustNames.{FitsSigned}
use Rattle.std.proofs.lemmas.Int.{to_z-of_z}
use Rattle.aat_buffer.specs.Removal.{is_deleted, removed}
use Rattle.aat_font.specs.declared.plan.Feature.{Feature}
use Rattle.aat_shaped_text.specs.Parts.{BreaksHold}
use Rattle.aat_shaped_text.specs.ShapedText.{drawn_text, may_break_text, most_text, shaped_text, uses_up_budget}
use Rattle.aat_shaped_text.specs.declared.text.ShapedGlyph.{ShapedGlyph}
use Rattle.aat_shaper.specs.Shaper.{ShaperValue, value_along}
use Rattle.aat_drawn_text.proofs.Kept.{all_undeleted}
use Rattle.aat_shaper.proofs.shaper.Shaper.shape.Goals as goal

pub returns-clause-shaped : goal.returns-clause-shaped
returns-clause-shaped g c =
    let d = c.args.direction in
    let text = c.args.text.now in
    let given = c.take_features.new.plan.user_features.items in
    let z = c.tracking_along-value.result in
    let fits : FitsSigned w32 z = search rules in
    (rw c.in-Ok.is at c.draw_text-shaped.ensures.ok)
    ∙ (ap (λ (v : ShaperValue). shaped_text (to_z w32 (of_z w32 z)) v.font d given text) c.self.view_is
    ∙ (ap (λ (n : ℤ). shaped_text n c.args.self.now.font d given text) (to_z-of_z w32 z fits ∙ c.tracking_along-value.ensures)
    ∙ ap (λ (fs : List Feature). shaped_text (value_along c.args.self.now.values d) c.args.self.now.font d fs text)
    (c.in_ok-take_features.ensures.ok c.self.invariant.applied c.self.invariant.mask).features))

pub returns-clause-budget : goal.returns-clause-budget
returns-clause-budget g c =
    (rw c.in-Ok.is at c.draw_text-shaped.ensures.used)
    ∙ (ap (λ (v : ShaperValue).
    uses_up_budget v.font c.args.direction c.take_features.new.plan.user_features.items c.args.text.now) c.self.view_is
    ∙ ap (λ (fs : List Feature). uses_up_budget c.args.self.now.font c.args.direction fs c.args.text.now)
    (c.in_ok-take_features.ensures.ok c.self.invariant.applied c.self.invariant.mask).features)

pub returns-clause-breaks : goal.returns-clause-breaks
returns-clause-breaks g c =
    let font = c.args.self.now.font in
    let d = c.args.direction in
    let v = value_along c.args.self.now.values d in
    let features = c.args.features.now in
    let text = c.args.text.now in
    let short : length text ≤ most_text = omega arith in
    subst (λ (gs : List ShapedGlyph). BreaksHold v font d features text gs) (sym (returns-clause-shaped g c))
    (c.texts_are_drawn_in_parts.ensures v font d features text short)

pub returns-clause-undeleted : goal.returns-clause-undeleted
returns-clause-undeleted g c =
    let font = c.args.self.now.font in
    let d = c.args.direction in
    let v = value_along c.args.self.now.values d in
    let features = c.args.features.now in
    let text = c.args.text.now in
    let drawn = drawn_text v font d features text in
    rw (returns-clause-shaped g c)
    (all_undeleted (may_break_text font d features text) drawn (removed is_deleted drawn).line)
