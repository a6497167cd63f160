use Rattle.std.proofs.Common.{sym, ap, ◌∙◌, slice_get}
use Rattle.std.proofs.lemmas.Str.{IsUtf8-past_char}
use Rattle.std.specs.List.{filter_map}
use Rattle.std.specs.Prelude.{is_some}
use Rattle.aat_text.specs.Strong.{strong_direction}
use Rattle.aat_text.proofs.Chars.{chars_of_empty, strong_here, strong_later}
use Rattle.aat_text.proofs.direction.first_strong_direction.Goals as goal

pub returns-then-is_some : goal.returns-then-is_some
returns-then-is_some c =
    let held = c.loop-character.invariant in
    let there = ap is_some (sym c.strong_direction-direction.ensures) ∙ sym c.is_some.ensures ∙ c.if-is_some.true in
    c.strong_direction-direction.ensures ∙ sym (strong_here _ _ c.in-Some.character held.text c.in-Some.ensures.steps.0 there) ∙ held.left

pub loop-character-preserved : goal.loop-character-preserved
loop-character-preserved c =
    let held = c.loop-character.invariant in
    let step = c.in-Some.ensures.steps.0 in
    let gone = ap is_some (sym c.strong_direction-direction.ensures) ∙ sym c.is_some.ensures ∙ c.if-is_some.false in
    record {
      text = IsUtf8-past_char _ _ c.in-Some.character held.text step;
      left = sym (strong_later _ _ c.in-Some.character held.text step gone) ∙ held.left;
    }

pub returns : goal.returns
returns c =
    ap (λ cs. slice_get (filter_map strong_direction cs) 0) (sym (chars_of_empty _ c.in-None.ensures.steps.0.0)) ∙ c.loop-character.invariant.left
