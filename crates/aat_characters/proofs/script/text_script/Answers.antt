use Rattle.std.proofs.Common.{sym, ap, ◌∙◌}
use Rattle.std.proofs.lemmas.Str.{IsUtf8-past_char}
use Rattle.std.specs.Prelude.{is_some}
use Rattle.aat_characters.specs.Scripts.{specific_script}
use Rattle.aat_characters.proofs.Firsts.{found_here, found_later, found_none}
use Rattle.aat_characters.proofs.script.text_script.Goals as goal

pub returns-then-is_some : goal.returns-then-is_some
returns-then-is_some c =
    let held = c.loop-character.invariant in
    let there = ap is_some (sym c.specific_script-script.ensures) ∙ sym c.is_some.ensures ∙ c.if-is_some.true in
    c.specific_script-script.ensures
    ∙ sym (found_here specific_script _ _ c.in-Some.character held.text c.in-Some.ensures.steps.0 there) ∙ held.left

pub loop-character-preserved : goal.loop-character-preserved
loop-character-preserved c =
    let held = c.loop-character.invariant in
    let step = c.in-Some.ensures.steps.0 in
    let gone = ap is_some (sym c.specific_script-script.ensures) ∙ sym c.is_some.ensures ∙ c.if-is_some.false in
    record {
      text = IsUtf8-past_char _ _ c.in-Some.character held.text step;
      left = sym (found_later specific_script _ _ c.in-Some.character held.text step gone) ∙ held.left;
    }

pub returns : goal.returns
returns c = found_none specific_script _ c.in-None.ensures.steps.0.0 ∙ c.loop-character.invariant.left
