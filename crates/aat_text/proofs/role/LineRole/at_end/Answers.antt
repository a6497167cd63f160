use Rattle.std.proofs.Common.{sym, ap, ◌∙◌, map}
use Rattle.std.proofs.lemmas.Str.{IsUtf8-past_char}
use Rattle.std.specs.List.{fold}
use Rattle.std.specs.Prelude.{if◌then◌else◌}
use Rattle.aat_text.specs.LineEnds.{is_mark, role_of}
use Rattle.aat_text.proofs.Chars.{chars_of_empty, role_kept, role_taken}
use Rattle.aat_text.proofs.role.LineRole.at_end.Goals as goal

pub loop-character-preserved-then-not-is_mark : goal.loop-character-preserved-then-not-is_mark
loop-character-preserved-then-not-is_mark c =
    let held = c.loop-character.invariant in
    let step = c.in-Some.ensures.steps.0 in
    let seen = sym c.is_mark.ensures ∙ c.if-not-is_mark.true in
    record {
      text = IsUtf8-past_char _ _ c.in-Some.character held.text step;
      left = role_taken _ _ c.in-Some.character held.text step c.loop-character.last c.of-role.result c.of-role.ensures seen ∙ held.left;
    }

pub loop-character-preserved : goal.loop-character-preserved
loop-character-preserved c =
    let held = c.loop-character.invariant in
    let step = c.in-Some.ensures.steps.0 in
    let unseen = sym c.is_mark.ensures ∙ c.if-not-is_mark.false in
    record {
      text = IsUtf8-past_char _ _ c.in-Some.character held.text step;
      left = role_kept _ _ c.in-Some.character held.text step c.loop-character.last c.of-role.result c.of-role.ensures unseen ∙ held.left;
    }

pub returns : goal.returns
returns c =
    ap (λ cs. fold (λ last role. if is_mark role then last else role) c.loop-character.last (map role_of cs)) (sym (chars_of_empty _ c.in-None.ensures.steps.0.0))
    ∙ c.loop-character.invariant.left
