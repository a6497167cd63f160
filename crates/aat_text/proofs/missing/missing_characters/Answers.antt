use Rattle.std.proofs.Common.{◌+◌, arith, ap, refl, sym, ◌∙◌}
use Rattle.std.proofs.lemmas.Str.{IsUtf8-past_char}
use Rattle.aat_text.proofs.Placed.{missing_all, missing_here, missing_there, room_past_char}
use Rattle.aat_text.proofs.missing.missing_characters.Goals as goal
use Rattle.aat_text.proofs.missing.missing_characters.Goals.{then-is_missing+in_ok-push, else-is_missing}

pub overflow_cast-place : goal.overflow_cast-place
overflow_cast-place g c = omega (arith, c.loop-character.invariant.room)

pub loop-character-preserved : goal.loop-character-preserved
loop-character-preserved g c =
    let held = c.loop-character.invariant in
    let step = c.in-Some.ensures.steps.0 in
    let place = ap (λ k. c.loop-character.place + k) c.width_of-place.ensures in
    record {
      text = IsUtf8-past_char _ _ c.in-Some.character held.text step;
      made = elim c.if-is_missing.branch [
        | then-is_missing+in_ok-push w ↦ rw w.missing-is
            (missing_here c.args.face.now c.args.unit c.loop-character.missing.items _ _ c.loop-character.place _ _ _ c.in-Some.character held.text step place
            (sym c.is_missing.ensures ∙ w.if-is_missing.true) w.in_ok-push.ensures.items held.made)
        | else-is_missing w ↦ rw w.missing-is
            (missing_there c.args.face.now c.args.unit c.loop-character.missing.items _ _ c.loop-character.place _ _ _ c.in-Some.character held.text step place
            (sym c.is_missing.ensures ∙ w.if-is_missing.false) refl held.made)
      ];
      room = room_past_char c.args.unit c.loop-character.place c.width_of-place.result _ _ _ c.in-Some.character step c.width_of-place.ensures held.room;
    }

pub returns-clause-ok : goal.returns-clause-ok
returns-clause-ok g c =
    missing_all c.args.face.now c.args.unit c.loop-character.missing.items _ c.loop-character.place _ c.in-None.ensures.steps.0.0 c.loop-character.invariant.made
