use Rattle.std.proofs.Common.{◌≡◌, ◌+◌, ◌++◌, ◌∷◌, [], ap, arith}
use Rattle.std.proofs.lemmas.Str.{IsUtf8-past_char}
use Rattle.aat_characters.specs.PlacedCharacters.{placed}
use Rattle.aat_text.specs.Places.{width_in}
use Rattle.aat_text.proofs.Placed.{room_past_char}
use Rattle.aat_text.proofs.PlacedPieces.{placed_all, placed_more}
use Rattle.aat_text.proofs.clusters.own_characters.Goals as goal

pub overflow_cast-place : goal.overflow_cast-place
overflow_cast-place g c = omega (arith, c.loop-character.invariant.room)

pub loop-character-preserved : goal.loop-character-preserved
loop-character-preserved g c =
    let held = c.loop-character.invariant in
    let step = c.in-Some.ensures.steps.0 in
    let put : c.push.new.self.items ≡ c.loop-character.out.items ++ placed (c.loop-character.place, c.in-Some.character) ∷ [] =
    rw (← c.new.ensures) c.in_ok-push.ensures.items in
    record {
      text = IsUtf8-past_char _ _ c.in-Some.character held.text step;
      made = placed_more placed (width_in c.args.unit) c.loop-character.out.items _ _ c.loop-character.place _ _ _ c.in-Some.character held.text step
          (ap (λ k. c.loop-character.place + k) c.width_of-place.ensures) put held.made;
      room = room_past_char c.args.unit c.loop-character.place c.width_of-place.result _ _ _ c.in-Some.character step c.width_of-place.ensures held.room;
    }

pub returns : goal.returns
returns g c =
    placed_all placed (width_in c.args.unit) c.loop-character.out.items _ c.loop-character.place _ c.in-None.ensures.steps.0.0 c.loop-character.invariant.made
