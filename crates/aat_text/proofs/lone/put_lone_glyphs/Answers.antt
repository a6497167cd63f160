use Rattle.std.proofs.Common.{◌≡◌, ℕ, ◌+◌, ◌++◌, Bool, ◌&&◌, false, true, sym, ap, ◌∙◌, arith}
use Rattle.std.proofs.lemmas.Str.{IsUtf8-past_char}
use Rattle.aat_characters.specs.Apart.{is_apart}
use Rattle.aat_characters.specs.Decomposed.{has_glyph}
use Rattle.aat_characters.specs.PlacedCharacters.{placed}
use Rattle.aat_text.specs.Places.{width_in}
use Rattle.aat_text.specs.Prepared.{exchanged}
use Rattle.aat_text.specs.inside.Lone.{exchanged_glyphs}
use Rattle.aat_text.proofs.LoneTexts.{apart_done, apart_past, lone_done, lone_more}
use Rattle.aat_text.proofs.Placed.{room_past_char}
use Rattle.aat_text.proofs.lone.put_lone_glyphs.Goals as goal

pub overflow_cast-place : goal.overflow_cast-place
overflow_cast-place g c = omega (arith, c.loop-character.invariant.room)

pub loop-character-preserved : goal.loop-character-preserved
loop-character-preserved g c =
    let held = c.loop-character.invariant in
    let step = c.in-Some.ensures.steps.0 in
    let p : ℕ → Bool = λ c₁. is_apart c₁ && is_apart (exchanged (has_glyph c.args.face.now) c.args.direction c₁) in
    let f = exchanged_glyphs c.args.face.now c.args.direction in
    let put : c.put_apart.new.glyphs.items ≡ c.loop-character.glyphs.items ++ f (placed (c.loop-character.place, c.in-Some.character)) =
    c.in_ok-put_apart.ensures.glyphs c.if-not-branch.false ∙ ap (λ one. c.loop-character.glyphs.items ++ f one) c.new-own.ensures in
    let one : true ≡ p c.in-Some.character =
    sym c.if-not-branch.false ∙ (c.in_ok-put_apart.ensures.apart ∙ ap (λ one. p one.character) c.new-own.ensures) in
    record {
      known = c.put_apart.ensures.known;
      text = IsUtf8-past_char _ _ c.in-Some.character held.text step;
      apart = apart_past p _ _ _ c.in-Some.character true held.text step one held.apart;
      made = lone_more f (width_in c.args.unit) c.loop-character.glyphs.items _ _ c.loop-character.place _ _ _ c.in-Some.character held.text step
          (ap (λ k. c.loop-character.place + k) c.width_of.ensures) put held.made;
      room = room_past_char c.args.unit c.loop-character.place c.width_of.result _ _ _ c.in-Some.character step c.width_of.ensures held.room;
    }

pub returns-then-not-branch-clause-apart : goal.returns-then-not-branch-clause-apart
returns-then-not-branch-clause-apart g c =
    let held = c.loop-character.invariant in
    let p : ℕ → Bool = λ c₁. is_apart c₁ && is_apart (exchanged (has_glyph c.args.face.now) c.args.direction c₁) in
    let one : false ≡ p c.in-Some.character =
    sym c.if-not-branch.true ∙ (c.in_ok-put_apart.ensures.apart ∙ ap (λ one. p one.character) c.new-own.ensures) in
    apart_past p _ _ _ c.in-Some.character false held.text c.in-Some.ensures.steps.0 one held.apart

pub returns-clause-apart : goal.returns-clause-apart
returns-clause-apart g c =
    apart_done (λ c₁. is_apart c₁ && is_apart (exchanged (has_glyph c.args.face.now) c.args.direction c₁)) _ _ c.in-None.ensures.steps.0.0
    c.loop-character.invariant.apart

pub returns-clause-glyphs : goal.returns-clause-glyphs
returns-clause-glyphs g c =
    λ e. lone_done (exchanged_glyphs c.args.face.now c.args.direction) (width_in c.args.unit) c.loop-character.glyphs.items _ c.loop-character.place _ c.in-None.ensures.steps.0.0 c.loop-character.invariant.made
