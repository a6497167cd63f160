use Rattle.std.proofs.Common.{◌≡◌, List, drop}
use Rattle.aat_characters.specs.Decomposed.{has_glyph}
use Rattle.aat_characters.specs.PlacedCharacters.{placed_class}
use Rattle.aat_characters.specs.declared.placed_character.PlacedCharacter.{PlacedCharacter}
use Rattle.aat_characters.specs.inside.KeptTexts.{AllStay, AreKnownWritings}
use Rattle.aat_characters.proofs.kept.are_kept_behind.Given as goal

abbrev pub invariant-loop-character : goal.invariant-loop-character
invariant-loop-character l = record {
  known : AreKnownWritings (has_glyph l.fn.face) l.known;
  stay : (rest : List PlacedCharacter) → rest ≡ drop l.character-index l.others → AllStay (has_glyph l.fn.face) l.starter l.class rest
      → AllStay (has_glyph l.fn.face) l.fn.first.character (placed_class l.fn.first) l.others;
}
