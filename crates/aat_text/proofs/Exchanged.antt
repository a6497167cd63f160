-- A text from left to right, of which no character is exchanged.
use Rattle.std.proofs.Common.{◌≡◌, ℕ, Bool, List, [], ◌∷◌, map, refl, ap}
use Rattle.aat_characters.specs.declared.placed_character.PlacedCharacter.{PlacedCharacter}
use Rattle.aat_glyph.specs.declared.glyph.Direction.{Direction}
use Rattle.aat_glyph.specs.declared.glyph.Direction.TheVariants.{LeftToRight}
use Rattle.aat_text.specs.Prepared.{exchanged_at}

same : (has : ℕ → Bool) (cs : List PlacedCharacter) → cs ≡ map (exchanged_at has LeftToRight) cs
same has [] = refl
same has (c ∷ cs) = ap (λ ds. c ∷ ds) (same has cs)

pub none_exchanged : (has : ℕ → Bool) (direction : Direction) (cs : List PlacedCharacter) → direction ≡ LeftToRight → cs ≡ map (exchanged_at has direction) cs
none_exchanged has LeftToRight cs e = same has cs
none_exchanged has _ cs e = cc
