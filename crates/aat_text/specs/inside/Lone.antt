-- What only this crate's own calls say of texts in which each character is a cluster by itself.
use Rattle.std.specs.Prelude.{◌≡◌, ℕ, Bool, false, ◌&&◌, ◌==◌, List, [], ◌∷◌, map}
use Rattle.std.specs.List.{list_all}
use Rattle.std.specs.Str.{chars}
use Rattle.unicode_normalization.specs.Decompose.{decompose_canonical}
use Rattle.aat_characters.specs.Composed.{normalized}
use Rattle.aat_characters.specs.Decomposed.{has_glyph, is_other_space}
use Rattle.aat_characters.specs.Apart.{is_apart}
use Rattle.aat_characters.specs.declared.placed_character.PlacedCharacter.{PlacedCharacter}
use Rattle.aat_face.specs.Faces.{FaceValue}
use Rattle.aat_glyph.specs.declared.glyph.Direction.{Direction}
use Rattle.aat_shaped_text.specs.declared.text.TextGlyph.{TextGlyph}
use Rattle.aat_text.specs.Prepared.{exchanged, exchanged_at, placed_glyph}

-- each character of a text that runs in a direction is a cluster by itself, also as it is exchanged
abbrev pub stand_apart : (ℕ → Bool) → Direction → List ℕ → Bool
stand_apart has direction text = list_all (λ c. is_apart c && is_apart (exchanged has direction c)) (chars text)

-- the glyphs of a character by itself
abbrev pub lone_glyphs : FaceValue → PlacedCharacter → List TextGlyph
lone_glyphs face c = map (placed_glyph face) (normalized (has_glyph face) (c ∷ []))

-- the glyphs of a character by itself in a text that runs in a direction
abbrev pub exchanged_glyphs : FaceValue → Direction → PlacedCharacter → List TextGlyph
exchanged_glyphs face direction c = lone_glyphs face (exchanged_at (has_glyph face) direction c)

-- A character by itself is written as itself, whether the font has it or not: it is not decomposed, and is none of the
-- spaces and hyphens for which others stand.
pub record IsWrittenAlone (c : ℕ) : Type 0 where
  pub parts : decompose_canonical c ≡ c ∷ []
  pub space : is_other_space c ≡ false
  pub hyphen : (c == 0x2011) ≡ false
