-- The characters of a text that a font lacks.
use Rattle.std.specs.Prelude.{ℕ, Bool, not, ◌&&◌, List, filter, is_none, map}
use Rattle.aat_face.specs.Faces.{FaceValue, glyph_of_character}
use Rattle.aat_text.specs.IgnorableCharacters.{is_ignorable_character}
use Rattle.aat_text.specs.Places.{characters}
use Rattle.aat_text.specs.declared.missing.MissingCharacter.{MissingCharacter}
use Rattle.aat_text.specs.declared.unit.ClusterUnit.{ClusterUnit}

-- whether a font lacks a character that is to be seen
abbrev pub is_missing : FaceValue → ℕ → Bool
is_missing face character =
    is_none (glyph_of_character face character) && not (is_ignorable_character character)

-- the characters of a text that a font lacks, with their places
abbrev pub missing_characters : FaceValue → ClusterUnit → List ℕ → List MissingCharacter
missing_characters face unit text =
    map (λ (place, character). record { place = place; character = character })
    (filter (λ (_, character). is_missing face character) (characters unit text))
