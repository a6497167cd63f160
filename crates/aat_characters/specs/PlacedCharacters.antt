-- The characters of a text with their places.
use Rattle.std.specs.Prelude.{ℕ, Bool, not, ◌==◌, None}
use Rattle.aat_characters.specs.Marks.{is_mark, mark_class}
use Rattle.aat_characters.specs.declared.placed_character.PlacedCharacter.{PlacedCharacter}

-- a character behind its place, which stands for no space
abbrev pub placed : ℕ × ℕ → PlacedCharacter
placed (place, character) = record { place = place; character = character; space = None }

-- whether it is a mark
abbrev pub has_mark : PlacedCharacter → Bool
has_mark c = is_mark c.character

-- the class by which it is ordered
abbrev pub placed_class : PlacedCharacter → ℕ
placed_class c = mark_class c.character

-- whether it is moved among marks
abbrev pub is_moved : PlacedCharacter → Bool
is_moved c = not (placed_class c == 0)

-- the same character at another place
abbrev pub at_place : ℕ → PlacedCharacter → PlacedCharacter
at_place place c = record c { place = place }

-- another character at the same place
abbrev pub written_as : PlacedCharacter → ℕ → PlacedCharacter
written_as c character = record c { character = character }
