-- The kinds of the characters of a text.
use Rattle.std.specs.Prelude.{ℕ, List, [], ◌∷◌}
use Rattle.std.specs.Option.{option_map_or}
use Rattle.aat_lookup.specs.Keys.{at_key, first}
use Rattle.aat_characters.specs.Marks.{box_class}
use Rattle.aat_characters.specs.declared.placed_character.PlacedCharacter.{PlacedCharacter}
use Rattle.aat_shaped_text.specs.declared.text.CharacterKind.{CharacterKind}
use Rattle.aat_shaped_text.specs.declared.text.CharacterKind.TheVariants.{Mark, Other, Space}
use Rattle.aat_shaped_text.specs.declared.text.SpaceWidth.{SpaceWidth}
use Rattle.aat_shaped_text.specs.declared.text.SpaceWidth.TheVariants.{Em, FifthOfEm, Figure, FourEighteenthsOfEm, FourthOfEm, HalfEm, Narrow, Punctuation, SixteenthOfEm, SixthOfEm, ThirdOfEm}

-- the spaces with widths of their own, as HarfBuzz has them
abbrev pub space_widths : List (ℕ × SpaceWidth)
space_widths =
    (0x2000, HalfEm) ∷ (0x2001, Em) ∷ (0x2002, HalfEm) ∷ (0x2003, Em) ∷ (0x2004, ThirdOfEm) ∷ (0x2005, FourthOfEm)
    ∷ (0x2006, SixthOfEm) ∷ (0x2007, Figure) ∷ (0x2008, Punctuation) ∷ (0x2009, FifthOfEm) ∷ (0x200A, SixteenthOfEm)
    ∷ (0x202F, Narrow) ∷ (0x205F, FourEighteenthsOfEm) ∷ (0x3000, Em) ∷ []

-- the kind of a space that the font lacks
unfoldable pub space_kind : ℕ → CharacterKind
space_kind space = option_map_or (λ row. Space row.1) (at_key first space_widths space) Other

-- the kind of a character that stands for no space
abbrev pub character_kind : ℕ → CharacterKind
character_kind character = option_map_or Mark (box_class character) Other

-- the kind of a character that may stand for a space
abbrev pub placed_kind : PlacedCharacter → CharacterKind
placed_kind c = option_map_or space_kind c.space (character_kind c.character)
