-- Characters that a font lacks as others that it has, and letters apart from their marks.
use Rattle.std.specs.Prelude.{ℕ, Bool, ◌&&◌, ◌||◌, ◌==◌, nat_le, List, [], ◌∷◌, ◌++◌, length, map, reverse, find, flat_map, is_some, Option, Some, if◌then◌else◌}
use Rattle.std.specs.List.{list_all, list_any}
use Rattle.std.specs.Option.{option_map_or}
use Rattle.unicode_normalization.specs.Compose.{primary_composite}
use Rattle.unicode_normalization.specs.Decompose.{decompose_canonical}
use Rattle.aat_face.specs.Faces.{FaceValue, glyph_of_character}
use Rattle.aat_characters.specs.Parts.{parts_of}
use Rattle.aat_characters.specs.PlacedCharacters.{has_mark, written_as}
use Rattle.aat_characters.specs.declared.placed_character.PlacedCharacter.{PlacedCharacter}

-- whether a font has a glyph for a character
abbrev pub has_glyph : FaceValue → ℕ → Bool
has_glyph face character = is_some (glyph_of_character face character)

-- the ways to write a character with the parts behind it, from the fewest characters to the most: as many parts as
-- compose with it in turn are joined to it, or fewer
abbrev pub ways_from : ℕ → List ℕ → List (List ℕ)
ways_from first [] = (first ∷ []) ∷ []
ways_from first (part ∷ parts) =
    option_map_or (λ joined. ways_from joined parts) (primary_composite first part) [] ++ (first ∷ part ∷ parts) ∷ []

abbrev pub ways_of_parts : List ℕ → List (List ℕ)
ways_of_parts [] = []
ways_of_parts (part ∷ parts) = ways_from part parts

-- the ways to write a character: itself, and its canonical decomposition, of which the first parts may be joined
abbrev pub ways : ℕ → List (List ℕ)
ways character = (character ∷ []) ∷ ways_of_parts (decompose_canonical character)

-- the first of them, or else the last, of which the font has all characters
abbrev pub chosen_way : (ℕ → Bool) → Bool → List (List ℕ) → Option (List ℕ)
chosen_way has shortest ways = find (list_all has) (if shortest then ways else reverse ways)

-- the spaces for which that of ASCII can stand
abbrev pub is_other_space : ℕ → Bool
is_other_space c =
    c == 0xA0 || nat_le 0x2000 c && nat_le c 0x200A || c == 0x202F || c == 0x205F || c == 0x3000

-- what stands for a character that the font cannot write: the space for another space, which it tells, the hyphen for
-- one that does not break, and else itself
abbrev pub stand_in : (ℕ → Bool) → PlacedCharacter → PlacedCharacter
stand_in has c =
    if is_other_space c.character && has 0x20 then record c { character = 0x20; space = Some c.character }
    else if c.character == 0x2011 && has 0x2010 then written_as c 0x2010
    else c

-- a character as the font can write it, with the fewest characters or else with the most
abbrev pub decomposed_character : (ℕ → Bool) → Bool → PlacedCharacter → List PlacedCharacter
decomposed_character has shortest c =
    option_map_or (map (written_as c)) (chosen_way has shortest (ways c.character)) (stand_in has c ∷ [])

abbrev pub is_variation_selector : ℕ → Bool
is_variation_selector c = nat_le 0xFE00 c && nat_le c 0xFE0F || nat_le 0xE0100 c && nat_le c 0xE01EF

abbrev pub has_selector : List PlacedCharacter → Bool
has_selector part = list_any (λ c. is_variation_selector c.character) part

-- a character with the marks behind it, as few characters as can be where there is no mark, and else as many: it stays
-- as it is where one is a variation selector
abbrev pub decomposed_part : (ℕ → Bool) → List PlacedCharacter → List PlacedCharacter
decomposed_part has part =
    if has_selector part then part
    else flat_map (decomposed_character has (length part == 1)) part

-- the characters of a text as the font can write them
abbrev pub decomposed : (ℕ → Bool) → List PlacedCharacter → List PlacedCharacter
decomposed has characters = flat_map (decomposed_part has) (parts_of (λ part c. has_mark c) characters)
