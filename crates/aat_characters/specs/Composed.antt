-- Letters and marks composed as far as a font has the composites.
use Rattle.std.specs.Prelude.{ℕ, ◌-◌, Bool, true, ◌&&◌, min, nat_lt, List, [], ◌∷◌, ◌++◌, length, drop, map, slice_get, Option, Some, None, option_and_then, option_map, if◌then◌else◌}
use Rattle.std.specs.List.{list_any}
use Rattle.std.specs.Option.{option_map_or}
use Rattle.unicode_normalization.specs.Compose.{primary_composite}
use Rattle.aat_characters.specs.Decomposed.{decomposed}
use Rattle.aat_characters.specs.Ordered.{ordered}
use Rattle.aat_characters.specs.PlacedCharacters.{at_place, has_mark, is_moved, placed, placed_class}
use Rattle.aat_characters.specs.declared.placed_character.PlacedCharacter.{PlacedCharacter}

-- nothing between a starter and a mark keeps the two apart: the last character there has a lower class
abbrev pub is_free : List PlacedCharacter → PlacedCharacter → Bool
is_free between c = option_map_or (λ last. nat_lt (placed_class last) (placed_class c)) (slice_get between (length between - 1)) true

-- the composite of two characters, if the font has it
abbrev pub composite_in : (ℕ → Bool) → ℕ → ℕ → Option ℕ
composite_in has a b = option_and_then (λ p. if has p then Some p else None) (primary_composite a b)

-- what a starter and a mark become, if they compose: it stands at the lesser of their places
abbrev pub composite_of : (ℕ → Bool) → PlacedCharacter → List PlacedCharacter → PlacedCharacter → Option PlacedCharacter
composite_of has starter between c =
    if has_mark c && is_free between c then
    option_map (λ p. placed (min starter.place c.place, p)) (composite_in has starter.character c.character)
    else None

-- The characters behind a starter and those between it and them, composed. What is between a starter and a mark that
-- compose takes the place of the composite.
abbrev pub composed_from : (ℕ → Bool) → PlacedCharacter → List PlacedCharacter → List PlacedCharacter → List PlacedCharacter
composed_from has starter between [] = starter ∷ between
composed_from has starter between (c ∷ cs) =
    elim (composite_of has starter between c) [
      | Some p ↦ composed_from has p (map (at_place p.place) between) cs
      | None ↦
          let kept = composed_from has starter (between ++ c ∷ []) cs in
          let others = starter ∷ between ++ composed_from has c [] cs in
          if is_moved c then kept else others
    ]

abbrev pub composed : (ℕ → Bool) → List PlacedCharacter → List PlacedCharacter
composed has [] = []
composed has (c ∷ cs) = composed_from has c [] cs

-- whether a text has a mark behind another character
abbrev pub has_marks : List PlacedCharacter → Bool
has_marks characters = list_any has_mark (drop 1 characters)

-- a text as a font can write it: without marks each character by itself
abbrev pub normalized : (ℕ → Bool) → List PlacedCharacter → List PlacedCharacter
normalized has characters =
    if has_marks characters then composed has (ordered (decomposed has characters)) else decomposed has characters
