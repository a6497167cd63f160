-- Lists that rise by a key, as the tables of a font and kept settings do.
use Rattle.std.specs.Prelude.{ℕ, ◌+◌, ◌*◌, ◌<◌, List, [], ◌∷◌, length, if◌then◌else◌, ◌==◌, nat_lt, slice_index_or, Some, None, Option, find, option_map}

module _ {X : Type 0} (key : X → ℕ) where
  -- the place of the first element that is not above the one before it, from place i on, behind one with key k
  abbrev pub fall_after : ℕ → ℕ → List X → Option ℕ
  fall_after i k [] = None
  fall_after i k (x ∷ xs) = if nat_lt k (key x) then fall_after (i + 1) (key x) xs else Some i

  -- the place of the first element that is not above the one before it
  abbrev pub first_fall : List X → Option ℕ
  first_fall [] = None
  first_fall (x ∷ xs) = fall_after 1 (key x) xs

  -- each key is below those after it
  abbrev pub IsRising : List X → Type 0
  IsRising xs =
      (i j : ℕ) (d : X) → i < j → j < length xs → key (slice_index_or xs i d) < key (slice_index_or xs j d)

  -- the element that has the key
  abbrev pub at_key : List X → ℕ → Option X
  at_key xs k = find (λ x. key x == k) xs

-- the number by which rows of a number and a value rise
abbrev pub first : {X : Type 0} → ℕ × X → ℕ
first p = p.0

-- the number by which rows of two numbers and a value rise, by the first, then by the second; both have 16 bits
abbrev pub first_two : {X : Type 0} → ℕ × ℕ × X → ℕ
first_two r = r.0 * 65536 + r.1

-- a lookup as a total function: the value of a glyph, if it has one
abbrev pub value_in : List (ℕ × ℕ) → ℕ → Option ℕ
value_in pairs g = option_map (λ p. p.1) (at_key first pairs g)
