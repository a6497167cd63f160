-- Lists in parts.
use Rattle.std.specs.Prelude.{Bool, ◌-◌, List, [], ◌∷◌, ◌++◌, fold, length, slice_index_or, take, if◌then◌else◌}

-- the last of some parts, an empty one of none
abbrev pub last_part : {X : Type 0} → List (List X) → List X
last_part parts = slice_index_or parts (length parts - 1) []

module _ {X : Type 0} (joins : List X → X → Bool) where
  -- parts and one more element, which is one of the last part where it joins it, and else begins another one
  abbrev pub with_next : List (List X) → X → List (List X)
  with_next parts x =
      if joins (last_part parts) x then take (length parts - 1) parts ++ (last_part parts ++ x ∷ []) ∷ []
      else parts ++ (x ∷ []) ∷ []

  -- a list in parts: each is one element and those behind it that join it
  abbrev pub parts_of : List X → List (List X)
  parts_of xs = fold with_next [] xs
