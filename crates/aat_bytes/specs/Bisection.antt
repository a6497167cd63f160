-- What a bisection finds among rows, of which each has the keys from its lowest one to its highest one.
use Rattle.std.specs.Prelude.{ℕ, zero, suc, ◌+◌, ◌-◌, ◌/◌, List, Bool, false, Option, Some, None, if◌then◌else◌, max, min, nat_lt, ◌==◌}
use Rattle.std.specs.List.{filter, range_with_len}
use Rattle.std.specs.Option.{option_map_or}

-- the middle of the rows from one on up to another: of two in the middle the lower one
abbrev pub middle : ℕ → ℕ → ℕ
middle from to = (from + (to - 1)) / 2

module _ (low high : ℕ → ℕ) where
  -- the row that a bisection for a key finds among the rows from one on up to another, in so many steps at most: as long
  -- as the middle row has other keys, it goes on below that row or above it
  abbrev pub bisect : ℕ → ℕ → ℕ → ℕ → Option ℕ
  bisect zero from to key = None
  bisect (suc steps) from to key =
      if nat_lt from to then
      (if nat_lt key (low (middle from to)) then bisect steps from (middle from to) key else
      if nat_lt (high (middle from to)) key then bisect steps (middle from to + 1) to key else
      Some (middle from to))
      else None

-- rows of one key each
module _ (key : ℕ → ℕ) where
  -- the row, of so many, that a bisection for a key finds
  abbrev pub row_found : ℕ → ℕ → Option ℕ
  row_found count k = bisect key key count 0 count k

  -- whether a bisection for the key of a row finds that very row
  abbrev pub is_found : ℕ → ℕ → Bool
  is_found count i = option_map_or (λ found. found == i) (row_found count (key i)) false

  -- the rows, of so many, that are found, in their order
  abbrev pub found_rows : ℕ → List ℕ
  found_rows count = filter (is_found count) (range_with_len 0 count)

-- a number, or the nearest one of those from one to another
abbrev pub nearest : ℕ → ℕ → ℕ → ℕ
nearest from to n = min (max n from) to

-- rows of which each has the keys from its lowest one up to the one behind its highest one
module _ (low behind : ℕ → ℕ) where
  -- the first of the keys by which a bisection finds a row, and the one behind the last: on its way among the rows from
  -- one on up to another, in so many steps at most, each row that it passes leaves the keys below its own, or above them
  abbrev pub keys_found : ℕ → ℕ → ℕ → ℕ → ℕ → ℕ → ℕ × ℕ
  keys_found zero from to first end i = (first, first)
  keys_found (suc steps) from to first end i =
      if nat_lt i (middle from to) then
      keys_found steps from (middle from to) first (nearest first end (low (middle from to))) i else
      if nat_lt (middle from to) i then
      keys_found steps (middle from to + 1) to (nearest first end (behind (middle from to))) end i else
      (nearest first end (low (middle from to)), nearest first end (behind (middle from to)))
