-- A change to the lists of a map.
use Rattle.std.specs.Prelude.{ℕ, List, [], ◌∷◌, ◌++◌, slice_set}
use Rattle.aat_map.specs.Map.{list_at}
use Rattle.aat_run.specs.declared.ranges.range_flags_t.{range_flags_t}

-- a range behind a chain's others
abbrev pub with_range_at : List (List range_flags_t) → ℕ → range_flags_t → List (List range_flags_t)
with_range_at map k r = slice_set map k (list_at map k ++ r ∷ [])
