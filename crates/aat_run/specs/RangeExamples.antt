-- Where clusters stand among the five ranges of a worked row, and how many probes numbers of ranges take at most.
use Rattle.std.specs.Prelude.{◌≡◌, ℕ, Bool, true, false, List, [], ◌∷◌, map}
use Rattle.aat_run.specs.RangeOf.{binary_digits, is_held_at}
use Rattle.aat_run.specs.Ranges.{last_cluster, range}
use Rattle.aat_run.specs.declared.ranges.range_flags_t.{range_flags_t}

-- the ranges of row 5
abbrev pub five_ranges : List range_flags_t
five_ranges = range 0 0 3 ∷ range 1 1 3 ∷ range 2 4 3 ∷ range 5 9 5 ∷ range 10 last_cluster 1 ∷ []

-- at which places a cluster is held: at the five, and at the one past them
abbrev pub places_of : ℕ → List Bool
places_of x = map (λ place. is_held_at five_ranges place x) (0 ∷ 1 ∷ 2 ∷ 3 ∷ 4 ∷ 5 ∷ [])

-- cluster 1 is at place 1 alone, 7 at place 3 and the last one at place 4
abbrev pub PlacesAmongFive : Type 0
PlacesAmongFive =
    (places_of 1 ≡ false ∷ true ∷ false ∷ false ∷ false ∷ false ∷ [])
    × (places_of 7 ≡ false ∷ false ∷ false ∷ true ∷ false ∷ false ∷ [])
    × (places_of last_cluster ≡ false ∷ false ∷ false ∷ false ∷ true ∷ false ∷ [])

-- five ranges take at most three probes, and one range at most one
abbrev pub FewProbes : Type 0
FewProbes = (binary_digits 5 ≡ 3) × (binary_digits 1 ≡ 1)
