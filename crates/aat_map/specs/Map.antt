-- Lists of ranges with flags, and what they say of a cluster.
use Rattle.std.specs.Prelude.{◌≡◌, ℕ, ◌-◌, ◌==◌, ◌||◌, List, [], ◌∷◌, ◌++◌, length, map, take, replicate, Option, Some, None, slice_index_or, Vec}
use Rattle.std.specs.List.{list_any}
use Rattle.std.specs.List.Sorted.{IsStrictlyIncreasing}
use Rattle.aat_machine_tables.specs.declared.morx.Chain.{Chain}
use Rattle.aat_run.specs.Ranges.{flags_in, last_cluster, range}
use Rattle.aat_map.specs.Live.{is_cut}
use Rattle.aat_map.specs.declared.feature.feature_range_t.{feature_range_t}
use Rattle.aat_run.specs.declared.ranges.range_flags_t.{range_flags_t}

-- the lists in a vector of vectors
abbrev pub lists : {Z : Type 0} → List (Vec range_flags_t Z) → List (List range_flags_t)
lists {Z} vectors = map (λ (v : Vec range_flags_t Z). v.items) vectors

-- a chain's list, empty where it has none
abbrev pub list_at : List (List range_flags_t) → ℕ → List range_flags_t
list_at map k = slice_index_or map k []

-- the flags of a chain at a cluster, if its list has them
abbrev pub flags_at : List (List range_flags_t) → ℕ → ℕ → Option ℕ
flags_at map k x = flags_in (list_at map k) x

-- a chain's list where nothing is requested: its default flags over the whole text
abbrev pub default_list : Chain → List range_flags_t
default_list c = range 0 last_cluster c.default_flags ∷ []

-- the list of each chain: that of a map, and without one that of its default flags
abbrev pub lists_for : Option (List (List range_flags_t)) → List Chain → List (List range_flags_t)
lists_for None chains = map default_list chains
lists_for (Some m) chains = m

-- a chain's list in a map, and without one another list
abbrev pub list_or : Option (List (List range_flags_t)) → ℕ → List range_flags_t → List range_flags_t
list_or None k other = other
list_or (Some m) k other = list_at m k

-- a list for each of n chains: lists past them go, and missing ones are empty
abbrev pub resized : ℕ → List (List range_flags_t) → List (List range_flags_t)
resized n map = take n map ++ replicate (n - length map) []

-- each range behind the others of its chain, from the first chain on
abbrev pub with_ranges : List range_flags_t → List (List range_flags_t) → List (List range_flags_t)
with_ranges [] map = map
with_ranges (r ∷ rs) [] = []
with_ranges (r ∷ rs) (l ∷ ls) = (l ++ r ∷ []) ∷ with_ranges rs ls

-- these are where the ranges begin: 0 and each cut, each once and rising
pub record AreStarts (requests : List feature_range_t) (starts : List ℕ) : Type 0 where
  pub rising : IsStrictlyIncreasing starts
  pub exact : (x : ℕ) → list_any (λ s. s == x) starts ≡ ((x == 0) || is_cut requests x)

-- where ranges begin
abbrev pub range_starts : List range_flags_t → List ℕ
range_starts ranges = map (λ r. r.cluster_first) ranges
