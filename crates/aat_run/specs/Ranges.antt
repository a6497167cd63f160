-- Lists of ranges with flags, and what they say of a cluster.
use Rattle.std.specs.Prelude.{min, unwrap_or, ◌≡◌, ℕ, ◌+◌, ◌≤◌, ◌==◌, ◌&&◌, ◌||◌, nat_le, nat_lt, Bool, List, [], ◌∷◌, length, fold, find, Option, Some, None, option_map}
use Rattle.std.specs.Borrow.{Bor}
use Rattle.aat_run.specs.Switches.{Switch, meets}
use Rattle.aat_run.specs.declared.ranges.range_flags_t.{range_flags_t}

-- the last cluster there can be
abbrev pub last_cluster : ℕ
last_cluster = 0xFFFFFFFF

-- flags from one cluster to another
abbrev pub range : ℕ → ℕ → ℕ → range_flags_t
range first last flags = record { flags = flags; cluster_first = first; cluster_last = last }

-- ranges follow one another from n on, without a gap
abbrev pub FollowFrom : ℕ → List range_flags_t → Type 0
FollowFrom n [] = Unit {0}
FollowFrom n (r ∷ rs) = (r.cluster_first ≡ n) × (r.cluster_first ≤ r.cluster_last) × FollowFrom (r.cluster_last + 1) rs

-- ranges begin at 0 and follow without a gap
abbrev pub IsGapless : List range_flags_t → Type 0
IsGapless ranges = FollowFrom 0 ranges

-- the cluster at which the next range would begin
abbrev pub next_start : List range_flags_t → ℕ
next_start ranges = fold (λ n r. r.cluster_last + 1) 0 ranges

-- a range holds a cluster
abbrev pub holds : ℕ → range_flags_t → Bool
holds x r = nat_le r.cluster_first x && nat_le x r.cluster_last

-- the flags of the range that holds a cluster, if there is one
abbrev pub flags_in : List range_flags_t → ℕ → Option ℕ
flags_in ranges x = option_map (λ r. r.flags) (find (holds x) ranges)

-- the last range ends at the last cluster there can be; an empty list does not
abbrev pub ends_at_last : List range_flags_t → Bool
ends_at_last ranges = next_start ranges == last_cluster + 1

-- a list is empty or ends at the last cluster
abbrev pub is_whole_list : List range_flags_t → Bool
is_whole_list ranges = (length ranges == 0) || ends_at_last ranges

-- the flags at a cluster, 0 where no range holds it; a number past the last cluster there can be counts as that one
abbrev pub flags_on : List range_flags_t → ℕ → ℕ
flags_on ranges x = unwrap_or (flags_in ranges (min x last_cluster)) 0

-- whether a machine is on at a cluster: with fewer than two ranges always
abbrev pub is_driven_on : List range_flags_t → ℕ → ℕ → Bool
is_driven_on ranges feature_flags cluster = nat_lt (length ranges) 2 || meets (flags_on ranges cluster) feature_flags

-- the ranges of a run, none where it has none
abbrev pub ranges_of : Option (Bor (List range_flags_t)) → List range_flags_t
ranges_of None = []
ranges_of (Some ranges) = ranges.now

-- how a list of ranges switches a chain: without a range every subtable is on
abbrev pub switch_for : List range_flags_t → Switch
switch_for ranges = record {
  has_one_range = length ranges == 1;
  is_on = λ feature_flags cluster. (length ranges == 0) || meets (flags_on ranges cluster) feature_flags;
}
