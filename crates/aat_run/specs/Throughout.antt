-- Whether a subtable is on under no range of a list, or under each.
use Rattle.std.specs.Prelude.{ℕ, ◌==◌, ◌&&◌, not, Bool, List, length}
use Rattle.std.specs.List.{list_all, list_any}
use Rattle.aat_run.specs.Ranges.{ends_at_last}
use Rattle.aat_run.specs.Switches.{meets}
use Rattle.aat_run.specs.declared.ranges.range_flags_t.{range_flags_t}

-- there are ranges, and none switches a subtable with some feature flags on
abbrev pub is_nowhere_on : List range_flags_t → ℕ → Bool
is_nowhere_on ranges feature_flags =
    not (length ranges == 0) && not (list_any (λ r. meets r.flags feature_flags) ranges)

-- the ranges end at the last cluster there can be, and each switches a subtable with some feature flags on
abbrev pub is_everywhere_on : List range_flags_t → ℕ → Bool
is_everywhere_on ranges feature_flags =
    ends_at_last ranges && list_all (λ r. meets r.flags feature_flags) ranges
