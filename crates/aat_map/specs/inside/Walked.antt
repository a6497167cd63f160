-- One walk over the starts and the ends of requests.
use Rattle.std.specs.Prelude.{◌≡◌, ℕ, ◌≤◌, Bool, not, ◌==◌, nat_le, List, filter, IsPermutation, true}
use Rattle.std.specs.List.{AllByRecursion, prefix_len}
use Rattle.std.specs.List.Sorted.{IsNonDecreasingBy}
use Rattle.aat_run.specs.Ranges.{last_cluster}
use Rattle.aat_map.specs.Live.{is_admitted, has_begun, live_among}
use Rattle.aat_map.specs.declared.feature.feature_info_t.{feature_info_t}
use Rattle.aat_map.specs.declared.feature.feature_range_t.{feature_range_t}

-- a request ends before the last cluster
abbrev pub ends_within : feature_range_t → Bool
ends_within r = not (r.end == last_cluster)

-- a request ends at x or before
abbrev pub ends_by : ℕ → feature_range_t → Bool
ends_by x r = nat_le r.end x

-- what a walk goes over: admitted requests by start, and by end those of them that end within the text
pub record AreWalked (ordered ending : List feature_range_t) : Type 0 where
  pub admits : AllByRecursion (λ r. is_admitted r ≡ true) ordered
  pub starts_rise : IsNonDecreasingBy (λ r. r.start) ordered
  pub same : IsPermutation (filter ends_within ordered) ending
  pub ends_rise : IsNonDecreasingBy (λ r. r.end) ending

-- a walk has come to a cluster up to x: so many requests have begun there and so many have ended, and what is live
pub record IsWalkedUpTo
    (x : ℕ) (ordered ending : List feature_range_t) (active : List feature_info_t) (begun ended : ℕ)
    : Type 0 where
  pub at : ℕ
  pub up_to : at ≤ x
  pub begun_is : begun ≡ prefix_len (has_begun at) ordered
  pub ended_is : ended ≡ prefix_len (ends_by at) ending
  pub live_is : active ≡ live_among at ordered
