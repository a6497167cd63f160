-- What a map builder is to its callers.
use Rattle.std.specs.Prelude.{ℕ, List, [], ◌∷◌, ◌++◌, Option, Some, None, IsPermutation}
use Rattle.aat_run.specs.Ranges.{last_cluster}
use Rattle.aat_map.specs.Live.{kept_at, IsRisingByGroup}
use Rattle.aat_map.specs.declared.feature.feature_info_t.{feature_info_t}
use Rattle.aat_map.specs.declared.feature.feature_range_t.{feature_range_t}

-- the requests so far, and the range that is compiled with the settings that are kept there
pub record Builder : Type 0 where
  pub features : List feature_range_t
  pub current_features : List feature_info_t
  pub range_first : ℕ
  pub range_last : ℕ

-- requests, and the whole text as the range
abbrev pub builder_with : List feature_range_t → Builder
builder_with requests =
    record { features = requests; current_features = []; range_first = 0; range_last = last_cluster }

-- no request
abbrev pub empty_builder : Builder
empty_builder = builder_with []

-- a request more, if there is one
abbrev pub with_request : Builder → Option feature_range_t → Builder
with_request b None = b
with_request b (Some r) = record b { features = b.features ++ r ∷ [] }

-- the settings that are kept at x, strictly rising by group
pub record AreKeptAt (x : ℕ) (requests : List feature_range_t) (list : List feature_info_t) : Type 0 where
  pub kept : IsPermutation (kept_at x requests) list
  pub rising : IsRisingByGroup list
