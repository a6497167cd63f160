-- Ranges as they are compiled, one span after another.
use Rattle.std.specs.Prelude.{◌≡◌, ℕ, ◌-◌, ◌≤◌, List, map, length, slice_get, slice_index_or, Some, All}
use Rattle.std.specs.List.Sorted.{IsStrictlyIncreasing}
use Rattle.aat_map.specs.Builder.{Builder, AreKeptAt}
use Rattle.aat_run.specs.Ranges.{last_cluster, range}
use Rattle.aat_map.specs.Compiled.{flags_for}
use Rattle.aat_map.specs.declared.feature.feature_info_t.{feature_info_t}
use Rattle.aat_map.specs.Live.{flags_at_cluster}
use Rattle.aat_map.specs.Map.{AreStarts}
use Rattle.aat_map.specs.Spans.{spans}
use Rattle.aat_map.specs.declared.feature.feature_range_t.{feature_range_t}
use Rattle.aat_run.specs.declared.ranges.range_flags_t.{range_flags_t}
use Rattle.aat_machine_tables.specs.declared.morx.Chain.{Chain}

-- a chain's range over a span
abbrev pub span_range : List feature_range_t → Chain → ℕ × ℕ → range_flags_t
span_range requests c s = range s.0 s.1 (flags_at_cluster requests c.default_flags c.features.items s.0)

-- the flags that settings give each chain
abbrev pub all_flags_for : List feature_info_t → List Chain → List ℕ
all_flags_for settings chains = map (flags_for settings) chains

-- each chain's range of flags over a span
abbrev pub ranges_with : ℕ × ℕ → List ℕ → List range_flags_t
ranges_with s flags = map (range s.0 s.1) flags

-- a list for each chain over spans
abbrev pub compiled_lists : List feature_range_t → List Chain → List (ℕ × ℕ) → List (List range_flags_t)
compiled_lists requests chains ss = map (λ c. map (span_range requests c) ss) chains

-- these begin with 0 and rise
pub record RiseFromZero (starts : List ℕ) : Type 0 where
  pub zero : slice_get starts 0 ≡ Some 0
  pub rising : IsStrictlyIncreasing starts

-- the last of these, and 0 where there is none
abbrev pub last_of : List ℕ → ℕ
last_of starts = slice_index_or starts (length starts - 1) 0

-- the range of a builder is the last one
pub record IsLastSpan (starts : List ℕ) (b : Builder) : Type 0 where
  pub first : slice_get starts (length starts - 1) ≡ Some b.range_first
  pub last : b.range_last ≡ last_cluster

-- a request ends at the last cluster or before
abbrev pub EndsWithinText : feature_range_t → Type 0
EndsWithinText r = r.end ≤ last_cluster

-- what compiling leaves of a map and a builder
pub record IsCompiled
    (requests : List feature_range_t) (chains : List Chain) (lists : List (List range_flags_t)) (b : Builder)
    : Type 0 where
  pub starts : List ℕ
  pub are_starts : AreStarts requests starts
  pub bounded : All EndsWithinText requests
  pub lists_are : lists ≡ compiled_lists requests chains (spans starts)
  pub range : IsLastSpan starts b
  pub current : AreKeptAt b.range_first requests b.current_features
