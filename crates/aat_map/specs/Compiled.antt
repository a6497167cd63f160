-- What compiling makes of a map. Apple's TrueType Reference Manual, "The 'morx' table", feature subtables.
use Rattle.std.specs.Prelude.{◌≡◌, ℕ, ◌<◌, ◌≤◌, List, length, map, Option, Some, None, IsTrue, ◌==◌, ◌||◌, slice_get}
use Rattle.aat_map.specs.ChainFlags.{flags_by}
use Rattle.aat_map.specs.Live.{has_setting, is_cut, flags_at_cluster}
use Rattle.aat_map.specs.declared.feature.feature_info_t.{feature_info_t}
use Rattle.aat_map.specs.declared.feature.feature_range_t.{feature_range_t}
use Rattle.aat_map.specs.Builder.{Builder}
use Rattle.aat_run.specs.Ranges.{next_start, last_cluster, range}
use Rattle.aat_map.specs.Map.{list_at, flags_at, resized, with_ranges}
use Rattle.aat_font.specs.Morx.{chains_of}
use Rattle.aat_run.specs.declared.ranges.range_flags_t.{range_flags_t}
use Rattle.aat_machine_tables.specs.declared.morx.Chain.{Chain}
use Rattle.aat_font.specs.declared.morx.Morx.{Morx}

-- the flags that settings give a chain
abbrev pub flags_for : List feature_info_t → Chain → ℕ
flags_for settings c = flags_by (has_setting settings) c.default_flags c.features.items

-- the range of a builder with the flags that its settings give a chain
abbrev pub compiled_range : Builder → Chain → range_flags_t
compiled_range b c = range b.range_first b.range_last (flags_for b.current_features c)

-- that range for each chain
abbrev pub compiled_ranges : Builder → List Chain → List range_flags_t
compiled_ranges b chains = map (compiled_range b) chains

-- a list for each chain, each with its range behind its others
abbrev pub compiled : List Chain → Builder → List (List range_flags_t) → List (List range_flags_t)
compiled chains b m = with_ranges (compiled_ranges b chains) (resized (length chains) m)

-- the same of the chains of a table; without one the map stays
abbrev pub compiled_for : Option Morx → Builder → List (List range_flags_t) → List (List range_flags_t)
compiled_for None b m = m
compiled_for (Some morx) b m = compiled (chains_of morx) b m

-- the range of a builder follows each chain's others, or begins at 0 where there is none
abbrev pub Follows : List Chain → Builder → List (List range_flags_t) → Type 0
Follows chains b m = (k : ℕ) → k < length chains → next_start (list_at m k) ≡ b.range_first

-- the lists have the flags of each chain at each cluster
abbrev pub HaveFlags : List feature_range_t → List Chain → List (List range_flags_t) → Type 0
HaveFlags requests chains m =
    (k x : ℕ) (c : Chain)
    → slice_get chains k ≡ Some c → x ≤ last_cluster
    → flags_at m k x ≡ Some (flags_at_cluster requests c.default_flags c.features.items x)

-- where no admitted request starts or ends within the text, and else the last place where one does
pub record IsLastStart (requests : List feature_range_t) (x : ℕ) : Type 0 where
  pub starts : IsTrue ((x == 0) || is_cut requests x)
  pub last : (y : ℕ) → IsTrue (is_cut requests y) → y ≤ x
