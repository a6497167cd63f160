-- What is of no use in chains and in the names of features. Apple's TrueType Reference Manual, "The 'morx' table" and
-- "The 'feat' table".
use Rattle.std.specs.Prelude.{ℕ, ◌==◌, ◌&&◌, Bool, not, bit_and, is_none, List, slice_get, take}
use Rattle.std.specs.List.{list_all, list_any}
use Rattle.aat_lookup.specs.FeatureNames.{name_of}
use Rattle.aat_lookup.specs.Truth.{is_some_and}
use Rattle.aat_lookup.specs.declared.feat.FeatureName.{FeatureName}
use Rattle.aat_machine_tables.specs.declared.morx.Chain.{Chain}
use Rattle.aat_machine_tables.specs.declared.morx.ChainFeature.{ChainFeature}
use Rattle.aat_machine_tables.specs.declared.morx.Subtable.{Subtable}

-- no feature sets one of some flags
abbrev pub sets_none : List ChainFeature → ℕ → Bool
sets_none features flags = list_all (λ f. bit_and flags f.enable_flags == 0) features

-- nothing switches a subtable on: its flags share no bit with those that are set where nothing is asked for, and no
-- feature sets one of them
abbrev pub is_unset : ℕ → List ChainFeature → Subtable → Bool
is_unset default_flags features s =
    (bit_and s.feature_flags default_flags == 0) && sets_none features s.feature_flags

-- so it is of the subtable at a place of a chain
abbrev pub is_unset_at : Chain → ℕ → Bool
is_unset_at chain place =
    is_some_and (slice_get chain.subtables.items place) (is_unset chain.default_flags chain.features.items)

-- features have one of a type
abbrev pub has_feature : ℕ → List ChainFeature → Bool
has_feature kind features = list_any (λ f. f.kind == kind) features

-- one of some chains has a feature of a type
abbrev pub is_in_chains : ℕ → List Chain → Bool
is_in_chains kind chains = list_any (λ c. has_feature kind c.features.items) chains

-- a feature has no name among those of a font
abbrev pub is_nameless : List FeatureName → ChainFeature → Bool
is_nameless names f = is_none (name_of names f.kind)

-- a setting is on where nothing is asked for: it sets flags, and all of them are set then
abbrev pub is_on_by_default : ℕ → ChainFeature → Bool
is_on_by_default default_flags f =
    not (f.enable_flags == 0) && (bit_and default_flags f.enable_flags == f.enable_flags)

-- the settings of a type exclude one another
abbrev pub is_exclusive : List FeatureName → ℕ → Bool
is_exclusive names kind = is_some_and (name_of names kind) (λ n. n.exclusive)

-- two settings of one type that exclude one another are both on where nothing is asked for
abbrev pub is_clash : List FeatureName → ℕ → ChainFeature → ChainFeature → Bool
is_clash names default_flags f g =
    (f.kind == g.kind) && (not (f.setting == g.setting)
    && (is_exclusive names f.kind && (is_on_by_default default_flags f && is_on_by_default default_flags g)))

-- so it is of a setting and one of some others
abbrev pub clashes_with : List FeatureName → ℕ → List ChainFeature → ChainFeature → Bool
clashes_with names default_flags before g = list_any (λ f. is_clash names default_flags f g) before

-- so it is of the setting at a place and one before it
abbrev pub is_clash_at : List FeatureName → ℕ → List ChainFeature → ℕ → Bool
is_clash_at names default_flags features place =
    is_some_and (slice_get features place) (clashes_with names default_flags (take place features))
