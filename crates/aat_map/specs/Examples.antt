-- Worked rows and examples as statements over the definitions.
use Rattle.std.specs.Prelude.{◌≡◌, ℕ, Bool, true, false, ◌==◌, ◌&&◌, ◌||◌, List, [], ◌∷◌, map, filter, Some, None}
use Rattle.aat_map.specs.ChainFlags.{flags_by}
use Rattle.aat_run.specs.Ranges.{last_cluster, range}
use Rattle.aat_map.specs.Live.{is_cut, flags_at_cluster}
use Rattle.aat_map.specs.Requests.{requests_of, addition, is_too_large}
use Rattle.aat_map.specs.Spans.{spans}
use Rattle.aat_run.specs.declared.ranges.range_flags_t.{range_flags_t}
use Rattle.aat_lookup.specs.declared.feat.FeatureName.{FeatureName}
use Rattle.aat_machine_tables.specs.declared.morx.ChainFeature.{ChainFeature}
use Rattle.aat_font.specs.declared.plan.Feature.{Feature}

-- (37, 1) alone is requested
abbrev pub small_capitals_requested : ℕ → ℕ → Bool
small_capitals_requested kind setting = (kind == 37) && (setting == 1)

-- a chain feature of the older small capitals (3, 3)
abbrev pub older_small_capitals : ChainFeature
older_small_capitals = record { kind = 3; setting = 3; enable_flags = 4; disable_flags = 0xFFFFFFFE }

-- the older small capitals (3, 3) are asked for where the newer ones (37, 1) are
abbrev pub OlderSmallCapitals : Type 0
OlderSmallCapitals = flags_by small_capitals_requested 1 (older_small_capitals ∷ []) ≡ 4

-- a font with one setting of ligatures, whose settings do not exclude one another
abbrev pub ligature_names : List FeatureName
ligature_names = record { kind = 1; settings = 1; exclusive = false } ∷ []

-- a font with one setting of character alternatives
abbrev pub alternate_names : List FeatureName
alternate_names = record { kind = 17; settings = 1; exclusive = false } ∷ []

-- the feature `liga` over clusters
abbrev pub liga : ℕ → ℕ → ℕ → Feature
liga value start end = record { tag = record { 0 = 0x6C696761 }; value = value; start = start; end = end }

-- the feature `aalt` over the whole text
abbrev pub aalt : ℕ → Feature
aalt value = record { tag = record { 0 = 0x61616C74 }; value = value; start = 0; end = last_cluster }

-- a chain feature of the common ligatures: setting 2 is on, and 3 is off
abbrev pub ligature_feature : ℕ → ℕ → ℕ → ChainFeature
ligature_feature setting enable disable =
    record { kind = 1; setting = setting; enable_flags = enable; disable_flags = disable }

-- where the ranges of the rows may begin
abbrev pub some_clusters : List ℕ
some_clusters = 0 ∷ 1 ∷ 2 ∷ 3 ∷ 4 ∷ 5 ∷ 6 ∷ 7 ∷ 8 ∷ 9 ∷ 10 ∷ 11 ∷ last_cluster ∷ []

-- the ranges of a chain that begins with the lowest flag, where features are asked for
abbrev pub ranges_for : List Feature → List ChainFeature → List range_flags_t
ranges_for features chain_features =
    let requests = requests_of (Some ligature_names) features in
    map (λ s. range s.0 s.1 (flags_at_cluster requests 1 chain_features s.0))
    (spans (filter (λ x. (x == 0) || is_cut requests x) some_clusters))

-- the chain feature of the rows
abbrev pub ligatures_on : List ChainFeature
ligatures_on = ligature_feature 2 2 0xFFFFFFFF ∷ []

-- and with the one that is off
abbrev pub ligatures_on_and_off : List ChainFeature
ligatures_on_and_off = ligature_feature 2 2 0xFFFFFFFF ∷ ligature_feature 3 4 0xFFFFFFFF ∷ []

-- row 3a: without a request there is one range
abbrev pub Row3a : Type 0
Row3a = ranges_for [] ligatures_on ≡ range 0 last_cluster 1 ∷ []

-- row 3b: a request acts on its own range
abbrev pub Row3b : Type 0
Row3b = ranges_for (liga 1 3 5 ∷ []) ligatures_on ≡ range 0 2 1 ∷ range 3 4 3 ∷ range 5 last_cluster 1 ∷ []

-- row 4: a request whose start is not below its end is dropped
abbrev pub Row4 : Type 0
Row4 = ranges_for (liga 1 4 4 ∷ liga 1 7 3 ∷ []) ligatures_on ≡ range 0 last_cluster 1 ∷ []

-- row 5: of equal requests the earliest ends first, of a group the first live one counts, and equal neighbours are
-- not joined
abbrev pub Row5 : Type 0
Row5 =
    ranges_for (liga 1 0 10 ∷ liga 0 1 10 ∷ liga 1 2 5 ∷ []) ligatures_on_and_off
    ≡ range 0 0 3 ∷ range 1 1 3 ∷ range 2 4 3 ∷ range 5 9 5 ∷ range 10 last_cluster 1 ∷ []

-- row 7a: an alternate past the settings there can be
abbrev pub Row7a : Type 0
Row7a = is_too_large (Some alternate_names) (aalt 65536) ≡ true

-- row 7b: the last alternate is appended, always exclusive, and the answer is that the feature is not known
abbrev pub Row7b : Type 0
Row7b =
    (is_too_large (Some alternate_names) (aalt 65535) ≡ false)
    × (addition (Some alternate_names) (aalt 65535)
    ≡ record { is_known = false; appended = Some (record { kind = 17; setting = 65535; is_exclusive = true }) })

-- row 7c: a font without character alternatives
abbrev pub Row7c : Type 0
Row7c =
    (is_too_large (Some []) (aalt 65536) ≡ false)
    × (addition (Some []) (aalt 65536) ≡ record { is_known = true; appended = None })

-- row 7d: a font without feature names
abbrev pub Row7d : Type 0
Row7d =
    (is_too_large None (aalt 65536) ≡ false)
    × (addition None (aalt 65536) ≡ record { is_known = false; appended = None })

-- a font with the older type of small capitals, whose settings exclude one another
abbrev pub letter_case_names : List FeatureName
letter_case_names = record { kind = 3; settings = 4; exclusive = true } ∷ []

-- the feature `smcp` over the whole text
abbrev pub smcp : Feature
smcp = record { tag = record { 0 = 0x736D6370 }; value = 1; start = 0; end = last_cluster }

-- small capitals in a font with the older type alone: the request is of the newer type, exclusive as the older one
abbrev pub SmallCapitalsOfOlderType : Type 0
SmallCapitalsOfOlderType =
    addition (Some letter_case_names) smcp
    ≡ record { is_known = true; appended = Some (record { kind = 37; setting = 1; is_exclusive = true }) }
