-- What is asked for at the clusters of a line decides what substitution leaves of it.
use Rattle.std.specs.Prelude.{◌≡◌, ℕ, ◌<◌, List, [], ◌∷◌, map, All}
use Rattle.aat_buffer.specs.Buffer.{Buffer, with_cursor}
use Rattle.aat_machine_tables.specs.declared.morx.Chain.{Chain}
use Rattle.aat_glyph.specs.declared.glyph.hb_glyph_info_t.{hb_glyph_info_t}
use Rattle.aat_kinds.specs.Kinds.{Sizes}
use Rattle.aat_map.specs.Live.{flags_at_cluster}
use Rattle.aat_map.specs.SwitchedChains.{by_requests}
use Rattle.aat_map.specs.declared.feature.feature_range_t.{feature_range_t}
use Rattle.aat_morx.specs.Substitution.{substituted}

-- the clusters at which the flags are asked for: those that a glyph has, and 0 where there is no glyph
abbrev pub clusters_asked : List hb_glyph_info_t → List ℕ
clusters_asked [] = 0 ∷ []
clusters_asked (g ∷ gs) = map (λ h. h.cluster) (g ∷ gs)

-- two lists of requests give a chain the same flags at a cluster
abbrev pub GiveSameFlags : List feature_range_t → List feature_range_t → Chain → ℕ → Type 0
GiveSameFlags requests others c x =
    flags_at_cluster requests c.default_flags c.features.items x
    ≡ flags_at_cluster others c.default_flags c.features.items x

-- they do so for each chain, at each cluster that is asked for on a line
abbrev pub AskAlike : List feature_range_t → List feature_range_t → List Chain → List hb_glyph_info_t → Type 0
AskAlike requests others chains line = All (λ c. All (GiveSameFlags requests others c) (clusters_asked line)) chains

-- one buffer, wherever the cursor stands
abbrev pub AreOneButCursor : Buffer → Buffer → Type 0
AreOneButCursor b d = with_cursor b 0 ≡ with_cursor d 0

-- requests that ask alike at the clusters of a line leave the same buffer of it but for the cursor, though not always
-- in the same turns: a subtable that is off over the only range of its chain is not run
abbrev pub RequestsAreIsolated : Type 0
RequestsAreIsolated =
    (z : Sizes) (requests others : List feature_range_t) (chains : List Chain) (b : Buffer)
    → 0 < z.slots → AskAlike requests others chains b.line
    → AreOneButCursor
    (substituted z (by_requests requests chains) b).buffer
    (substituted z (by_requests others chains) b).buffer
