-- Worked examples of whether a font has a feature. Apple's TrueType Reference Manual, "The 'feat' table", feature
-- registry.
use Rattle.std.specs.Prelude.{◌≡◌, ℕ, Bool, true, false, List, [], ◌∷◌, Some, None, map}
use Rattle.aat_font.specs.declared.face.FaceTables.{FaceTables}
use Rattle.aat_font.specs.declared.face.hb_font_t.{hb_font_t}
use Rattle.aat_lookup.specs.declared.feat.FeatureName.{FeatureName}
use Rattle.aat_map.specs.Examples.{alternate_names, letter_case_names, ligature_names}
use Rattle.aat_shaper.specs.Named.{has_feature}

-- no tables
abbrev pub no_tables : FaceTables
no_tables = record { morx = None; kerx = None; kern = None; feat = None; ankr = None }

-- a font with these tables
abbrev pub font_of : FaceTables → hb_font_t
font_of tables = record { tables = tables; glyph_classes = None; advances = None }

-- one with these feature names
abbrev pub font_with_names : List FeatureName → hb_font_t
font_with_names names = font_of (record no_tables { feat = Some names })

-- whether a font has `kern`, `aalt`, `liga` and `smcp`, and a tag that is not known
abbrev pub features_of : hb_font_t → List Bool
features_of face =
    map (λ (tag : ℕ). has_feature face (record { 0 = tag }))
    (0x6B65726E ∷ 0x61616C74 ∷ 0x6C696761 ∷ 0x736D6370 ∷ 0x3F3F3F3F ∷ [])

-- ligatures without settings
abbrev pub empty_ligature_names : List FeatureName
empty_ligature_names = record { kind = 1; settings = 0; exclusive = false } ∷ []

-- `kern` is had by either table of kerning, and the others by names with settings: `smcp` by the older type too
abbrev pub FeaturesAreNamed : Type 0
FeaturesAreNamed =
    (features_of (font_of no_tables) ≡ false ∷ false ∷ false ∷ false ∷ false ∷ [])
    × (features_of (font_of (record no_tables { kern = Some [] })) ≡ true ∷ false ∷ false ∷ false ∷ false ∷ [])
    × (features_of (font_of (record no_tables { kerx = Some [] })) ≡ true ∷ false ∷ false ∷ false ∷ false ∷ [])
    × (features_of (font_with_names alternate_names) ≡ false ∷ true ∷ false ∷ false ∷ false ∷ [])
    × (features_of (font_with_names ligature_names) ≡ false ∷ false ∷ true ∷ false ∷ false ∷ [])
    × (features_of (font_with_names letter_case_names) ≡ false ∷ false ∷ false ∷ true ∷ false ∷ [])
    × (features_of (font_with_names empty_ligature_names) ≡ false ∷ false ∷ false ∷ false ∷ false ∷ [])
