-- Whether a font has a feature. Apple's TrueType Reference Manual, "The 'feat' table", feature registry.
use Rattle.std.specs.Prelude.{ℕ, ◌==◌, ◌||◌, Bool, false, List, Option, Some, None, is_some, if◌then◌else◌}
use Rattle.aat_font.specs.Face.{tables_of}
use Rattle.aat_font.specs.declared.face.hb_font_t.{hb_font_t}
use Rattle.aat_lookup.specs.declared.feat.FeatureName.{FeatureName}
use Rattle.aat_font.specs.declared.tag.hb_tag_t.{hb_tag_t}
use Rattle.aat_map.specs.Mappings.{mapping_of}
use Rattle.aat_map.specs.Requests.{exposed, name_for}
use Rattle.aat_map.specs.declared.mapping.hb_aat_feature_mapping_t.{hb_aat_feature_mapping_t}

-- the names of a font have the type of a feature's row with settings
abbrev pub has_row : List FeatureName → Option hb_aat_feature_mapping_t → Bool
has_row names None = false
has_row names (Some m) = is_some (name_for names m)

-- the names of a font have a feature: `aalt` by the character alternatives (17), and any other one by its row
abbrev pub has_named : Option (List FeatureName) → ℕ → Bool
has_named None tag = false
has_named (Some names) tag =
    if tag == 0x61616C74 then is_some (exposed names 17) else has_row names (mapping_of tag)

-- a font has a feature: `kern` where it has a table of kerning, and any other one by its names
abbrev pub has_feature : hb_font_t → hb_tag_t → Bool
has_feature face tag =
    if tag.0 == 0x6B65726E
    then is_some (tables_of face).kerx || is_some (tables_of face).kern
    else has_named (tables_of face).feat tag.0
