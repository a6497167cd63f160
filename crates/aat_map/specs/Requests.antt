-- Which requests the user's features make. Apple's TrueType Reference Manual, "The 'feat' table", feature registry.
use Rattle.std.specs.Prelude.{ℕ, ◌==◌, ◌&&◌, nat_lt, Bool, true, false, List, Option, Some, None, is_some, option_map, if◌then◌else◌}
use Rattle.std.specs.List.{filter_map}
use Rattle.aat_lookup.specs.FeatureNames.{name_of}
use Rattle.aat_map.specs.Mappings.{mapping_of}
use Rattle.aat_lookup.specs.declared.feat.FeatureName.{FeatureName}
use Rattle.aat_font.specs.declared.plan.Feature.{Feature}
use Rattle.aat_map.specs.declared.mapping.hb_aat_feature_mapping_t.{hb_aat_feature_mapping_t}
use Rattle.aat_map.specs.declared.feature.feature_info_t.{feature_info_t}
use Rattle.aat_map.specs.declared.feature.feature_range_t.{feature_range_t}

-- the tag `aalt`, access to all alternates
abbrev pub is_alternates : Feature → Bool
is_alternates f = f.tag.0 == 0x61616C74

-- a name that has settings
abbrev pub with_settings : Option FeatureName → Option FeatureName
with_settings None = None
with_settings (Some n) = if n.settings == 0 then None else Some n

-- the name of a feature type that the font has with settings
abbrev pub exposed : List FeatureName → ℕ → Option FeatureName
exposed names kind = with_settings (name_of names kind)

-- the first of two names
abbrev pub either_name : Option FeatureName → Option FeatureName → Option FeatureName
either_name None second = second
either_name (Some n) second = Some n

-- a row of small capitals of lower case letters
abbrev pub is_small_capitals : hb_aat_feature_mapping_t → Bool
is_small_capitals m = (m.aat_feature_type == 37) && (m.selector_to_enable == 1)

-- the name that a row asks for: small capitals ask the older type of letter case where the font lacks theirs
abbrev pub name_for : List FeatureName → hb_aat_feature_mapping_t → Option FeatureName
name_for names m =
    if is_small_capitals m then either_name (exposed names 37) (exposed names 3) else exposed names m.aat_feature_type

-- what becomes of a feature: whether it is known, and what is appended
pub record Addition : Type 0 where
  pub is_known : Bool
  pub appended : Option feature_info_t

-- nothing is known of a feature
abbrev pub unknown : Addition
unknown = record { is_known = false; appended = None }

-- the value of `aalt` is a setting of the character alternatives, always exclusive; no row has this tag
abbrev pub alternates : List FeatureName → Feature → Addition
alternates names f =
    if is_some (exposed names 17)
    then record { is_known = false; appended = Some (record { kind = 17; setting = f.value; is_exclusive = true }) }
    else record { is_known = true; appended = None }

-- a row's selector by the value
abbrev pub selector : hb_aat_feature_mapping_t → ℕ → ℕ
selector m value = if value == 0 then m.selector_to_disable else m.selector_to_enable

-- the setting that a row appends for a value, exclusive as a name says
abbrev pub mapped_setting : hb_aat_feature_mapping_t → ℕ → FeatureName → feature_info_t
mapped_setting m value n = record { kind = m.aat_feature_type; setting = selector m value; is_exclusive = n.exclusive }

-- a feature with a row is known, and is appended where the font has its type with settings
abbrev pub addition_by_row : List FeatureName → Feature → Option hb_aat_feature_mapping_t → Addition
addition_by_row names f None = unknown
addition_by_row names f (Some m) =
    record { is_known = true; appended = option_map (mapped_setting m f.value) (name_for names m) }

-- what becomes of a feature, by the font's feature names, if it has them
abbrev pub addition : Option (List FeatureName) → Feature → Addition
addition None f = unknown
addition (Some names) f = if is_alternates f then alternates names f else addition_by_row names f (mapping_of f.tag.0)

-- a value past the settings of the character alternatives, where the font has them
abbrev pub is_past_alternates : List FeatureName → Feature → Bool
is_past_alternates names f = is_some (exposed names 17) && nat_lt 65535 f.value

-- a value of `aalt` that is no setting, where the font has character alternatives
abbrev pub is_too_large : Option (List FeatureName) → Feature → Bool
is_too_large None f = false
is_too_large (Some names) f = is_alternates f && is_past_alternates names f

-- a feature setting over clusters
abbrev pub over_clusters : Feature → feature_info_t → feature_range_t
over_clusters f info = record { info = info; start = f.start; end = f.end }

-- the request that a feature makes, if it makes one
abbrev pub request_of : Option (List FeatureName) → Feature → Option feature_range_t
request_of names f = option_map (over_clusters f) (addition names f).appended

-- the requests that features make, in their order
abbrev pub requests_of : Option (List FeatureName) → List Feature → List feature_range_t
requests_of names features = filter_map (request_of names) features
