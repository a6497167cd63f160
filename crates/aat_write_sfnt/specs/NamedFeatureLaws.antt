-- Features that are written are read again, with their names.
use Rattle.std.specs.Prelude.{◌≡◌, ℕ, ◌<◌, List, map, All, Option, Ok, option_and_then, option_map}
use Rattle.aat_lookup.specs.Keys.{at_key}
use Rattle.aat_lookup.specs.declared.feat.FeatureName.{FeatureName}
use Rattle.aat_read_lookup.specs.Features.{feat_of, feature_name_id, setting_name_id}
use Rattle.aat_write_sfnt.specs.NamedFeatures.{FeatFeature, named_feat_written, setting_count, type_of}
use Rattle.aat_write_sfnt.specs.declared.feat.NamedSetting.{NamedSetting}

-- a setting and its name have 16 bits each
abbrev pub IsSetting : NamedSetting → Type 0
IsSetting setting = (setting.setting < 65536) × (setting.name < 65536)

-- so have a type and its name, and each of its settings
abbrev pub IsFeature : FeatFeature → Type 0
IsFeature feature = (feature.kind < 65536) × (feature.name < 65536) × All IsSetting feature.settings

-- what a table says of a feature
abbrev pub feature_of : FeatFeature → FeatureName
feature_of feature =
    record { kind = feature.kind; settings = setting_count feature; exclusive = feature.exclusive }

-- the number of a setting
abbrev pub number_of_setting : NamedSetting → ℕ
number_of_setting setting = setting.setting

-- the name of a setting of a feature: that of the first with the number
abbrev pub name_of_setting : ℕ → FeatFeature → Option ℕ
name_of_setting number feature = option_map (λ s. s.name) (at_key number_of_setting feature.settings number)

-- the reader gives the features, the name of each type, and that of each of its settings, and no other name
abbrev pub WrittenFeaturesAreRead : Type 0
WrittenFeaturesAreRead =
    (features : List FeatFeature) (bytes : List ℕ)
    → All IsFeature features
    → named_feat_written features ≡ Ok bytes
    → (feat_of bytes ≡ Ok (map feature_of features))
    × ((kind : ℕ) → feature_name_id bytes kind ≡ option_map (λ f. f.name) (at_key type_of features kind))
    × ((kind number : ℕ)
    → setting_name_id bytes kind number ≡ option_and_then (name_of_setting number) (at_key type_of features kind))
