-- Features with their names as bytes. Apple's TrueType Reference Manual, "The 'feat' table".
use Rattle.std.specs.Prelude.{ℕ, ◌+◌, ◌*◌, ◌/◌, ◌%◌, List, [], ◌∷◌, ◌++◌, length, Bool, Result, nat_lt, ◌||◌, sum_by}
use Rattle.std.specs.List.{flat_map}
use Rattle.aat_lookup.specs.Keys.{first_fall}
use Rattle.aat_write_sfnt.specs.Records.{records}
use Rattle.aat_write_sfnt.specs.declared.feat.NamedSetting.{NamedSetting}
use Rattle.aat_write_machine.specs.Features.{feature_flags}
use Rattle.aat_write_machine.specs.Words.{word_bytes}
use Rattle.aat_write_machine.specs.WriteErrors.{unless_refused}
use Rattle.aat_write_machine.specs.declared.write_error.WriteError.{WriteError}

-- a feature: its type, whether its settings exclude one another, the number of its name, and its settings
pub record FeatFeature : Type 0 where
  pub kind : ℕ
  pub exclusive : Bool
  pub name : ℕ
  pub settings : List NamedSetting

-- features rise by their types
abbrev pub type_of : FeatFeature → ℕ
type_of feature = feature.kind

-- how many settings a feature has
abbrev pub setting_count : FeatFeature → ℕ
setting_count feature = length feature.settings

-- a setting: its number, and that of its name
abbrev pub setting_words : NamedSetting → List ℕ
setting_words setting = setting.setting ∷ setting.name ∷ []

-- the settings of a feature
abbrev pub setting_bytes : FeatFeature → List ℕ
setting_bytes feature = word_bytes (flat_map setting_words feature.settings)

-- the settings of features, one behind the other
abbrev pub all_setting_bytes : List FeatFeature → List ℕ
all_setting_bytes features = flat_map setting_bytes features

-- a record: type, number of settings, their place, flags, and name
abbrev pub feature_record_words : ℕ → FeatFeature → List ℕ
feature_record_words place feature =
    feature.kind ∷ setting_count feature ∷ (place / 65536) ∷ (place % 65536)
    ∷ feature_flags feature.exclusive ∷ feature.name ∷ []

-- version 1.0, the number of features, and the records. The settings stand behind them
abbrev pub named_feat_words : List FeatFeature → List ℕ
named_feat_words features =
    (1 ∷ 0 ∷ length features ∷ 0 ∷ 0 ∷ 0 ∷ [])
    ++ records setting_bytes feature_record_words (12 + 12 * length features) features

-- the bytes of a table, or why it is not written: types that do not rise, more than 65,535 features, or more than as
-- many settings of all features together
abbrev pub named_feat_written : List FeatFeature → Result (List ℕ) WriteError
named_feat_written features =
    unless_refused (first_fall type_of features)
    (nat_lt 65535 (length features) || nat_lt 65535 (sum_by setting_count features))
    (word_bytes (named_feat_words features) ++ all_setting_bytes features)
