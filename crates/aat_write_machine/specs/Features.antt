-- The feature name table as bytes. Apple's TrueType Reference Manual, "The 'feat' table".
use Rattle.std.specs.Prelude.{ℕ, ◌+◌, ◌*◌, ◌/◌, ◌%◌, List, [], ◌∷◌, ◌++◌, length, Bool, Result, if◌then◌else◌, nat_lt}
use Rattle.std.specs.List.{flat_map}
use Rattle.aat_lookup.specs.FeatureNames.{kind_of}
use Rattle.aat_lookup.specs.Keys.{first_fall}
use Rattle.aat_lookup.specs.declared.feat.FeatureName.{FeatureName}
use Rattle.aat_write_machine.specs.Words.{word_bytes}
use Rattle.aat_write_machine.specs.WriteErrors.{unless_refused}
use Rattle.aat_write_machine.specs.declared.write_error.WriteError.{WriteError}

-- the flags of a feature: the highest bit is set where its settings exclude one another
abbrev pub feature_flags : Bool → ℕ
feature_flags exclusive = if exclusive then 32768 else 0

-- a record: type, number of settings, their offset, flags, and name 0. The offset is the end of the table, so that the
-- names of settings are missing
abbrev pub feature_words : ℕ → FeatureName → List ℕ
feature_words end name =
    name.kind ∷ name.settings ∷ (end / 65536) ∷ (end % 65536) ∷ feature_flags name.exclusive ∷ 0 ∷ []

-- a table: version 1.0, the number of features, and their records
abbrev pub feat_words : List FeatureName → List ℕ
feat_words names =
    (1 ∷ 0 ∷ length names ∷ 0 ∷ 0 ∷ 0 ∷ []) ++ flat_map (feature_words (12 + 12 * length names)) names

-- the bytes of a table, or why it is not written
abbrev pub feat_written : List FeatureName → Result (List ℕ) WriteError
feat_written names =
    unless_refused (first_fall kind_of names) (nat_lt 65535 (length names)) (word_bytes (feat_words names))
