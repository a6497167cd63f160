-- Worked examples of the feature name table.
use Rattle.std.specs.Prelude.{◌≡◌, ℕ, List, [], ◌∷◌, ◌++◌, true, false, Some, None, Ok, Err}
use Rattle.aat_bytes.specs.Faults.{fault_at}
use Rattle.aat_bytes.specs.declared.error.FaultKind.TheVariants.{PastEnd, UnknownFormat}
use Rattle.aat_bytes.specs.declared.tags.TheConstants.{FEAT}
use Rattle.aat_read_lookup.specs.Features.{feat_of, feature_name_id, setting_name_id}

-- the header of so many features
abbrev pub feat_header : ℕ → List ℕ
feat_header count = 0 ∷ 1 ∷ 0 ∷ 0 ∷ 0 ∷ count ∷ 0 ∷ 0 ∷ 0 ∷ 0 ∷ 0 ∷ 0 ∷ []

-- types 1 and 3: one setting, 2, whose name is 257, and one past the end; the second excludes
abbrev pub example_feat : List ℕ
example_feat =
    feat_header 2
    ++ 0 ∷ 1 ∷ 0 ∷ 1 ∷ 0 ∷ 0 ∷ 0 ∷ 36 ∷ 0 ∷ 0 ∷ 1 ∷ 0
    ∷ 0 ∷ 3 ∷ 0 ∷ 1 ∷ 0 ∷ 0 ∷ 0 ∷ 40 ∷ 128 ∷ 0 ∷ 1 ∷ 4
    ∷ 0 ∷ 2 ∷ 1 ∷ 1 ∷ []

-- features with their settings and names
abbrev pub FeaturesHaveNames : Type 0
FeaturesHaveNames =
    (feat_of example_feat
    ≡ Ok (record { kind = 1; settings = 1; exclusive = false } ∷ record { kind = 3; settings = 1; exclusive = true } ∷ []))
    × (feature_name_id example_feat 1 ≡ Some 256)
    × (feature_name_id example_feat 3 ≡ Some 260)
    × (feature_name_id example_feat 2 ≡ None)
    × (setting_name_id example_feat 1 2 ≡ Some 257)
    × (setting_name_id example_feat 1 3 ≡ None)
    × (setting_name_id example_feat 3 2 ≡ None)

-- types 3, 1 and 2, which do not rise: a bisection begins at 1, and goes above it for 2 and for 3
abbrev pub example_falling : List ℕ
example_falling =
    feat_header 3
    ++ 0 ∷ 3 ∷ 0 ∷ 0 ∷ 0 ∷ 0 ∷ 0 ∷ 48 ∷ 0 ∷ 0 ∷ 1 ∷ 4
    ∷ 0 ∷ 1 ∷ 0 ∷ 0 ∷ 0 ∷ 0 ∷ 0 ∷ 48 ∷ 0 ∷ 0 ∷ 1 ∷ 0
    ∷ 0 ∷ 2 ∷ 0 ∷ 0 ∷ 0 ∷ 0 ∷ 0 ∷ 48 ∷ 128 ∷ 0 ∷ 1 ∷ 2 ∷ []

-- of types that do not rise those are known that a bisection finds
abbrev pub FeaturesAreThoseFound : Type 0
FeaturesAreThoseFound =
    (feat_of example_falling
    ≡ Ok (record { kind = 1; settings = 0; exclusive = false } ∷ record { kind = 2; settings = 0; exclusive = true } ∷ []))
    × (feature_name_id example_falling 2 ≡ Some 258)
    × (feature_name_id example_falling 3 ≡ None)

-- each fault of the table, at its place
abbrev pub FeatFaultsHaveTheirPlaces : Type 0
FeatFaultsHaveTheirPlaces =
    (feat_of (0 ∷ 1 ∷ []) ≡ Err (fault_at FEAT PastEnd 0))
    × (feat_of (0 ∷ 2 ∷ 0 ∷ 0 ∷ 0 ∷ 0 ∷ 0 ∷ 0 ∷ 0 ∷ 0 ∷ 0 ∷ 0 ∷ []) ≡ Err (fault_at FEAT UnknownFormat 0))
    × (feat_of (feat_header 1 ++ 0 ∷ 1 ∷ []) ≡ Err (fault_at FEAT PastEnd 12))
