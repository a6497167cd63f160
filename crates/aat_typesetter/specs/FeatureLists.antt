-- The features of a list, parted by commas.
use Rattle.std.specs.Prelude.{◌≡◌, ℕ, ◌+◌, ◌==◌, List, [], ◌∷◌, Result, Ok, Err}
use Rattle.std.specs.List.{slice_split}
use Rattle.aat_layout.specs.features.Reading.{feature_of}
use Rattle.aat_layout.specs.declared.features.error.FeatureError.{FeatureError}
use Rattle.aat_font.specs.declared.plan.Feature.{Feature}
use Rattle.aat_typesetter.specs.declared.error.FeatureListError.{FeatureListError}
use Rattle.aat_typesetter.specs.declared.error.FeatureListError.TheVariants.{NoFeature, OutOfMemory}

-- the numbers of the errors
abbrev pub number_of_list_error : FeatureListError → ℕ
number_of_list_error (NoFeature number error) = 1
number_of_list_error OutOfMemory = 2

-- a feature of a number before others, or the first error
abbrev pub with_feature :
    ℕ → Result Feature FeatureError → Result (List Feature) FeatureListError → Result (List Feature) FeatureListError
with_feature number (Err error) others = Err (NoFeature number error)
with_feature number (Ok feature) (Err error) = Err error
with_feature number (Ok feature) (Ok features) = Ok (feature ∷ features)

-- the features of texts, which are numbered from a number on
abbrev pub features_from : ℕ → List (List ℕ) → Result (List Feature) FeatureListError
features_from number [] = Ok []
features_from number (text ∷ texts) = with_feature number (feature_of text) (features_from (number + 1) texts)

-- the texts of a list, which commas part
abbrev pub texts_of : List ℕ → List (List ℕ)
texts_of list = slice_split (λ b. b == 0x2C) list

-- the features of a list, whose texts are numbered from 0
abbrev pub features_of : List ℕ → Result (List Feature) FeatureListError
features_of list = features_from 0 (texts_of list)

-- why a list is refused: it has a text that is no feature, or memory is wanting
abbrev pub RefusesList : List ℕ → FeatureListError → Type 0
RefusesList list (NoFeature number error) = features_of list ≡ Err (NoFeature number error)
RefusesList list OutOfMemory = Unit {0}
