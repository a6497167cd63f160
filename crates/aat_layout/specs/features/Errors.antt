-- Why a text is refused.
use Rattle.std.specs.Prelude.{ℕ}
use Rattle.aat_layout.specs.declared.features.error.FeatureError.{FeatureError}
use Rattle.aat_layout.specs.declared.features.error.FeatureError.TheVariants.{NoTag, TagLength, MissingQuote, MissingBracket, NumberTooLarge, MissingValue, TrailingText}

-- the numbers of the errors
abbrev pub number_of_feature_error : FeatureError → ℕ
number_of_feature_error (NoTag place) = 1
number_of_feature_error (TagLength place) = 2
number_of_feature_error (MissingQuote place) = 3
number_of_feature_error (MissingBracket place) = 4
number_of_feature_error (NumberTooLarge place) = 5
number_of_feature_error (MissingValue place) = 6
number_of_feature_error (TrailingText place) = 7
