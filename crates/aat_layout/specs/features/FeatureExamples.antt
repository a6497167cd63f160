-- Worked examples of features and tags in texts.
use Rattle.std.specs.Prelude.{◌≡◌, ℕ, List, codes, Ok, Err}
use Rattle.std.specs.declared.ops.Bound.TheVariants.{Included, Excluded, Unbounded}
use Rattle.std.specs.declared.ops.Range.{Range}
use Rattle.aat_layout.specs.features.Clusters.{all_clusters, end_of, start_of}
use Rattle.aat_layout.specs.features.Numbers.{greatest}
use Rattle.aat_layout.specs.features.Reading.{feature_of, feature_over}
use Rattle.aat_layout.specs.features.Tags.{tag_of, whole_tag}
use Rattle.aat_layout.specs.declared.features.error.FeatureError.{FeatureError}
use Rattle.aat_layout.specs.declared.features.error.FeatureError.TheVariants.{NoTag, TagLength, MissingQuote, MissingBracket, NumberTooLarge, MissingValue, TrailingText}

-- a text is a tag with a value over clusters
abbrev pub Is : List ℕ → List ℕ → ℕ → Range ℕ → Type 0
Is text tag value clusters = feature_of text ≡ Ok (feature_over (tag_of tag) value clusters)

-- a text is a tag with a value over all clusters
abbrev pub IsEverywhere : List ℕ → List ℕ → ℕ → Type 0
IsEverywhere text tag value = Is text tag value all_clusters

-- a text is no feature, for this fault
abbrev pub IsFaulty : List ℕ → FeatureError → Type 0
IsFaulty text fault = feature_of text ≡ Err fault

-- clusters from a start up to an end
abbrev pub from_to : ℕ → ℕ → Range ℕ
from_to start end = record { start = start; end = end }

-- signs and values
pub record ValueExamples : Type 0 where
  pub plain : IsEverywhere (codes "smcp") (codes "smcp") 1
  pub plus : IsEverywhere (codes "+smcp") (codes "smcp") 1
  pub minus : IsEverywhere (codes "-liga") (codes "liga") 0
  pub equals : IsEverywhere (codes "smcp=1") (codes "smcp") 1
  pub no_equals : IsEverywhere (codes "smcp 1") (codes "smcp") 1
  pub value_wins : IsEverywhere (codes "-aalt=2") (codes "aalt") 2
  pub on : IsEverywhere (codes "-kern On") (codes "kern") 1
  pub off : IsEverywhere (codes "kern=OFF") (codes "kern") 0
  pub zeros : IsEverywhere (codes "aalt=007") (codes "aalt") 7
  pub greatest_value : IsEverywhere (codes "aalt=4294967295") (codes "aalt") greatest
  pub short_tag : IsEverywhere (codes "a_1") (codes "a_1 ") 1
  pub spaces : IsEverywhere (codes " + smcp = 1 ") (codes "smcp") 1

-- clusters
pub record ClusterExamples : Type 0 where
  pub both : Is (codes "aalt[3:5]=2") (codes "aalt") 2 (from_to 3 5)
  pub one : Is (codes "aalt[3]") (codes "aalt") 1 (from_to 3 4)
  pub start : Is (codes "aalt[3:]") (codes "aalt") 1 (from_to 3 greatest)
  pub end : Is (codes "aalt[:5]") (codes "aalt") 1 (from_to 0 5)
  pub neither : IsEverywhere (codes "aalt[:]") (codes "aalt") 1
  pub empty : IsEverywhere (codes "aalt[]") (codes "aalt") 1
  pub semicolon : Is (codes "aalt[3;5]") (codes "aalt") 1 (from_to 3 5)
  pub range : Is (codes "aalt[3..5]") (codes "aalt") 1 (from_to 3 5)
  pub range_from : Is (codes "aalt[3..]") (codes "aalt") 1 (from_to 3 greatest)
  pub range_to : Is (codes "aalt[..5]") (codes "aalt") 1 (from_to 0 5)
  pub range_full : IsEverywhere (codes "aalt[..]") (codes "aalt") 1
  pub backwards : Is (codes "aalt[5:3]") (codes "aalt") 1 (from_to 5 3)
  pub last : Is (codes "aalt[4294967295]") (codes "aalt") 1 (from_to greatest greatest)
  pub spaces : Is (codes "-aalt [ 3 : 5 ] on") (codes "aalt") 1 (from_to 3 5)

-- quotes
pub record QuoteExamples : Type 0 where
  pub double : IsEverywhere (codes "\"kern\" off") (codes "kern") 0
  pub single : IsEverywhere (codes "'kern' on") (codes "kern") 1
  pub number : IsEverywhere (codes "\"liga\" 0") (codes "liga") 0
  pub alone : IsEverywhere (codes "\"liga\"") (codes "liga") 1
  pub close : IsEverywhere (codes "'liga'0") (codes "liga") 0

-- texts that are no features, with the first fault and its place
pub record FaultExamples : Type 0 where
  pub empty : IsFaulty (codes "") (NoTag 0)
  pub sign_alone : IsFaulty (codes "+ ") (NoTag 2)
  pub two_signs : IsFaulty (codes "+-smcp") (NoTag 1)
  pub empty_quotes : IsFaulty (codes "''") (NoTag 1)
  pub long : IsFaulty (codes "kerns") (TagLength 0)
  pub short_in_quotes : IsFaulty (codes "'ker'") (TagLength 1)
  pub open_quote : IsFaulty (codes "\"kern") (MissingQuote 5)
  pub other_quote : IsFaulty (codes "'kern\"") (MissingQuote 5)
  pub open_bracket : IsFaulty (codes "aalt[3:5") (MissingBracket 8)
  pub two_numbers : IsFaulty (codes "aalt[3 5]") (MissingBracket 7)
  pub one_dot : IsFaulty (codes "aalt[3.5]") (MissingBracket 6)
  pub negative : IsFaulty (codes "aalt[-1]") (MissingBracket 5)
  pub large_value : IsFaulty (codes "aalt=4294967296") (NumberTooLarge 5)
  pub large_start : IsFaulty (codes "aalt[99999999999999999999:]") (NumberTooLarge 5)
  pub no_value : IsFaulty (codes "kern =") (MissingValue 6)
  pub other_word : IsFaulty (codes "kern=onn") (MissingValue 5)
  pub word_behind : IsFaulty (codes "kern xyz") (TrailingText 5)
  pub two_values : IsFaulty (codes "smcp 1 2") (TrailingText 7)
  pub two_features : IsFaulty (codes "smcp,liga") (TrailingText 4)

-- tags
pub record TagExamples : Type 0 where
  pub number : whole_tag (codes "kern") ≡ Ok (record { 0 = 0x6B65726E })
  pub padded : whole_tag (codes "a") ≡ Ok (record { 0 = 0x61202020 })
  pub any_printable : whole_tag (codes "k-~ ") ≡ Ok (record { 0 = 0x6B2D7E20 })
  pub empty : whole_tag (codes "") ≡ Err (NoTag 0)
  pub long : whole_tag (codes "kerns") ≡ Err (TagLength 0)
  pub other_behind : whole_tag (codes "a\t") ≡ Err (TrailingText 1)

-- the ends of ranges
pub record RangeExamples : Type 0 where
  pub included_start : start_of (Included 3) ≡ 3
  pub excluded_start : start_of (Excluded 3) ≡ 4
  pub no_start : start_of Unbounded ≡ 0
  pub excluded_end : end_of (Excluded 5) ≡ 5
  pub included_end : end_of (Included 5) ≡ 6
  pub last_end : end_of (Included greatest) ≡ greatest
  pub no_end : end_of Unbounded ≡ greatest
