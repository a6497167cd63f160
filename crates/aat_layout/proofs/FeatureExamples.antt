-- The examples, by computing them.
use Rattle.std.proofs.Common.{refl}
use Rattle.aat_layout.specs.features.Characters.{after, run, skipped}
use Rattle.aat_layout.specs.features.Numbers.{number_at}
use Rattle.aat_layout.specs.features.Tags.{plain_tag, quoted_tag, tag_at, whole_tag}
use Rattle.aat_layout.specs.features.Clusters.{bracketed_at, closed, clusters_at, ended_at, separated}
use Rattle.aat_layout.specs.features.Values.{demanded_at, given_at, sign_at, switch_at, value_at, word_at}
use Rattle.aat_layout.specs.features.Reading.{ended, feature_of}
use Rattle.aat_layout.specs.features.FeatureExamples.{ValueExamples, ClusterExamples, QuoteExamples, FaultExamples, TagExamples, RangeExamples}

pub value_examples : ValueExamples
unfolding run skipped after number_at plain_tag quoted_tag tag_at separated closed ended_at bracketed_at clusters_at sign_at word_at switch_at given_at demanded_at value_at ended feature_of
value_examples = record { plain = refl; plus = refl; minus = refl; equals = refl; no_equals = refl; value_wins = refl; on = refl; off = refl; zeros = refl; greatest_value = refl; short_tag = refl; spaces = refl }

pub cluster_examples : ClusterExamples
unfolding run skipped after number_at plain_tag quoted_tag tag_at separated closed ended_at bracketed_at clusters_at sign_at word_at switch_at given_at demanded_at value_at ended feature_of
cluster_examples = record { both = refl; one = refl; start = refl; end = refl; neither = refl; empty = refl; semicolon = refl; range = refl; range_from = refl; range_to = refl; range_full = refl; backwards = refl; last = refl; spaces = refl }

pub quote_examples : QuoteExamples
unfolding run skipped after number_at plain_tag quoted_tag tag_at separated closed ended_at bracketed_at clusters_at sign_at word_at switch_at given_at demanded_at value_at ended feature_of
quote_examples = record { double = refl; single = refl; number = refl; alone = refl; close = refl }

pub fault_examples : FaultExamples
unfolding run skipped after number_at plain_tag quoted_tag tag_at separated closed ended_at bracketed_at clusters_at sign_at word_at switch_at given_at demanded_at value_at ended feature_of
fault_examples = record { empty = refl; sign_alone = refl; two_signs = refl; empty_quotes = refl; long = refl; short_in_quotes = refl; open_quote = refl; other_quote = refl; open_bracket = refl; two_numbers = refl; one_dot = refl; negative = refl; large_value = refl; large_start = refl; no_value = refl; other_word = refl; word_behind = refl; two_values = refl; two_features = refl }

pub tag_examples : TagExamples
unfolding run plain_tag whole_tag
tag_examples = record { number = refl; padded = refl; any_printable = refl; empty = refl; long = refl; other_behind = refl }

pub range_examples : RangeExamples
range_examples = record { included_start = refl; excluded_start = refl; no_start = refl; excluded_end = refl; included_end = refl; last_end = refl; no_end = refl }
