-- The feature that a text is: a sign, a tag, clusters and a value, of which the tag alone is demanded.
use Rattle.std.specs.Prelude.{ℕ, List, length, Result, Ok, Err, nat_lt, if◌then◌else◌}
use Rattle.std.specs.declared.ops.Range.{Range}
use Rattle.aat_font.specs.declared.plan.Feature.{Feature}
use Rattle.aat_font.specs.declared.tag.hb_tag_t.{hb_tag_t}
use Rattle.aat_layout.specs.features.Characters.{skipped}
use Rattle.aat_layout.specs.features.Clusters.{clusters_at}
use Rattle.aat_layout.specs.features.Tags.{◌>>=◌, tag_at}
use Rattle.aat_layout.specs.features.Values.{sign_at, value_at}
use Rattle.aat_layout.specs.declared.features.error.FeatureError.{FeatureError}
use Rattle.aat_layout.specs.declared.features.error.FeatureError.TheVariants.{TrailingText}

-- a value of a tag over clusters
abbrev pub feature_over : hb_tag_t → ℕ → Range ℕ → Feature
feature_over tag value clusters = record { tag = tag; value = value; start = clusters.start; end = clusters.end }

-- a feature, where nothing but spaces comes next
unfoldable pub ended : Feature → List ℕ → ℕ → Result Feature FeatureError
ended feature text place =
    if nat_lt (skipped text place) (length text) then Err (TrailingText (skipped text place)) else Ok feature

-- the feature that a text is, or its first fault
unfoldable pub feature_of : List ℕ → Result Feature FeatureError
feature_of text = do
  tag ← tag_at text (sign_at text 0).1
  clusters ← clusters_at text tag.1
  value ← value_at (sign_at text 0).0 text clusters.1
  ended (feature_over tag.0 value.0 clusters.0) text value.1
