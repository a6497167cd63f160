-- Clusters in a text, and of a range.
use Rattle.std.specs.Prelude.{ℕ, ◌+◌, List, min, codes, Option, Some, None, unwrap_or, Result, Ok, Err}
use Rattle.std.specs.Option.{option_map_or, option_or}
use Rattle.std.specs.declared.ops.Bound.{Bound}
use Rattle.std.specs.declared.ops.Bound.TheVariants.{Included, Excluded, Unbounded}
use Rattle.std.specs.declared.ops.Range.{Range}
use Rattle.aat_layout.specs.features.Characters.{next, skipped}
use Rattle.aat_layout.specs.features.Numbers.{greatest, number_at}
use Rattle.aat_layout.specs.features.Tags.{◌>>=◌}
use Rattle.aat_layout.specs.declared.features.error.FeatureError.{FeatureError}
use Rattle.aat_layout.specs.declared.features.error.FeatureError.TheVariants.{MissingBracket}

-- the number after another one, but none is above the greatest
abbrev pub after_cluster : ℕ → ℕ
after_cluster n = min (n + 1) greatest

-- the cluster that a range starts at
abbrev pub start_of : Bound ℕ → ℕ
start_of (Included n) = n
start_of (Excluded n) = after_cluster n
start_of Unbounded = 0

-- the cluster that a range ends before, the greatest number for no end
abbrev pub end_of : Bound ℕ → ℕ
end_of (Included n) = after_cluster n
end_of (Excluded n) = n
end_of Unbounded = greatest

-- all clusters
abbrev pub all_clusters : Range ℕ
all_clusters = record { start = 0; end = greatest }

-- the cluster of a number alone, or all clusters where there is no number
abbrev pub only : Option ℕ → Range ℕ
only None = all_clusters
only (Some n) = record { start = n; end = after_cluster n }

-- the place behind a sign that parts a start from an end, where it comes next
unfoldable pub separated : List ℕ → ℕ → Option ℕ
separated text place =
    option_or (next (codes ":") text place) (option_or (next (codes ";") text place) (next (codes "..") text place))

-- these clusters, and the place behind the bracket that closes them
unfoldable pub closed : Range ℕ → List ℕ → ℕ → Result (Range ℕ × ℕ) FeatureError
closed clusters text place =
    option_map_or (λ behind. Ok (clusters, behind)) (next (codes "]") text place)
    (Err (MissingBracket (skipped text place)))

-- the clusters from a start on to the end that comes next, or with no end
unfoldable pub ended_at : Option ℕ → List ℕ → ℕ → Result (Range ℕ × ℕ) FeatureError
ended_at start text place = do
  end ← number_at text place
  closed (record { start = unwrap_or start 0; end = unwrap_or end.0 greatest }) text end.1

-- the clusters in brackets of which the first is passed
unfoldable pub bracketed_at : List ℕ → ℕ → Result (Range ℕ × ℕ) FeatureError
bracketed_at text place = do
  start ← number_at text place
  option_map_or (ended_at start.0 text) (separated text start.1) (closed (only start.0) text start.1)

-- the clusters in brackets that come next, or else all clusters
unfoldable pub clusters_at : List ℕ → ℕ → Result (Range ℕ × ℕ) FeatureError
clusters_at text place = option_map_or (bracketed_at text) (next (codes "[") text place) (Ok (all_clusters, place))
