-- The values of a lookup in the forms in which it keeps them.
use Rattle.std.specs.Prelude.{ℕ, ◌+◌, ◌≤◌, List, map, length, slice_index_or}
use Rattle.std.specs.List.{range_with_len}
use Rattle.aat_lookup.specs.Segments.{pairs_of_segments}
use Rattle.aat_lookup.specs.declared.listing.Listing.{Listing}
use Rattle.aat_lookup.specs.declared.listing.Listing.TheVariants.{Pairs, Segments, Values}

-- the pairs of glyphs that follow one another, from the lowest on, and their values
abbrev pub pairs_from : ℕ → List ℕ → List (ℕ × ℕ)
pairs_from lowest values = map (λ k. (lowest + k, slice_index_or values k 0)) (range_with_len 0 (length values))

-- the pairs of a lookup in a form in which it keeps them
abbrev pub pairs_of_listing : Listing → List (ℕ × ℕ)
pairs_of_listing (Pairs pairs) = pairs.now
pairs_of_listing (Segments segments) = pairs_of_segments segments.now
pairs_of_listing (Values lowest values) = pairs_from lowest values.now

-- glyphs that follow one another have 16 bits
abbrev pub AreSmall : Listing → Type 0
AreSmall (Pairs pairs) = Unit
AreSmall (Segments segments) = Unit
AreSmall (Values lowest values) = lowest + length values.now ≤ 65536
