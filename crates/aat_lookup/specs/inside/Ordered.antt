-- Segments in their order. No contract but those of lookups cites this.
use Rattle.std.specs.Prelude.{ℕ, ◌<◌, ◌≤◌, List, length, slice_index_or}
use Rattle.aat_lookup.specs.EachGlyph.{pairs_of_each}
use Rattle.aat_lookup.specs.Keys.{IsRising, first}
use Rattle.aat_lookup.specs.Segments.{pairs_of_segments}
use Rattle.aat_lookup.specs.declared.lookup.Values.{Values}
use Rattle.aat_lookup.specs.declared.lookup.Values.TheVariants.{Listed, InCells, Segments, EachGlyph}
use Rattle.aat_lookup.specs.declared.segments.LookupSegment.{LookupSegment}
use Rattle.aat_lookup.specs.inside.Dense.{pairs_in_cells, AnswersAsPairs, HasSmallGlyphs}

-- each segment has a glyph, and begins behind those before it
abbrev pub AreInOrder : List LookupSegment → Type 0
AreInOrder segments =
    (i j : ℕ) (d : LookupSegment) → j < length segments
    → ((slice_index_or segments j d).first_glyph ≤ (slice_index_or segments j d).last_glyph)
    × (i < j → (slice_index_or segments i d).last_glyph < (slice_index_or segments j d).first_glyph)

-- the pairs of a lookup
abbrev pub pairs_of_values : {A : Type 0} → Values A → List (ℕ × ℕ)
pairs_of_values (Listed pairs dense) = pairs.items
pairs_of_values (InCells dense) = pairs_in_cells dense
pairs_of_values (Segments segments) = pairs_of_segments segments.items
pairs_of_values (EachGlyph values) = pairs_of_each values.items

-- pairs rise and are found as they are listed, or stand in their cells; segments are in order; glyphs have 16 bits
abbrev pub AreFound : {A : Type 0} → Values A → Type 0
AreFound (Listed pairs dense) = IsRising first pairs.items × AnswersAsPairs dense pairs.items
AreFound (InCells dense) = HasSmallGlyphs dense × AnswersAsPairs dense (pairs_in_cells dense)
AreFound (Segments segments) = AreInOrder segments.items
AreFound (EachGlyph values) = length values.items ≤ 65536
