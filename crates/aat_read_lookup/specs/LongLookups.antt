-- What the bytes of a lookup with values of 32 bits say. Apple's TrueType Reference Manual, "Font Tables", section on
-- lookup tables.
use Rattle.std.specs.Prelude.{ℕ, List, map, Result, Ok}
use Rattle.std.specs.List.{flat_map}
use Rattle.aat_bytes.specs.Faults.{after}
use Rattle.aat_bytes.specs.declared.error.Fault.{Fault}
use Rattle.aat_bytes.specs.declared.tag.Tag.{Tag}
use Rattle.aat_read_lookup.specs.Kept.{row_of}
use Rattle.aat_read_lookup.specs.Layouts.{layout_at, segments_of}
use Rattle.aat_read_lookup.specs.Segments.{long_value_at, pairs_by}
use Rattle.aat_read_lookup.specs.declared.layout.Layout.{Layout}
use Rattle.aat_read_lookup.specs.declared.segment.ValueKind.TheVariants.{Long}

-- the pairs of a layout, in the order of the file
abbrev pub long_pairs_of : List ℕ → Layout → List (ℕ × ℕ)
long_pairs_of bytes layout = flat_map (pairs_by (long_value_at bytes)) (segments_of bytes layout)

-- the pairs of the lookup at a place of a table, for a font of so many glyphs, or its first fault
abbrev pub long_lookup_at : Tag → List ℕ → ℕ → ℕ → Result (List (ℕ × ℕ)) Fault
long_lookup_at table bytes place glyph_count =
    after (layout_at table bytes place glyph_count Long) (λ layout. Ok (long_pairs_of bytes layout))

-- a glyph with the row of its value
abbrev pub in_long_row : ℕ → ℕ × ℕ → ℕ × ℕ
in_long_row width pair = (pair.0, row_of width pair.1)

-- each glyph of the lookup at a place with its row, or the first fault of the lookup
abbrev pub long_rows_at : Tag → List ℕ → ℕ → ℕ → ℕ → Result (List (ℕ × ℕ)) Fault
long_rows_at table bytes place glyph_count width =
    after (long_lookup_at table bytes place glyph_count) (λ pairs. Ok (map (in_long_row width) pairs))
