-- What is kept of the values of a lookup, and a lookup as it is kept in segments. Apple's TrueType Reference Manual,
-- "Font Tables", section on lookup tables.
use Rattle.std.specs.Prelude.{ℕ, ◌+◌, ◌-◌, ◌/◌, List, [], ◌∷◌, map, min, if◌then◌else◌, ◌==◌}
use Rattle.std.specs.List.{flat_map, range_with_len}
use Rattle.aat_lookup.specs.declared.segments.LookupSegment.{LookupSegment}
use Rattle.aat_read_lookup.specs.Layouts.{segments_of}
use Rattle.aat_read_lookup.specs.Segments.{end_of, is_shared, long_value_at, pairs_by, value_at}
use Rattle.aat_read_lookup.specs.declared.kept.Keep.{Keep}
use Rattle.aat_read_lookup.specs.declared.kept.Keep.TheVariants.{Value, Row, LongRow}
use Rattle.aat_read_lookup.specs.declared.layout.Layout.{Layout}
use Rattle.aat_read_lookup.specs.declared.segment.Segment.{Segment}
use Rattle.aat_read_lookup.specs.declared.segment.Values.{Values}

-- the row of a value that counts the values before it, where rows have so many: the last one of 16 bits where it is
-- further
abbrev pub row_of : ℕ → ℕ → ℕ
row_of width value = min (value / width) 65535

-- what is kept of the value of the glyph that stands k glyphs behind the first
abbrev pub kept_value : List ℕ → Keep → Values → ℕ → ℕ
kept_value bytes Value values k = value_at bytes values k
kept_value bytes (Row width) values k = value_at bytes values k / width
kept_value bytes (LongRow width) values k = row_of width (long_value_at bytes values k)

-- the pairs of a layout with what is kept of their values, in the order of the file
abbrev pub kept_pairs : List ℕ → Keep → Layout → List (ℕ × ℕ)
kept_pairs bytes keep layout = flat_map (pairs_by (kept_value bytes keep)) (segments_of bytes layout)

-- a segment of one value, as a lookup keeps it
abbrev pub whole_segment : List ℕ → Keep → Segment → LookupSegment
whole_segment bytes keep segment = record {
  first_glyph = segment.first;
  last_glyph = end_of segment - 1;
  value = kept_value bytes keep segment.values 0;
}

-- the glyph that stands k glyphs behind the first of a segment, as a segment of its own
abbrev pub single_segment : List ℕ → Keep → Segment → ℕ → LookupSegment
single_segment bytes keep segment k = record {
  first_glyph = segment.first + k;
  last_glyph = segment.first + k;
  value = kept_value bytes keep segment.values k;
}

-- what a segment is kept as: one where its glyphs have one value, else one for each glyph
abbrev pub kept_segments : List ℕ → Keep → Segment → List LookupSegment
kept_segments bytes keep segment =
    if is_shared segment.values then (if segment.count == 0 then [] else whole_segment bytes keep segment ∷ []) else
    map (single_segment bytes keep segment) (range_with_len 0 segment.count)

-- how many segments a segment is kept as
abbrev pub kept_count : Segment → ℕ
kept_count segment = if is_shared segment.values then min segment.count 1 else segment.count

-- the segments of a layout as they are kept: in arrays and in format 4 each glyph has its own value, in formats 2 and 6
-- each unit
abbrev pub layout_segments : List ℕ → Keep → Layout → List LookupSegment
layout_segments bytes keep layout = flat_map (kept_segments bytes keep) (segments_of bytes layout)
