-- Lookups that list segments of glyphs with one value. Apple's TrueType Reference Manual, "Font Tables", section on
-- lookup tables, segment single format.
use Rattle.std.specs.Prelude.{ℕ, ◌+◌, ◌-◌, List, [], ◌∷◌, map, if◌then◌else◌, ◌||◌, nat_lt, Option, Some, None}
use Rattle.std.specs.List.{flat_map, range_with_len}
use Rattle.aat_lookup.specs.declared.segments.LookupSegment.{LookupSegment}

-- the last glyph of a segment
abbrev pub last_of : LookupSegment → ℕ
last_of s = s.last_glyph

-- the pairs of a segment: each glyph from its first to its last, with its value
abbrev pub pairs_of_segment : LookupSegment → List (ℕ × ℕ)
pairs_of_segment s = map (λ k. (s.first_glyph + k, s.value)) (range_with_len 0 (s.last_glyph + 1 - s.first_glyph))

-- the pairs of segments, one segment after another
abbrev pub pairs_of_segments : List LookupSegment → List (ℕ × ℕ)
pairs_of_segments segments = flat_map pairs_of_segment segments

-- the place of the first segment, counted from place i on, that begins below a glyph, or ends before it begins; where it
-- does neither, the next one begins behind its end
abbrev pub segment_fall_from : ℕ → ℕ → List LookupSegment → Option ℕ
segment_fall_from i lowest [] = None
segment_fall_from i lowest (s ∷ segments) =
    if nat_lt s.first_glyph lowest || nat_lt s.last_glyph s.first_glyph then Some i
    else segment_fall_from (i + 1) (s.last_glyph + 1) segments

-- the place of the first segment that has no glyph, or begins no higher than the one before it ends
abbrev pub first_segment_fall : List LookupSegment → Option ℕ
first_segment_fall segments = segment_fall_from 0 0 segments
