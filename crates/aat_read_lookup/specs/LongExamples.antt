-- Worked examples of lookups with values of 32 bits.
use Rattle.std.specs.Prelude.{◌≡◌, ℕ, ◌*◌, ◌+◌, List, [], ◌∷◌, ◌++◌, replicate, Ok, Err}
use Rattle.aat_bytes.specs.Faults.{fault_at}
use Rattle.aat_bytes.specs.declared.error.FaultKind.TheVariants.{PastEnd, UnknownFormat, ShortLength}
use Rattle.aat_bytes.specs.declared.tag.Tag.{Tag}
use Rattle.aat_read_lookup.specs.LookupExamples.{example_header}
use Rattle.aat_read_lookup.specs.LongLookups.{long_lookup_at, long_rows_at}
use Rattle.aat_read_lookup.specs.LongSizes.{long_bytes_at, long_size_at}

-- `kerx`
abbrev pub example_table : Tag
example_table = record { 0 = 1801810552 }

-- arrays: a value for each glyph of the font, for each of two glyphs from 3 on, and the same in one byte, in two and in
-- four. A value of glyph 65536 is left out
abbrev pub ArraysHaveAValueForEachGlyph : Type 0
ArraysHaveAValueForEachGlyph =
    (long_lookup_at example_table (0 ∷ 0 ∷ 0 ∷ 1 ∷ 0 ∷ 5 ∷ 0 ∷ 0 ∷ 0 ∷ 7 ∷ []) 0 2 ≡ Ok ((0, 65541) ∷ (1, 7) ∷ []))
    × (long_lookup_at example_table (0 ∷ 0 ∷ 0 ∷ 0 ∷ 0 ∷ 5 ∷ 0 ∷ 7 ∷ []) 0 2 ≡ Err (fault_at example_table PastEnd 2))
    × (long_lookup_at example_table (0 ∷ 8 ∷ 0 ∷ 3 ∷ 0 ∷ 2 ∷ 0 ∷ 1 ∷ 0 ∷ 5 ∷ 0 ∷ 0 ∷ 0 ∷ 7 ∷ []) 0 9
    ≡ Ok ((3, 65541) ∷ (4, 7) ∷ []))
    × (long_lookup_at example_table (0 ∷ 8 ∷ 255 ∷ 255 ∷ 0 ∷ 2 ∷ 0 ∷ 0 ∷ 0 ∷ 5 ∷ 0 ∷ 0 ∷ 0 ∷ 7 ∷ []) 0 9
    ≡ Ok ((65535, 5) ∷ []))
    × (long_lookup_at example_table (0 ∷ 10 ∷ 0 ∷ 1 ∷ 0 ∷ 3 ∷ 0 ∷ 2 ∷ 5 ∷ 7 ∷ []) 0 9 ≡ Ok ((3, 5) ∷ (4, 7) ∷ []))
    × (long_lookup_at example_table (0 ∷ 10 ∷ 0 ∷ 2 ∷ 0 ∷ 3 ∷ 0 ∷ 1 ∷ 1 ∷ 5 ∷ []) 0 9 ≡ Ok ((3, 261) ∷ []))
    × (long_lookup_at example_table (0 ∷ 10 ∷ 0 ∷ 4 ∷ 0 ∷ 3 ∷ 0 ∷ 1 ∷ 0 ∷ 1 ∷ 0 ∷ 5 ∷ []) 0 9 ≡ Ok ((3, 65541) ∷ []))
    × (long_lookup_at example_table (0 ∷ 10 ∷ 0 ∷ 8 ∷ 0 ∷ 3 ∷ 0 ∷ 0 ∷ []) 0 9
    ≡ Err (fault_at example_table UnknownFormat 2))

-- glyphs 3 and 5 in format 6, behind two bytes, in units that are wider than their records, with a terminator
abbrev pub example_singles : List ℕ
example_singles =
    9 ∷ 9 ∷ example_header 6 8 3
    ++ 0 ∷ 3 ∷ 0 ∷ 1 ∷ 0 ∷ 8 ∷ 9 ∷ 9 ∷ 0 ∷ 5 ∷ 0 ∷ 0 ∷ 0 ∷ 7 ∷ 9 ∷ 9 ∷ 255 ∷ 255 ∷ 0 ∷ 0 ∷ 0 ∷ 0 ∷ 0 ∷ 0 ∷ []

-- glyphs 3 and 4 in a segment of format 2, with a terminator
abbrev pub example_segments : List ℕ
example_segments =
    example_header 2 8 2 ++ 0 ∷ 4 ∷ 0 ∷ 3 ∷ 0 ∷ 1 ∷ 0 ∷ 8 ∷ 255 ∷ 255 ∷ 255 ∷ 255 ∷ 0 ∷ 0 ∷ 0 ∷ 0 ∷ []

-- glyphs 3 and 4 in a segment of format 4, behind two bytes, whose values stand at 18 from the start of the lookup
abbrev pub example_segment_arrays : List ℕ
example_segment_arrays =
    9 ∷ 9 ∷ example_header 4 6 1 ++ 0 ∷ 4 ∷ 0 ∷ 3 ∷ 0 ∷ 18 ∷ 0 ∷ 1 ∷ 0 ∷ 8 ∷ 0 ∷ 0 ∷ 0 ∷ 7 ∷ []

-- units of each format; a terminator that is counted is none, and one that a bisection does not find neither
abbrev pub UnitsHaveTheirGlyphs : Type 0
UnitsHaveTheirGlyphs =
    (long_lookup_at example_table example_singles 2 9 ≡ Ok ((3, 65544) ∷ (5, 7) ∷ []))
    × (long_lookup_at example_table example_segments 0 9 ≡ Ok ((3, 65544) ∷ (4, 65544) ∷ []))
    × (long_lookup_at example_table example_segment_arrays 2 9 ≡ Ok ((3, 65544) ∷ (4, 7) ∷ []))
    × (long_lookup_at example_table
    (example_header 6 6 2 ++ 0 ∷ 3 ∷ 0 ∷ 0 ∷ 0 ∷ 8 ∷ 0 ∷ 3 ∷ 0 ∷ 0 ∷ 0 ∷ 7 ∷ []) 0 9 ≡ Ok ((3, 8) ∷ []))

-- values as rows of 4, and as rows of one, which 16 bits have no place for
abbrev pub ValuesAreRows : Type 0
ValuesAreRows =
    (long_rows_at example_table example_singles 2 9 4 ≡ Ok ((3, 16386) ∷ (5, 1) ∷ []))
    × (long_rows_at example_table example_singles 2 9 1 ≡ Ok ((3, 65535) ∷ (5, 7) ∷ []))

-- each fault of a lookup, at its place
abbrev pub FaultsHaveTheirPlaces : Type 0
FaultsHaveTheirPlaces =
    (long_lookup_at example_table (0 ∷ []) 0 9 ≡ Err (fault_at example_table PastEnd 0))
    × (long_lookup_at example_table (0 ∷ 3 ∷ []) 0 9 ≡ Err (fault_at example_table UnknownFormat 0))
    × (long_lookup_at example_table (example_header 6 5 0) 0 9 ≡ Err (fault_at example_table ShortLength 2))
    × (long_lookup_at example_table (example_header 2 7 0) 0 9 ≡ Err (fault_at example_table ShortLength 2))
    × (long_lookup_at example_table (example_header 6 6 2 ++ 0 ∷ 3 ∷ 0 ∷ 0 ∷ 0 ∷ 8 ∷ 0 ∷ 5 ∷ []) 0 9
    ≡ Err (fault_at example_table PastEnd 18))
    × (long_lookup_at example_table (example_header 4 6 1 ++ 0 ∷ 4 ∷ 0 ∷ 3 ∷ 0 ∷ 18 ∷ 0 ∷ 0 ∷ 0 ∷ 8 ∷ []) 0 9
    ≡ Err (fault_at example_table PastEnd 18))

-- two segments of so many glyphs in format 4, which share the values at 24
abbrev pub example_shared : ℕ → List ℕ
example_shared count =
    example_header 4 6 2
    ++ 0 ∷ (count + 2) ∷ 0 ∷ 3 ∷ 0 ∷ 24 ∷ 0 ∷ (count + 19) ∷ 0 ∷ 20 ∷ 0 ∷ 24 ∷ []
    ++ replicate (4 * count) 0

-- segments of six bytes each; records and values; values that units share as far as these would stand in the table once
-- for each unit
abbrev pub SizesAreOfSegments : Type 0
SizesAreOfSegments =
    (long_size_at example_table example_segments 0 9 1 ≡ Ok 6)
    × (long_bytes_at example_table example_segments 0 9 ≡ Ok 8)
    × (long_size_at example_table example_segment_arrays 2 9 1 ≡ Ok 12)
    × (long_bytes_at example_table example_segment_arrays 2 9 ≡ Ok 14)
    × (long_bytes_at example_table (example_shared 3) 0 9 ≡ Ok 36)
    × (long_bytes_at example_table (example_shared 4) 0 9 ≡ Err (fault_at example_table PastEnd 0))
