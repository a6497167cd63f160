-- Worked examples of lookups.
use Rattle.std.specs.Prelude.{◌≡◌, ℕ, List, [], ◌∷◌, ◌++◌, Some, None, Ok, Err}
use Rattle.aat_bytes.specs.Faults.{fault_at}
use Rattle.aat_bytes.specs.declared.error.FaultKind.TheVariants.{PastEnd, UnknownFormat, ShortLength, NotRising}
use Rattle.aat_bytes.specs.declared.tag.Tag.{Tag}
use Rattle.aat_read_lookup.specs.Lookups.{lookup_at, value_of_glyph}

-- `morx`
abbrev pub example_table : Tag
example_table = record { 0 = 1836020344 }

-- arrays: a value for each glyph of the font, for each of two glyphs from 3 on, and the same in one byte. A value of
-- glyph 65536 is left out
abbrev pub ArraysHaveAValueForEachGlyph : Type 0
ArraysHaveAValueForEachGlyph =
    (lookup_at example_table (0 ∷ 0 ∷ 0 ∷ 5 ∷ 0 ∷ 7 ∷ []) 0 2 ≡ Ok ((0, 5) ∷ (1, 7) ∷ []))
    × (lookup_at example_table (0 ∷ 0 ∷ 0 ∷ 5 ∷ 0 ∷ 7 ∷ []) 0 3 ≡ Err (fault_at example_table PastEnd 2))
    × (lookup_at example_table (0 ∷ 8 ∷ 0 ∷ 3 ∷ 0 ∷ 2 ∷ 0 ∷ 5 ∷ 0 ∷ 7 ∷ []) 0 9 ≡ Ok ((3, 5) ∷ (4, 7) ∷ []))
    × (lookup_at example_table (0 ∷ 8 ∷ 255 ∷ 255 ∷ 0 ∷ 2 ∷ 0 ∷ 5 ∷ 0 ∷ 7 ∷ []) 0 9 ≡ Ok ((65535, 5) ∷ []))
    × (lookup_at example_table (0 ∷ 8 ∷ 0 ∷ 3 ∷ 0 ∷ 2 ∷ 0 ∷ 5 ∷ 0 ∷ []) 0 9 ≡ Err (fault_at example_table PastEnd 6))
    × (lookup_at example_table (0 ∷ 10 ∷ 0 ∷ 1 ∷ 0 ∷ 3 ∷ 0 ∷ 2 ∷ 5 ∷ 7 ∷ []) 0 9 ≡ Ok ((3, 5) ∷ (4, 7) ∷ []))
    × (lookup_at example_table (0 ∷ 10 ∷ 0 ∷ 4 ∷ 0 ∷ 3 ∷ 0 ∷ 0 ∷ []) 0 9 ≡ Err (fault_at example_table UnknownFormat 2))

-- the header of a lookup of a format, with the size and the number of its units
abbrev pub example_header : ℕ → ℕ → ℕ → List ℕ
example_header format size count = 0 ∷ format ∷ 0 ∷ size ∷ 0 ∷ count ∷ 0 ∷ 0 ∷ 0 ∷ 0 ∷ 0 ∷ 0 ∷ []

-- glyphs 3 and 5 in format 6, behind two bytes, in units that are wider than their records, with a terminator
abbrev pub example_singles : List ℕ
example_singles =
    9 ∷ 9 ∷ example_header 6 6 3 ++ 0 ∷ 3 ∷ 0 ∷ 8 ∷ 9 ∷ 9 ∷ 0 ∷ 5 ∷ 0 ∷ 7 ∷ 9 ∷ 9 ∷ 255 ∷ 255 ∷ 0 ∷ 0 ∷ 0 ∷ 0 ∷ []

-- glyphs 3 and 4 in a segment of format 2, with a terminator
abbrev pub example_segments : List ℕ
example_segments = example_header 2 6 2 ++ 0 ∷ 4 ∷ 0 ∷ 3 ∷ 0 ∷ 8 ∷ 255 ∷ 255 ∷ 255 ∷ 255 ∷ 0 ∷ 0 ∷ []

-- glyphs 3 and 4 in a segment of format 4, behind two bytes, whose values stand at 18 from the start of the lookup
abbrev pub example_segment_arrays : List ℕ
example_segment_arrays = 9 ∷ 9 ∷ example_header 4 6 1 ++ 0 ∷ 4 ∷ 0 ∷ 3 ∷ 0 ∷ 18 ∷ 0 ∷ 8 ∷ 0 ∷ 7 ∷ []

-- units of each format; a terminator that is counted is none
abbrev pub UnitsHaveTheirGlyphs : Type 0
UnitsHaveTheirGlyphs =
    (lookup_at example_table example_singles 2 9 ≡ Ok ((3, 8) ∷ (5, 7) ∷ []))
    × (value_of_glyph example_table example_singles 2 9 5 ≡ Some 7)
    × (value_of_glyph example_table example_singles 2 9 4 ≡ None)
    × (lookup_at example_table example_segments 0 9 ≡ Ok ((3, 8) ∷ (4, 8) ∷ []))
    × (lookup_at example_table example_segment_arrays 2 9 ≡ Ok ((3, 8) ∷ (4, 7) ∷ []))
    × (value_of_glyph example_table example_segment_arrays 2 9 4 ≡ Some 7)

-- glyphs 5, 3 and 4 in format 6: a bisection begins at 3, and goes below for lower glyphs, and above for higher ones
abbrev pub example_falling : List ℕ
example_falling = example_header 6 4 3 ++ 0 ∷ 5 ∷ 0 ∷ 7 ∷ 0 ∷ 3 ∷ 0 ∷ 8 ∷ 0 ∷ 4 ∷ 0 ∷ 9 ∷ []

-- segments from 2 to 6 and from 4 to 8 in format 4, whose values stand at 24 and at 34: the first one is found first,
-- and leaves the glyphs above its own to the other
abbrev pub example_crossing : List ℕ
example_crossing =
    example_header 4 6 2
    ++ 0 ∷ 6 ∷ 0 ∷ 2 ∷ 0 ∷ 24 ∷ 0 ∷ 8 ∷ 0 ∷ 4 ∷ 0 ∷ 34
    ∷ 0 ∷ 1 ∷ 0 ∷ 2 ∷ 0 ∷ 3 ∷ 0 ∷ 4 ∷ 0 ∷ 5
    ∷ 0 ∷ 11 ∷ 0 ∷ 12 ∷ 0 ∷ 13 ∷ 0 ∷ 14 ∷ 0 ∷ 15 ∷ []

-- units that do not rise have the glyphs by which a bisection finds them, with their own values; one without glyphs has
-- none
abbrev pub UnitsAreThoseFound : Type 0
UnitsAreThoseFound =
    (lookup_at example_table example_falling 0 9 ≡ Ok ((3, 8) ∷ (4, 9) ∷ []))
    × (value_of_glyph example_table example_falling 0 9 5 ≡ None)
    × (lookup_at example_table (example_header 6 4 2 ++ 0 ∷ 3 ∷ 0 ∷ 8 ∷ 0 ∷ 3 ∷ 0 ∷ 7 ∷ []) 0 9 ≡ Ok ((3, 8) ∷ []))
    × (lookup_at example_table (example_header 2 6 1 ++ 0 ∷ 2 ∷ 0 ∷ 3 ∷ 0 ∷ 8 ∷ []) 0 9 ≡ Ok [])
    × (lookup_at example_table example_crossing 0 9
    ≡ Ok ((2, 1) ∷ (3, 2) ∷ (4, 3) ∷ (5, 4) ∷ (6, 5) ∷ (7, 14) ∷ (8, 15) ∷ []))
    × (value_of_glyph example_table example_crossing 0 9 7 ≡ Some 14)

-- each fault of a lookup, at its place
abbrev pub FaultsHaveTheirPlaces : Type 0
FaultsHaveTheirPlaces =
    (lookup_at example_table (0 ∷ []) 0 9 ≡ Err (fault_at example_table PastEnd 0))
    × (lookup_at example_table (0 ∷ 3 ∷ []) 0 9 ≡ Err (fault_at example_table UnknownFormat 0))
    × (lookup_at example_table (0 ∷ 6 ∷ 0 ∷ 4 ∷ []) 0 9 ≡ Err (fault_at example_table PastEnd 0))
    × (lookup_at example_table (example_header 6 3 0) 0 9 ≡ Err (fault_at example_table ShortLength 2))
    × (lookup_at example_table (example_header 6 4 2 ++ 0 ∷ 3 ∷ 0 ∷ 8 ∷ 0 ∷ 5 ∷ []) 0 9
    ≡ Err (fault_at example_table PastEnd 16))
    × (lookup_at example_table (example_header 4 6 1 ++ 0 ∷ 2 ∷ 0 ∷ 3 ∷ 0 ∷ 18 ∷ []) 0 9
    ≡ Err (fault_at example_table NotRising 12))
    × (lookup_at example_table (example_header 4 6 1 ++ 0 ∷ 4 ∷ 0 ∷ 3 ∷ 0 ∷ 18 ∷ 0 ∷ 8 ∷ []) 0 9
    ≡ Err (fault_at example_table PastEnd 18))
