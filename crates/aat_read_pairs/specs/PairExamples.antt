-- Worked examples of subtables of pairs.
use Rattle.std.specs.Prelude.{◌≡◌, ℕ, ℤ, pos, negsuc, List, [], ◌∷◌, take, Some, None, Ok, Err}
use Rattle.aat_bytes.specs.Faults.{fault_at}
use Rattle.aat_bytes.specs.declared.error.FaultKind.TheVariants.{PastEnd, ShortLength, UnknownFormat}
use Rattle.aat_bytes.specs.declared.tags.TheConstants.{KERN, KERX}
use Rattle.aat_read_pairs.specs.KernClasses.{kern_classes_at}
use Rattle.aat_read_pairs.specs.KernIndexes.{kern_indexes_at}
use Rattle.aat_read_pairs.specs.KerxClasses.{kerx_arrays_at}
use Rattle.aat_read_pairs.specs.ListedPairs.{kern_pairs_at, kerx_pairs_at}
use Rattle.aat_read_pairs.specs.LongArrays.{kerx_long_arrays_at, wide_value_at}

-- the pairs of the glyphs 1 and 2 with -1 and of two glyphs with 5, as `kern` has them
abbrev pub example_pairs : ℕ → ℕ → List ℕ
example_pairs left right =
    0 ∷ 2 ∷ 0 ∷ 0 ∷ 0 ∷ 0 ∷ 0 ∷ 0 ∷ 0 ∷ 1 ∷ 0 ∷ 2 ∷ 255 ∷ 255 ∷ 0 ∷ left ∷ 0 ∷ right ∷ 0 ∷ 5 ∷ []

-- pairs that rise, one that is cut, one whose glyphs an earlier one has, and one below the pair before it
abbrev pub PairsAreListed : Type 0
PairsAreListed =
    (kern_pairs_at (example_pairs 1 3) 0 ≡ Ok ((1, 2, negsuc 0) ∷ (1, 3, pos 5) ∷ []))
    × (kern_pairs_at (take 7 (example_pairs 1 3)) 0 ≡ Err (fault_at KERN PastEnd 0))
    × (kern_pairs_at (take 19 (example_pairs 1 3)) 0 ≡ Err (fault_at KERN PastEnd 14))
    × (kern_pairs_at (example_pairs 1 2) 0 ≡ Ok ((1, 2, negsuc 0) ∷ []))
    × (kern_pairs_at (example_pairs 0 9) 0 ≡ Ok ((1, 2, negsuc 0) ∷ []))

-- the pairs of glyph 1 and three others, with 7, -1 and 5
abbrev pub example_rows : ℕ → ℕ → ℕ → List ℕ
example_rows a b c =
    0 ∷ 3 ∷ 0 ∷ 0 ∷ 0 ∷ 0 ∷ 0 ∷ 0
    ∷ 0 ∷ 1 ∷ 0 ∷ a ∷ 0 ∷ 7 ∷ 0 ∷ 1 ∷ 0 ∷ b ∷ 255 ∷ 255 ∷ 0 ∷ 1 ∷ 0 ∷ c ∷ 0 ∷ 5 ∷ []

-- pairs that rise; the first above the middle one, where it is not found; the last below it; three of the same glyphs
abbrev pub RowsAreBisected : Type 0
RowsAreBisected =
    (kern_pairs_at (example_rows 2 3 4) 0 ≡ Ok ((1, 2, pos 7) ∷ (1, 3, negsuc 0) ∷ (1, 4, pos 5) ∷ []))
    × (kern_pairs_at (example_rows 4 2 3) 0 ≡ Ok ((1, 2, negsuc 0) ∷ (1, 3, pos 5) ∷ []))
    × (kern_pairs_at (example_rows 3 4 2) 0 ≡ Ok ((1, 3, pos 7) ∷ (1, 4, negsuc 0) ∷ []))
    × (kern_pairs_at (example_rows 2 2 2) 0 ≡ Ok ((1, 2, negsuc 0) ∷ []))

-- the pair of the glyphs 1 and 2 with 34, as `kerx` has it, and behind it two numbers, -2 and 7
abbrev pub example_tuples : List ℕ
example_tuples =
    0 ∷ 0 ∷ 0 ∷ 38 ∷ 0 ∷ 0 ∷ 0 ∷ 0 ∷ 0 ∷ 0 ∷ 0 ∷ 2
    ∷ 0 ∷ 0 ∷ 0 ∷ 1 ∷ 0 ∷ 0 ∷ 0 ∷ 0 ∷ 0 ∷ 0 ∷ 0 ∷ 0 ∷ 0 ∷ 0 ∷ 0 ∷ 0
    ∷ 0 ∷ 1 ∷ 0 ∷ 2 ∷ 0 ∷ 34 ∷ 255 ∷ 254 ∷ 0 ∷ 7 ∷ []

-- a value, the first of a tuple of two, and a tuple of three that is not there as a whole
abbrev pub FirstOfATupleCounts : Type 0
FirstOfATupleCounts =
    (kerx_pairs_at example_tuples 0 0 ≡ Ok ((1, 2, pos 34) ∷ []))
    × (kerx_pairs_at example_tuples 0 2 ≡ Ok ((1, 2, negsuc 1) ∷ []))
    × (kerx_pairs_at example_tuples 0 3 ≡ Ok ((1, 2, pos 0) ∷ []))

-- format 2 of `kern` behind a header of 8 bytes: rows of so many bytes at 16, where two rows of two values stand; glyph 5
-- has a left offset, and glyph 7 a right one
abbrev pub example_classes : ℕ → ℕ → ℕ → List ℕ
example_classes width left right =
    0 ∷ 0 ∷ 0 ∷ 36 ∷ 0 ∷ 2 ∷ 0 ∷ 0 ∷ 0 ∷ width ∷ 0 ∷ 24 ∷ 0 ∷ 30 ∷ 0 ∷ 16
    ∷ 0 ∷ 1 ∷ 0 ∷ 2 ∷ 0 ∷ 3 ∷ 255 ∷ 252
    ∷ 0 ∷ 5 ∷ 0 ∷ 1 ∷ 0 ∷ left ∷ 0 ∷ 7 ∷ 0 ∷ 1 ∷ 0 ∷ right ∷ []

-- the values of the array to its end, which the class tables follow, in rows behind one for class 0
abbrev pub example_values : List ℤ
example_values =
    pos 0 ∷ pos 0 ∷ pos 1 ∷ pos 2 ∷ pos 3 ∷ negsuc 3 ∷ pos 5 ∷ pos 1 ∷ pos 20 ∷ pos 7 ∷ pos 1 ∷ pos 2 ∷ []

-- offsets are rows and columns; a width of an odd number of bytes, a left offset inside of a row, and a right one that
-- is in no row
abbrev pub OffsetsAreRowsAndColumns : Type 0
OffsetsAreRowsAndColumns =
    (kern_classes_at (example_classes 4 20 2) 0 8
    ≡ Ok (record { left = (5, 2) ∷ []; right = (7, 1) ∷ []; right_count = 2; values = example_values }))
    × (kern_classes_at (example_classes 3 20 2) 0 8 ≡ Err (fault_at KERN ShortLength 8))
    × (kern_classes_at (example_classes 4 18 2) 0 8 ≡ Err (fault_at KERN UnknownFormat 28))
    × (kern_classes_at (example_classes 4 20 4) 0 8 ≡ Err (fault_at KERN UnknownFormat 34))

-- format 3 of `kern`: two glyphs, two values, 7 and -1, two left and two right classes
abbrev pub example_indexes : List ℕ
example_indexes =
    0 ∷ 2 ∷ 2 ∷ 2 ∷ 2 ∷ 0 ∷ 0 ∷ 7 ∷ 255 ∷ 255 ∷ 0 ∷ 1 ∷ 1 ∷ 0 ∷ 0 ∷ 1 ∷ 1 ∷ 2 ∷ []

-- an index names a value, and one of none is 0
abbrev pub IndexesNameValues : Type 0
IndexesNameValues =
    (kern_indexes_at example_indexes 0 ≡ Ok (record {
      left = (0, 0) ∷ (1, 1) ∷ [];
      right = (0, 1) ∷ (1, 0) ∷ [];
      right_count = 2;
      values = pos 7 ∷ negsuc 0 ∷ negsuc 0 ∷ pos 0 ∷ [];
    }))
    × (kern_indexes_at (take 17 example_indexes) 0 ≡ Err (fault_at KERN PastEnd 6))

-- format 6 of `kerx`, with flags: rows of two values; glyph 5 is in row 1, at 2, and glyph 7 in column 1, by lookups of
-- format 8
abbrev pub example_arrays : ℕ → List ℕ
example_arrays flags =
    0 ∷ 0 ∷ 0 ∷ 60 ∷ 0 ∷ 0 ∷ 0 ∷ 6 ∷ 0 ∷ 0 ∷ 0 ∷ 0
    ∷ 0 ∷ 0 ∷ 0 ∷ flags ∷ 0 ∷ 2 ∷ 0 ∷ 2 ∷ 0 ∷ 0 ∷ 0 ∷ 36 ∷ 0 ∷ 0 ∷ 0 ∷ 44 ∷ 0 ∷ 0 ∷ 0 ∷ 52 ∷ 0 ∷ 0 ∷ 0 ∷ 56
    ∷ 0 ∷ 8 ∷ 0 ∷ 5 ∷ 0 ∷ 1 ∷ 0 ∷ 2 ∷ 0 ∷ 8 ∷ 0 ∷ 7 ∷ 0 ∷ 1 ∷ 0 ∷ 1
    ∷ 0 ∷ 1 ∷ 0 ∷ 2 ∷ 0 ∷ 3 ∷ 255 ∷ 252 ∷ []

-- rows and columns, tuples at 56, and values of 32 bits, which are not those of this form
abbrev pub ArraysHaveRowsAndColumns : Type 0
ArraysHaveRowsAndColumns =
    (kerx_arrays_at (example_arrays 0) 0 9 0 ≡ Ok (record {
      left = (5, 1) ∷ [];
      right = (7, 1) ∷ [];
      right_count = 2;
      values = pos 1 ∷ pos 2 ∷ pos 3 ∷ negsuc 3 ∷ [];
    }))
    × (kerx_arrays_at (example_arrays 0) 0 9 1 ≡ Ok (record {
      left = (5, 1) ∷ [];
      right = (7, 1) ∷ [];
      right_count = 2;
      values = pos 1023 ∷ negsuc 3 ∷ pos 0 ∷ pos 0 ∷ [];
    }))
    × (kerx_arrays_at (example_arrays 1) 0 9 0 ≡ Err (fault_at KERX UnknownFormat 12))

-- the same with values and lookups of 32 bits, of which the last value is handed in by its two halves, and two numbers of
-- 16 bits behind them, 7 and 9, where tuples stand
abbrev pub example_long_arrays : ℕ → ℕ → List ℕ
example_long_arrays high low =
    0 ∷ 0 ∷ 0 ∷ 76 ∷ 0 ∷ 0 ∷ 0 ∷ 6 ∷ 0 ∷ 0 ∷ 0 ∷ 0
    ∷ 0 ∷ 0 ∷ 0 ∷ 1 ∷ 0 ∷ 2 ∷ 0 ∷ 2 ∷ 0 ∷ 0 ∷ 0 ∷ 36 ∷ 0 ∷ 0 ∷ 0 ∷ 46 ∷ 0 ∷ 0 ∷ 0 ∷ 56 ∷ 0 ∷ 0 ∷ 0 ∷ 71
    ∷ 0 ∷ 8 ∷ 0 ∷ 5 ∷ 0 ∷ 1 ∷ 0 ∷ 0 ∷ 0 ∷ 2 ∷ 0 ∷ 8 ∷ 0 ∷ 7 ∷ 0 ∷ 1 ∷ 0 ∷ 0 ∷ 0 ∷ 1
    ∷ 0 ∷ 0 ∷ 0 ∷ 1 ∷ 0 ∷ 0 ∷ 0 ∷ 3 ∷ 0 ∷ 0 ∷ 0 ∷ 4 ∷ high ∷ high ∷ low ∷ 0
    ∷ 0 ∷ 7 ∷ 0 ∷ 9 ∷ []

-- rows and columns of long values, the least value of 16 bits, and one that is less; tuples, whose numbers may be any
abbrev pub LongArraysHaveRowsAndColumns : Type 0
LongArraysHaveRowsAndColumns =
    (kerx_long_arrays_at (example_long_arrays 255 128) 0 9 0 ≡ Ok (record {
      left = (5, 1) ∷ [];
      right = (7, 1) ∷ [];
      right_count = 2;
      values = pos 1 ∷ pos 3 ∷ pos 4 ∷ negsuc 32767 ∷ [];
    }))
    × (kerx_long_arrays_at (example_long_arrays 255 127) 0 9 0 ≡ Err (fault_at KERX UnknownFormat 68))
    × (wide_value_at (example_long_arrays 255 127) 0 0 ≡ Some 68)
    × (wide_value_at (example_long_arrays 0 127) 0 0 ≡ None)
    × (wide_value_at (example_long_arrays 0 128) 0 0 ≡ Some 68)
    × (wide_value_at (example_long_arrays 0 128) 0 1 ≡ None)
    × (kerx_long_arrays_at (example_long_arrays 0 128) 0 9 1 ≡ Ok (record {
      left = (5, 1) ∷ [];
      right = (7, 1) ∷ [];
      right_count = 2;
      values = pos 7 ∷ pos 9 ∷ pos 0 ∷ pos 0 ∷ [];
    }))
    × (kerx_long_arrays_at (take 35 (example_long_arrays 0 0)) 0 9 0 ≡ Err (fault_at KERX PastEnd 0))
