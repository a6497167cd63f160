-- Worked examples of the sizes of lookups.
use Rattle.std.specs.Prelude.{◌≡◌, ℕ, ◌*◌, ◌+◌, List, [], ◌∷◌, ◌++◌, replicate, Ok, Err}
use Rattle.aat_bytes.specs.Faults.{fault_at}
use Rattle.aat_bytes.specs.declared.error.FaultKind.TheVariants.{PastEnd}
use Rattle.aat_read_lookup.specs.LookupExamples.{example_header, example_segment_arrays, example_segments, example_singles, example_table}
use Rattle.aat_read_lookup.specs.Sizes.{lookup_bytes_at, lookup_size_at}

-- so many glyphs in a segment of format 2
abbrev pub example_glyphs : ℕ → List ℕ
example_glyphs count = example_header 2 6 1 ++ 0 ∷ (count + 2) ∷ 0 ∷ 3 ∷ 0 ∷ 8 ∷ []

-- the glyphs 3 and 1000 in format 6
abbrev pub example_apart : List ℕ
example_apart = example_header 6 4 2 ++ 0 ∷ 3 ∷ 0 ∷ 8 ∷ 3 ∷ 232 ∷ 0 ∷ 7 ∷ []

-- two segments of so many glyphs in format 4, which share the values at 24
abbrev pub example_shared : ℕ → List ℕ
example_shared count =
    example_header 4 6 2
    ++ 0 ∷ (count + 2) ∷ 0 ∷ 3 ∷ 0 ∷ 24 ∷ 0 ∷ (count + 19) ∷ 0 ∷ 20 ∷ 0 ∷ 24 ∷ []
    ++ replicate (2 * count) 0

-- pairs with the cells of an array, or without cells; segments of many glyphs, and of one
abbrev pub SizesAreOfWhatIsKept : Type 0
SizesAreOfWhatIsKept =
    (lookup_size_at example_table example_segments 0 9 ≡ Ok 16)
    × (lookup_size_at example_table example_singles 2 9 ≡ Ok 20)
    × (lookup_size_at example_table example_apart 0 9 ≡ Ok 8)
    × (lookup_size_at example_table (example_glyphs 5) 0 9 ≡ Ok 40)
    × (lookup_size_at example_table (example_glyphs 6) 0 9 ≡ Ok 6)
    × (lookup_size_at example_table (0 ∷ 10 ∷ 0 ∷ 1 ∷ 0 ∷ 3 ∷ 0 ∷ 2 ∷ 5 ∷ 7 ∷ []) 0 9 ≡ Ok 12)

-- units may share values as far as these would stand in the table once for each unit
abbrev pub SharedValuesAreAFault : Type 0
SharedValuesAreAFault =
    (lookup_bytes_at example_table (example_shared 6) 0 9 ≡ Ok 36)
    × (lookup_bytes_at example_table (example_shared 7) 0 9 ≡ Err (fault_at example_table PastEnd 0))

-- records and values, also those that are shared
abbrev pub BytesAreOfRecordsAndValues : Type 0
BytesAreOfRecordsAndValues =
    (lookup_bytes_at example_table example_segments 0 9 ≡ Ok 6)
    × (lookup_bytes_at example_table example_singles 2 9 ≡ Ok 8)
    × (lookup_bytes_at example_table example_segment_arrays 2 9 ≡ Ok 10)
    × (lookup_bytes_at example_table (0 ∷ 0 ∷ 0 ∷ 5 ∷ 0 ∷ 7 ∷ []) 0 2 ≡ Ok 4)
