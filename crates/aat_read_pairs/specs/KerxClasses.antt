-- Pairs by classes whose classes are lookups: formats 2 and 6 of the extended kerning table. Apple's TrueType Reference
-- Manual, "The 'kerx' table".
use Rattle.std.specs.Prelude.{ℕ, ℤ, ◌+◌, ◌*◌, ◌-◌, ◌/◌, ◌%◌, List, length, map, Result, Ok, Err, if◌then◌else◌, nat_lt, ◌==◌}
use Rattle.std.specs.List.{range_with_len}
use Rattle.aat_bytes.specs.Faults.{after, fault_at}
use Rattle.aat_bytes.specs.Numbers.{be16, be32}
use Rattle.aat_bytes.specs.declared.error.Fault.{Fault}
use Rattle.aat_bytes.specs.declared.error.FaultKind.TheVariants.{PastEnd, ShortLength, UnknownFormat}
use Rattle.aat_bytes.specs.declared.tags.TheConstants.{KERX}
use Rattle.aat_kerning_tables.specs.Classes.{ClassValues}
use Rattle.aat_read_lookup.specs.Lookups.{lookup_at}
use Rattle.aat_read_lookup.specs.Rows.{rows_at}
use Rattle.aat_read_pairs.specs.KerningValues.{kerning_value}
use Rattle.aat_read_pairs.specs.declared.kerx_classes.KerxGrid.{KerxGrid}

-- a number of values in a row, if a row has one or more and a class of 16 bits can name them all
abbrev pub column_count_at : ℕ → ℕ → Result ℕ Fault
column_count_at place count =
    if count == 0 then Err (fault_at KERX ShortLength place) else
    if nat_lt 65535 count then Err (fault_at KERX PastEnd place) else Ok count

-- format 2: behind a header of 12 bytes the bytes of a row, and from the start of the subtable the offsets of the lookup
-- of left glyphs, of that of right glyphs and of the array
unfoldable pub class_grid_at : List ℕ → ℕ → ℕ → Result KerxGrid Fault
class_grid_at bytes start tuple_count =
    if nat_lt (length bytes) (start + 28) then Err (fault_at KERX PastEnd start) else
    after (column_count_at (start + 12) (be32 bytes (start + 12) / 2)) (λ count. Ok (record {
      rows = start + be32 bytes (start + 16);
      columns = start + be32 bytes (start + 20);
      column_count = count;
      array = start + be32 bytes (start + 24);
      tuples = record { place = start; count = tuple_count };
    }))

-- format 6: flags, of which the lowest says that values and lookups have 32 bits, which are not read, the numbers of
-- rows and columns, and the offsets of the two lookups, of the array and of the tuples
unfoldable pub array_grid_at : List ℕ → ℕ → ℕ → Result KerxGrid Fault
array_grid_at bytes start tuple_count =
    if nat_lt (length bytes) (start + 36) then Err (fault_at KERX PastEnd start) else
    if be32 bytes (start + 12) % 2 == 1 then Err (fault_at KERX UnknownFormat (start + 12)) else
    after (column_count_at (start + 18) (be16 bytes (start + 18))) (λ count. Ok (record {
      rows = start + be32 bytes (start + 20);
      columns = start + be32 bytes (start + 24);
      column_count = count;
      array = start + be32 bytes (start + 28);
      tuples = record { place = start + be32 bytes (start + 32); count = tuple_count };
    }))

-- the value of an index of the array, row by row
abbrev pub array_value : List ℕ → KerxGrid → ℕ → ℤ
array_value bytes grid i = kerning_value bytes grid.tuples (be16 bytes (grid.array + 2 * i))

-- the values, as many as the bytes have from the start of the array on
abbrev pub array_values : List ℕ → KerxGrid → List ℤ
array_values bytes grid = map (array_value bytes grid) (range_with_len 0 ((length bytes - grid.array) / 2))

-- the pairs of a subtable: the lookup of left glyphs has the offset of a row, which counts values, that of right glyphs
-- a column. HarfBuzz adds both up to an index; here a column that is none kerns nothing
unfoldable pub grid_pairs : List ℕ → ℕ → KerxGrid → Result ClassValues Fault
grid_pairs bytes glyph_count grid =
    after (rows_at KERX bytes grid.rows glyph_count grid.column_count) (λ left.
    after (lookup_at KERX bytes grid.columns glyph_count) (λ right.
    Ok (record { left = left; right = right; right_count = grid.column_count; values = array_values bytes grid })))

-- the pairs of a subtable of format 2 that starts at a place, or its first fault
abbrev pub kerx_classes_at : List ℕ → ℕ → ℕ → ℕ → Result ClassValues Fault
kerx_classes_at bytes start glyph_count tuple_count =
    after (class_grid_at bytes start tuple_count) (grid_pairs bytes glyph_count)

-- the pairs of a subtable of format 6 that starts at a place, or its first fault
abbrev pub kerx_arrays_at : List ℕ → ℕ → ℕ → ℕ → Result ClassValues Fault
kerx_arrays_at bytes start glyph_count tuple_count =
    after (array_grid_at bytes start tuple_count) (grid_pairs bytes glyph_count)
