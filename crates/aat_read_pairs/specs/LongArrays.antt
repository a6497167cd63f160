-- Pairs by rows and columns with values of 32 bits: the long form of format 6 of the extended kerning table. Apple's
-- TrueType Reference Manual, "The 'kerx' table", format 6.
use Rattle.std.specs.Prelude.{ℕ, ℤ, pos, ◌+◌, ◌*◌, ◌-◌, ◌/◌, List, length, map, min, Option, Some, None, Result, Ok, Err, if◌then◌else◌, nat_lt, nat_le, ◌==◌, ◌||◌, find, is_none, option_map, unwrap_or}
use Rattle.std.specs.Int.{w32, cast_signed}
use Rattle.std.specs.List.{range_with_len}
use Rattle.aat_bytes.specs.Faults.{after, fault_at}
use Rattle.aat_bytes.specs.Numbers.{be16, be32, signed16}
use Rattle.aat_bytes.specs.declared.error.Fault.{Fault}
use Rattle.aat_bytes.specs.declared.error.FaultKind.TheVariants.{PastEnd, UnknownFormat}
use Rattle.aat_bytes.specs.declared.tags.TheConstants.{KERX}
use Rattle.aat_kerning_tables.specs.Classes.{ClassValues}
use Rattle.aat_read_lookup.specs.LongLookups.{long_rows_at}
use Rattle.aat_read_pairs.specs.KerxClasses.{column_count_at}
use Rattle.aat_read_pairs.specs.declared.long_arrays.LongGrid.{LongGrid}
use Rattle.aat_read_pairs.specs.declared.values.Tuples.{Tuples}

-- behind a header of 12 bytes the flags, the numbers of rows and columns, and the offsets of the two lookups, of the
-- array and of the tuples
unfoldable pub long_grid_at : List ℕ → ℕ → ℕ → Result LongGrid Fault
long_grid_at bytes start tuple_count =
    if nat_lt (length bytes) (start + 36) then Err (fault_at KERX PastEnd start) else
    after (column_count_at (start + 18) (be16 bytes (start + 18))) (λ count. Ok (record {
      rows = start + be32 bytes (start + 20);
      columns = start + be32 bytes (start + 24);
      row_count = be16 bytes (start + 16);
      column_count = count;
      array = start + be32 bytes (start + 28);
      tuples = record { place = start + be32 bytes (start + 32); count = tuple_count };
    }))

-- how many values the array has: one for each row and column, as far as the bytes have them. HarfBuzz takes what stands
-- behind them too
abbrev pub value_count : List ℕ → LongGrid → ℕ
value_count bytes grid = min (grid.row_count * grid.column_count) ((length bytes - grid.array) / 4)

-- a number of 32 bits in two's complement, if 16 bits have it: if it is below 32,768 and not below -32,768
abbrev pub short_value : ℕ → Option ℤ
short_value number =
    if nat_lt number 32768 || nat_le 4294934528 number then Some (cast_signed w32 number) else None

-- the value of a number of 32 bits, if 16 bits have it: the number itself, or, where values stand in tuples, the first
-- value of the tuple whose offset it is. HarfBuzz has 0 for a tuple that is not there as a whole
abbrev pub long_value : List ℕ → Tuples → ℕ → Option ℤ
long_value bytes tuples number =
    if tuples.count == 0 then short_value number else
    if nat_lt (length bytes) (tuples.place + number + 2 * tuples.count) then Some (pos 0) else
    Some (signed16 (be16 bytes (tuples.place + number)))

-- the value of an index of the array, row by row
abbrev pub array_value : List ℕ → LongGrid → ℕ → Option ℤ
array_value bytes grid i = long_value bytes grid.tuples (be32 bytes (grid.array + 4 * i))

-- the place of the first value that 16 bits do not have
abbrev pub wide_place : List ℕ → LongGrid → Option ℕ
wide_place bytes grid =
    option_map (λ i. grid.array + 4 * i)
    (find (λ i. is_none (array_value bytes grid i)) (range_with_len 0 (value_count bytes grid)))

-- the values of an array that 16 bits have
abbrev pub array_values : List ℕ → LongGrid → List ℤ
array_values bytes grid =
    map (λ i. unwrap_or (array_value bytes grid i) (pos 0)) (range_with_len 0 (value_count bytes grid))

-- a subtable with a value that 16 bits do not have is not read
abbrev pub short_grid : List ℕ → LongGrid → Result LongGrid Fault
short_grid bytes grid = elim (wide_place bytes grid) [
  | None ↦ Ok grid
  | Some place ↦ Err (fault_at KERX UnknownFormat place)
]

-- the pairs of a subtable: the lookup of left glyphs has the offset of a row, which counts values, that of right glyphs
-- a column, as rows of one value. HarfBuzz adds both up to an index; here a column that is none kerns nothing
unfoldable pub long_grid_pairs : List ℕ → ℕ → LongGrid → Result ClassValues Fault
long_grid_pairs bytes glyph_count grid =
    after (long_rows_at KERX bytes grid.rows glyph_count grid.column_count) (λ left.
    after (long_rows_at KERX bytes grid.columns glyph_count 1) (λ right.
    Ok (record { left = left; right = right; right_count = grid.column_count; values = array_values bytes grid })))

-- the pairs of a subtable of the long form of format 6 that starts at a place, or its first fault
abbrev pub kerx_long_arrays_at : List ℕ → ℕ → ℕ → ℕ → Result ClassValues Fault
kerx_long_arrays_at bytes start glyph_count tuple_count =
    after (long_grid_at bytes start tuple_count) (λ grid.
    after (short_grid bytes grid) (long_grid_pairs bytes glyph_count))

-- the place of the first value of such a subtable that 16 bits do not have, if its header is there
abbrev pub wide_value_at : List ℕ → ℕ → ℕ → Option ℕ
wide_value_at bytes start tuple_count = elim (long_grid_at bytes start tuple_count) [
  | Ok grid ↦ wide_place bytes grid
  | Err fault ↦ None
]
