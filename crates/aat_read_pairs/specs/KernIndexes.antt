-- Pairs by classes whose values are named by an index: format 3 of the kerning table. Apple's TrueType Reference Manual,
-- "The 'kern' table".
use Rattle.std.specs.Prelude.{ℕ, ℤ, pos, ◌+◌, ◌*◌, List, length, map, Result, Ok, Err, if◌then◌else◌, nat_lt, slice_index}
use Rattle.std.specs.List.{range_with_len}
use Rattle.aat_bytes.specs.Faults.{after, fault_at}
use Rattle.aat_bytes.specs.Numbers.{be16, signed16}
use Rattle.aat_bytes.specs.declared.error.Fault.{Fault}
use Rattle.aat_bytes.specs.declared.error.FaultKind.TheVariants.{PastEnd}
use Rattle.aat_bytes.specs.declared.tags.TheConstants.{KERN}
use Rattle.aat_kerning_tables.specs.Classes.{ClassValues}
use Rattle.aat_read_pairs.specs.declared.kern_indexes.KernIndexes.{KernIndexes}

-- where the left classes of glyphs start, behind the values
abbrev pub left_place : KernIndexes → ℕ
left_place grid = grid.values + 2 * grid.value_count

-- where the right classes start
abbrev pub right_place : KernIndexes → ℕ
right_place grid = left_place grid + grid.glyph_count

-- where the indexes start, one for each left and each right class
abbrev pub index_place : KernIndexes → ℕ
index_place grid = right_place grid + grid.glyph_count

-- the number of indexes
abbrev pub index_count : KernIndexes → ℕ
index_count grid = grid.left_count * grid.right_count

-- the subtable that goes on at a place behind its header: the number of glyphs, then in a byte each those of values, of
-- left classes and of right classes, and a byte of flags
unfoldable pub indexes_at : List ℕ → ℕ → Result KernIndexes Fault
indexes_at bytes place =
    let grid : KernIndexes = record {
      values = place + 6;
      glyph_count = be16 bytes place;
      value_count = slice_index bytes (place + 2);
      left_count = slice_index bytes (place + 3);
      right_count = slice_index bytes (place + 4);
    } in
    if nat_lt (length bytes) (place + 6) then Err (fault_at KERN PastEnd place) else
    if nat_lt (length bytes) (index_place grid + index_count grid) then Err (fault_at KERN PastEnd (place + 6)) else
    Ok grid

-- each glyph with its class, of one byte
abbrev pub byte_classes : List ℕ → ℕ → ℕ → List (ℕ × ℕ)
byte_classes bytes place count = map (λ glyph. (glyph, slice_index bytes (place + glyph))) (range_with_len 0 count)

-- the value that the index at a place of the indexes names, and 0 where there is none
abbrev pub indexed_value : List ℕ → KernIndexes → ℕ → ℤ
indexed_value bytes grid i =
    let index = slice_index bytes (index_place grid + i) in
    if nat_lt index grid.value_count then signed16 (be16 bytes (grid.values + 2 * index)) else pos 0

-- the values, for each left class those of the right classes
abbrev pub indexed_values : List ℕ → KernIndexes → List ℤ
indexed_values bytes grid = map (indexed_value bytes grid) (range_with_len 0 (index_count grid))

-- the pairs of such a subtable
abbrev pub indexed_pairs : List ℕ → KernIndexes → ClassValues
indexed_pairs bytes grid = record {
  left = byte_classes bytes (left_place grid) grid.glyph_count;
  right = byte_classes bytes (right_place grid) grid.glyph_count;
  right_count = grid.right_count;
  values = indexed_values bytes grid;
}

-- the pairs of a subtable of `kern` by indexes, or its first fault
unfoldable pub kern_indexes_at : List ℕ → ℕ → Result ClassValues Fault
kern_indexes_at bytes place = after (indexes_at bytes place) (λ grid. Ok (indexed_pairs bytes grid))
