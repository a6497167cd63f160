-- Pairs by classes whose offsets are added up: format 2 of the kerning table. Apple's TrueType Reference Manual, "The
-- 'kern' table".
use Rattle.std.specs.Prelude.{ℕ, ℤ, pos, ◌+◌, ◌*◌, ◌-◌, ◌/◌, ◌%◌, List, length, map, find, Option, Some, None, Result, Ok, Err, if◌then◌else◌, nat_lt, ◌==◌, ◌&&◌, ◌||◌, unwrap_or}
use Rattle.std.specs.List.{range_with_len}
use Rattle.std.specs.Option.{is_none}
use Rattle.aat_bytes.specs.Faults.{after, fault_at}
use Rattle.aat_bytes.specs.Numbers.{be16, signed16}
use Rattle.aat_bytes.specs.declared.error.Fault.{Fault}
use Rattle.aat_bytes.specs.declared.error.FaultKind.TheVariants.{PastEnd, ShortLength, UnknownFormat}
use Rattle.aat_bytes.specs.declared.tags.TheConstants.{KERN}
use Rattle.aat_kerning_tables.specs.Classes.{ClassValues}
use Rattle.aat_read_pairs.specs.ClassTables.{class_table_at, offset_of, offset_place}
use Rattle.aat_read_pairs.specs.declared.class_table.ClassTable.{ClassTable}
use Rattle.aat_read_pairs.specs.declared.kern_classes.KernGrid.{KernGrid}
use Rattle.aat_read_pairs.specs.declared.kern_classes.Side.{Side}
use Rattle.aat_read_pairs.specs.declared.kern_classes.Side.TheVariants.{Left, Right}

-- where the array of values starts
abbrev pub array_place : KernGrid → ℕ
array_place grid = grid.start + grid.array

-- the number of values in a row
abbrev pub columns_of : KernGrid → ℕ
columns_of grid = grid.width / 2

-- the subtable that starts at a place and goes on at another one behind its header: the bytes of a row, which has one
-- value or more, and from the start of the subtable the offsets of the left classes, of the right classes and of the
-- array, whose first row is there
unfoldable pub grid_at : List ℕ → ℕ → ℕ → Result KernGrid Fault
grid_at bytes start place =
    let grid : KernGrid = record {
      start = start;
      width = be16 bytes place;
      left = be16 bytes (place + 2);
      right = be16 bytes (place + 4);
      array = be16 bytes (place + 6);
    } in
    if nat_lt (length bytes) (place + 8) then Err (fault_at KERN PastEnd place) else
    if (grid.width == 0) || (grid.width % 2 == 1) then Err (fault_at KERN ShortLength place) else
    if nat_lt (length bytes) (array_place grid + grid.width) then Err (fault_at KERN PastEnd (array_place grid)) else
    Ok grid

-- the class of an offset, if it has one. A left offset counts from the start of the subtable, and a row stands there; it
-- is 0, for class 0, where the glyph kerns nothing. A right offset counts from the start of a row
abbrev pub class_of : KernGrid → Side → ℕ → Option ℕ
class_of grid Left offset =
    if offset == 0 then Some 0 else
    if nat_lt offset grid.array then None else
    if (offset - grid.array) % grid.width == 0 then Some ((offset - grid.array) / grid.width + 1) else None
class_of grid Right offset = if nat_lt offset grid.width && (offset % 2 == 0) then Some (offset / 2) else None

-- the first offset of a class table that has no class
abbrev pub first_odd : List ℕ → KernGrid → Side → ClassTable → Option ℕ
first_odd bytes grid side table =
    find (λ k. is_none (class_of grid side (offset_of bytes table k))) (range_with_len 0 table.count)

-- a class table each of whose offsets has a class. HarfBuzz adds up the others too; here they are a fault
unfoldable pub checked_table_at : List ℕ → KernGrid → Side → ℕ → Result ClassTable Fault
checked_table_at bytes grid side place =
    after (class_table_at bytes place) (λ table. elim (first_odd bytes grid side table) [
      | None ↦ Ok table
      | Some k ↦ Err (fault_at KERN UnknownFormat (offset_place table k))
    ])

-- each glyph of a class table with its class
abbrev pub classes_of : List ℕ → KernGrid → Side → ClassTable → List (ℕ × ℕ)
classes_of bytes grid side table =
    map (λ k. (table.first + k, unwrap_or (class_of grid side (offset_of bytes table k)) 0))
    (range_with_len 0 table.count)

-- the value of an index, row by row: those of class 0 are 0, and the array has the others
abbrev pub grid_value : List ℕ → KernGrid → ℕ → ℤ
grid_value bytes grid i =
    if nat_lt i (columns_of grid) then pos 0 else
    signed16 (be16 bytes (array_place grid + 2 * (i - columns_of grid)))

-- the number of values: a row, and then as many as the bytes have from the start of the array on
abbrev pub value_count : List ℕ → KernGrid → ℕ
value_count bytes grid = columns_of grid + (length bytes - array_place grid) / 2

-- the values
abbrev pub grid_values : List ℕ → KernGrid → List ℤ
grid_values bytes grid = map (grid_value bytes grid) (range_with_len 0 (value_count bytes grid))

-- the pairs of a subtable of `kern` by classes, or its first fault
unfoldable pub kern_classes_at : List ℕ → ℕ → ℕ → Result ClassValues Fault
kern_classes_at bytes start place =
    after (grid_at bytes start place) (λ grid.
    after (checked_table_at bytes grid Left (start + grid.left)) (λ left.
    after (checked_table_at bytes grid Right (start + grid.right)) (λ right.
    Ok (record {
      left = classes_of bytes grid Left left;
      right = classes_of bytes grid Right right;
      right_count = columns_of grid;
      values = grid_values bytes grid;
    }))))
