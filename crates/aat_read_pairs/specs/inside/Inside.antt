-- What the check of a subtable leaves known for its reading.
use Rattle.std.specs.Prelude.{ℕ, ◌+◌, ◌*◌, ◌^◌, ◌<◌, ◌≤◌, List, length}
use Rattle.aat_read_pairs.specs.KernClasses.{array_place}
use Rattle.aat_read_pairs.specs.KernIndexes.{index_count, index_place}
use Rattle.aat_read_pairs.specs.declared.class_table.ClassTable.{ClassTable}
use Rattle.aat_read_pairs.specs.declared.kern_classes.KernGrid.{KernGrid}
use Rattle.aat_read_pairs.specs.declared.kern_indexes.KernIndexes.{KernIndexes}
use Rattle.aat_read_pairs.specs.declared.kerx_classes.KerxGrid.{KerxGrid}
use Rattle.aat_read_pairs.specs.declared.long_arrays.LongGrid.{LongGrid}

-- the offsets of a class table stand inside, and its glyphs have 16 bits
pub record HasOffsets (bytes : List ℕ) (table : ClassTable) : Type 0 where
  pub glyphs : table.first + table.count ≤ 65536
  pub inside : table.offsets + 2 * table.count ≤ length bytes

-- a row has a value, and the first row stands inside
pub record HasRow (bytes : List ℕ) (grid : KernGrid) : Type 0 where
  pub wide : 1 < grid.width
  pub inside : array_place grid + grid.width ≤ length bytes

-- the parts of a subtable by indexes stand inside
pub record HasIndexes (bytes : List ℕ) (grid : KernIndexes) : Type 0 where
  pub inside : index_place grid + index_count grid ≤ length bytes

-- the parts of a subtable stand not far behind a place of the table, and a row has a value
pub record IsNear (grid : KerxGrid) : Type 0 where
  pub array : grid.array < 2 ^ 63 + 2 ^ 32
  pub tuples : grid.tuples.place < 2 ^ 63 + 2 ^ 32
  pub wide : 0 < grid.column_count

-- the same of a subtable whose values have 32 bits
pub record IsNearLong (grid : LongGrid) : Type 0 where
  pub array : grid.array < 2 ^ 63 + 2 ^ 32
  pub tuples : grid.tuples.place < 2 ^ 63 + 2 ^ 32
  pub wide : 0 < grid.column_count
