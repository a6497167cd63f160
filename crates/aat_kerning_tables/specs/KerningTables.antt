-- What the kinds of kerning subtables with more than one table have. Apple's TrueType Reference Manual, "The 'kerx'
-- table", formats 1 and 4, and "The 'kern' table", format 1.
use Rattle.std.specs.Prelude.{ℕ, List, ℤ}
use Rattle.aat_machine_tables.specs.Table.{TableValue}
use Rattle.aat_machine_tables.specs.declared.entries.EntryData.{EntryData}
use Rattle.aat_machine_tables.specs.declared.entries.KernEntryData.{KernEntryData}
use Rattle.aat_machine_tables.specs.declared.state_table.GenericStateEntry.{GenericStateEntry}

-- a stack subtable of `kerx`: the machine, and the values that its entries name by the place of the first
pub record KerxStackTables : Type 0 where
  pub state_table : TableValue (GenericStateEntry EntryData)
  pub values : List ℤ

-- an anchor subtable of `kerx`: the machine, and the pairs of point indexes, of the marked glyph and of the current
-- one, that its entries name by place
pub record KerxAnchorTables : Type 0 where
  pub state_table : TableValue (GenericStateEntry EntryData)
  pub anchor_points : List (ℕ × ℕ)

-- a machine of `kern`: the machine, and the values that its entries name by the place of the first
pub record KernMachineTables : Type 0 where
  pub state_table : TableValue (GenericStateEntry KernEntryData)
  pub values : List ℤ
