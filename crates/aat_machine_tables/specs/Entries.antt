-- The entries of state tables: their flags and indexes. Apple's TrueType Reference Manual, "Font Tables", section on
-- state tables.
use Rattle.std.specs.Prelude.{ℕ, ◌==◌, not, Bool, bit_and}
use Rattle.aat_machine_tables.specs.declared.state_table.GenericStateEntry.{GenericStateEntry}

-- whether an entry has a flag
abbrev pub has_flag : {T : Type 0} → GenericStateEntry T → ℕ → Bool
has_flag e flag = not (bit_and e.flags flag == 0)

-- an entry goes on to the next glyph where 0x4000 is clear
abbrev pub goes_on : {T : Type 0} → GenericStateEntry T → Bool
goes_on e = not (has_flag e 0x4000)

-- whether an entry has an index: 0xFFFF stands for none
abbrev pub is_present : ℕ → Bool
is_present index = not (index == 0xFFFF)
