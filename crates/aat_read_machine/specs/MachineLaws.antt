-- What a machine that is read has at each state and class, and what a subtable that is read weighs.
use Rattle.std.specs.Prelude.{◌≡◌, ℕ, ◌<◌, ◌≤◌, ◌+◌, ◌-◌, ◌*◌, List, drop, length, All, Some, Ok}
use Rattle.aat_bytes.specs.Numbers.{be32}
use Rattle.aat_bytes.specs.declared.tag.Tag.{Tag}
use Rattle.aat_machine_tables.specs.Table.{TableValue, entry_of, table_value}
use Rattle.aat_machine_tables.specs.declared.morx.SubtableKind.{SubtableKind}
use Rattle.aat_machine_tables.specs.declared.state_table.GenericStateEntry.{GenericStateEntry}
use Rattle.aat_read_lookup.specs.Lookups.{value_of_glyph}
use Rattle.aat_read_machine.specs.Entries.{entry_at}
use Rattle.aat_read_machine.specs.Machine.{machine_at}
use Rattle.aat_read_machine.specs.MachinesOfBytes.{IsMachineOf}
use Rattle.aat_read_machine.specs.StateArray.{StateArray, entry_place, rules_of}
use Rattle.aat_read_machine.specs.SubtableKinds.{subtable_kind_at}
use Rattle.aat_read_machine.specs.Weights.{kind_weight}

-- the entry of a state and a class is the one that the index in the row of the state names
abbrev pub HasEntriesOfBytes : {T : Type 0} → (List ℕ → ℕ → T) → Type 0
HasEntriesOfBytes extra_at =
    (m : StateArray) (cells : ℕ) (classes : List (ℕ × ℕ)) (state class : ℕ)
    → m.class_count < 65536 → class < m.class_count → state * m.class_count + class < cells
    → entry_of (table_value m.class_count classes (rules_of extra_at m cells)) state class
    ≡ Some (entry_at extra_at m.bytes (entry_place m (state * m.class_count + class)))

-- a number of eight bits
abbrev pub IsByte : ℕ → Type 0
IsByte number = number < 256

-- a machine that is read is that of the bytes from its place on, and of the class table whose offset they have at 4
abbrev pub MachinesAreThoseOfBytes : {T : Type 0} → ℕ → (List ℕ → ℕ → T) → Type 0
MachinesAreThoseOfBytes {T} size extra_at =
    (table : Tag) (bytes : List ℕ) (place glyph_count : ℕ) (machine : TableValue (GenericStateEntry T))
    → All IsByte bytes → machine_at size extra_at table bytes place glyph_count ≡ Ok machine
    → IsMachineOf size extra_at (drop place bytes)
    (value_of_glyph table bytes (place + be32 (drop place bytes) 4) glyph_count) machine

-- what a subtable does weighs at least 9 less than 19 bytes for each byte from its place on, or nothing
abbrev pub SubtablesAreBounded : Type 0
SubtablesAreBounded =
    (bytes : List ℕ) (place kind glyph_count : ℕ) (does : SubtableKind)
    → subtable_kind_at bytes place kind glyph_count ≡ Ok does → kind_weight bytes place glyph_count does ≤ 19 * (length bytes - place) - 9
