-- What the bytes of a state table say. Apple's TrueType Reference Manual, "Font Tables", section on state tables.
use Rattle.std.specs.Prelude.{ℕ, List, Result, Ok}
use Rattle.aat_bytes.specs.Faults.{after}
use Rattle.aat_bytes.specs.declared.error.Fault.{Fault}
use Rattle.aat_bytes.specs.declared.tag.Tag.{Tag}
use Rattle.aat_machine_tables.specs.Table.{TableValue, table_value}
use Rattle.aat_machine_tables.specs.declared.state_table.GenericStateEntry.{GenericStateEntry}
use Rattle.aat_read_lookup.specs.Lookups.{lookup_at}
use Rattle.aat_read_machine.specs.StateArray.{StateArray, cells_of, class_place, rules_of, state_array_at}

-- the machine of a state table whose cells are there: its classes, and a rule for each cell
unfoldable pub with_classes :
    {T : Type 0} → (List ℕ → ℕ → T) → StateArray → ℕ → Result (List (ℕ × ℕ)) Fault
    → Result (TableValue (GenericStateEntry T)) Fault
with_classes extra_at m cells classes =
    after classes (λ pairs. Ok (table_value m.class_count pairs (rules_of extra_at m cells)))

-- the machine at a place of a table, whose entries have so many bytes beside a state and flags. The first fault is that
-- of the header, then of the rows, then of the entries, then of the class table. HarfBuzz drops the whole table then
unfoldable pub machine_at :
    {T : Type 0} → ℕ → (List ℕ → ℕ → T) → Tag → List ℕ → ℕ → ℕ → Result (TableValue (GenericStateEntry T)) Fault
machine_at size extra_at table bytes place glyph_count =
    after (state_array_at table bytes place size) (λ m. after (cells_of m) (λ cells.
    with_classes extra_at m cells (lookup_at table bytes (class_place m) glyph_count)))
