-- What the bytes of a machine of the kerning table say. Apple's TrueType Reference Manual, "The 'kern' table", format 1.
use Rattle.std.specs.Prelude.{ℕ, ℤ, ◌+◌, ◌*◌, ◌-◌, ◌/◌, List, length, map, min, Result, Ok, Err, if◌then◌else◌, nat_lt, slice_index}
use Rattle.std.specs.List.{range_with_len}
use Rattle.aat_bytes.specs.Faults.{after, fault_at}
use Rattle.aat_bytes.specs.Numbers.{be16, signed16}
use Rattle.aat_bytes.specs.declared.error.Fault.{Fault}
use Rattle.aat_bytes.specs.declared.error.FaultKind.TheVariants.{PastEnd}
use Rattle.aat_bytes.specs.declared.tags.TheConstants.{KERN}
use Rattle.aat_kerning_tables.specs.KerningTables.{KernMachineTables}
use Rattle.aat_machine_tables.specs.Table.{table_value}
use Rattle.aat_read_kern.specs.ByteMachines.{byte_machine_at}
use Rattle.aat_read_kern.specs.ByteStates.{rows_of, rules_of, whole_rows}
use Rattle.aat_read_kern.specs.declared.byte_classes.ByteClasses.{ByteClasses}
use Rattle.aat_read_kern.specs.declared.byte_machine.ByteMachine.{ByteMachine}
use Rattle.aat_read_kern.specs.declared.rows.Rows.{Rows}

-- the class table at a place: the first glyph, the number of glyphs, and a byte for each. Those of glyphs above 0xFFFF
-- are left out
unfoldable pub byte_classes_at : List ℕ → ℕ → Result ByteClasses Fault
byte_classes_at bytes place =
    let first = be16 bytes place in
    let count = be16 bytes (place + 2) in
    if nat_lt (length bytes) (place + 4) then Err (fault_at KERN PastEnd place) else
    if nat_lt (length bytes) (place + 4 + count) then Err (fault_at KERN PastEnd (place + 4)) else
    Ok (record { place = place + 4; first = first; count = min count (65536 - first) })

-- each glyph of a class table with its class
abbrev pub classes_of : List ℕ → ByteClasses → List (ℕ × ℕ)
classes_of bytes table =
    map (λ k. (table.first + k, slice_index bytes (table.place + k))) (range_with_len 0 table.count)

-- the values of a machine: they reach to the end of the bytes, and are no more than an offset of 14 bits can name, and
-- the places of a stack behind it
abbrev pub values_of : List ℕ → ByteMachine → List ℤ
values_of bytes m =
    map (λ i. signed16 (be16 bytes (m.place + m.values + 2 * i)))
    (range_with_len 0 (min 16384 ((length bytes - (m.place + m.values)) / 2)))

-- the tables of a machine whose rows are there
abbrev pub tables_of : List ℕ → ByteMachine → Rows → List (ℕ × ℕ) → KernMachineTables
tables_of bytes m rows classes = record {
  state_table = table_value m.class_count classes (rules_of bytes m rows);
  values = values_of bytes m;
}

-- the machine at a place of the table. The first fault is that of the header, then of the rows, then of the entries,
-- then of the class table. HarfBuzz drops the whole table then
unfoldable pub kern_machine_at : List ℕ → ℕ → Result KernMachineTables Fault
kern_machine_at bytes place =
    after (byte_machine_at bytes place) (λ m.
    after (whole_rows bytes m (rows_of bytes m)) (λ rows.
    after (byte_classes_at bytes (m.place + m.classes)) (λ classes.
    Ok (tables_of bytes m rows (classes_of bytes classes)))))
