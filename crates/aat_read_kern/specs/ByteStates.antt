-- The states of a machine of bytes, and its rules. Apple's TrueType Reference Manual, "The 'kern' table", format 1.
use Rattle.std.specs.Prelude.{ℕ, zero, suc, ◌+◌, ◌-◌, ◌/◌, ◌%◌, List, map, find, max, Bool, true, false, not, Option, Some, None, Result, Ok, Err, if◌then◌else◌, nat_lt, ◌==◌, ◌&&◌, bit_and}
use Rattle.std.specs.List.{fold, range_with_len}
use Rattle.aat_bytes.specs.Faults.{fault_at}
use Rattle.aat_bytes.specs.Numbers.{be16}
use Rattle.aat_bytes.specs.declared.error.Fault.{Fault}
use Rattle.aat_bytes.specs.declared.error.FaultKind.TheVariants.{PastEnd}
use Rattle.aat_bytes.specs.declared.tags.TheConstants.{KERN}
use Rattle.aat_machine_tables.specs.Table.{Rule}
use Rattle.aat_machine_tables.specs.declared.entries.KernEntryData.{KernEntryData}
use Rattle.aat_machine_tables.specs.declared.state_table.GenericStateEntry.{GenericStateEntry}
use Rattle.aat_read_kern.specs.ByteMachines.{cell_count, entry_place, has_entry, has_index, row_place, rows_before, rows_behind, state_named}
use Rattle.aat_read_kern.specs.declared.byte_machine.ByteMachine.{ByteMachine}
use Rattle.aat_read_kern.specs.declared.rows.Rows.{Rows}

-- the row of the first state alone
abbrev pub first_row : Rows
first_row = record { behind = 1; before = 0 }

-- what the flags of an entry name: the lowest 14 bits are the offset of a value from the place of the machine, and 0
-- names none. An offset before the values names one that is missing: there are fewer than 0xFFFE
abbrev pub value_named : ByteMachine → ℕ → KernEntryData
value_named m flags =
    let offset = flags % 16384 in
    if offset == 0 then record { value_index = 65535 } else
    if nat_lt offset m.values then record { value_index = 65534 } else
    record { value_index = (offset - m.values) / 2 }

module _ (bytes : List ℕ) (m : ByteMachine) where
  -- some rows, and those up to the one that the entry of one of their cells names. What is past the end names none
  unfoldable pub with_named : Rows → Rows → ℕ → Rows
  with_named rows found cell =
      let offset = be16 bytes (entry_place bytes m rows cell) in
      if has_index bytes m rows cell && has_entry bytes m rows cell then
      record {
        behind = max found.behind (rows_behind m offset + 1);
        before = max found.before (rows_before m offset);
      } else found

  -- some rows, and those up to the furthest ones that they name
  abbrev pub with_all_named : Rows → Rows
  with_all_named rows = fold (with_named rows) rows (range_with_len 0 (cell_count m rows))

  -- whether some rows name no other
  abbrev pub are_closed : Rows → Bool
  are_closed rows =
      (rows.behind == (with_all_named rows).behind) && (rows.before == (with_all_named rows).before)

  -- the rows that are found from some on, if each time those are taken in that are named, so many times at most
  unfoldable pub closed_rows : ℕ → Rows → Rows
  closed_rows zero rows = rows
  closed_rows (suc more) rows = elim (are_closed rows) [
    | true ↦ rows
    | false ↦ closed_rows more (with_all_named rows)
  ]

  -- the rows of the machine: those that the row of the first state names, and that these name, and so on. An offset has
  -- 16 bits, and each time a row more is found
  unfoldable pub rows_of : Rows
  rows_of = closed_rows 65536 first_row

  -- the first of so many cells whose index reaches past the end
  abbrev pub missing_index : Rows → Option ℕ
  missing_index rows = find (λ cell. not (has_index bytes m rows cell)) (range_with_len 0 (cell_count m rows))

  -- the first of so many cells whose entry reaches past the end
  abbrev pub missing_entry : Rows → Option ℕ
  missing_entry rows = find (λ cell. not (has_entry bytes m rows cell)) (range_with_len 0 (cell_count m rows))

  -- rows that are there with their entries, or else the first row or else the first entry that is not
  unfoldable pub whole_rows : Rows → Result Rows Fault
  whole_rows rows = elim (missing_index rows) [
    | Some cell ↦ Err (fault_at KERN PastEnd (row_place m rows cell))
    | None ↦ elim (missing_entry rows) [
      | Some cell ↦ Err (fault_at KERN PastEnd (entry_place bytes m rows cell))
      | None ↦ Ok rows
    ]
  ]

  -- the entry of a cell, with the two highest bits of its flags
  abbrev pub entry_of_cell : Rows → ℕ → GenericStateEntry KernEntryData
  entry_of_cell rows cell =
      let place = entry_place bytes m rows cell in
      record {
        new_state = state_named m rows (be16 bytes place);
        flags = bit_and (be16 bytes (place + 2)) 49152;
        extra = value_named m (be16 bytes (place + 2));
      }

  -- the rule of a cell: its state, its class and its entry
  abbrev pub rule_of : Rows → ℕ → Rule (GenericStateEntry KernEntryData)
  rule_of rows cell = (cell / m.class_count, cell % m.class_count, entry_of_cell rows cell)

  -- a rule for each cell
  abbrev pub rules_of : Rows → List (Rule (GenericStateEntry KernEntryData))
  rules_of rows = map (rule_of rows) (range_with_len 0 (cell_count m rows))
