-- The machines of the kerning table, whose classes and indexes of entries are bytes. Apple's TrueType Reference Manual,
-- "The 'kern' table", format 1, and "Font Tables", section on state tables.
use Rattle.std.specs.Prelude.{ℕ, ◌+◌, ◌*◌, ◌-◌, ◌/◌, ◌%◌, List, length, Bool, Result, Ok, Err, if◌then◌else◌, nat_lt, nat_le, ◌==◌, slice_index}
use Rattle.aat_bytes.specs.Faults.{fault_at}
use Rattle.aat_bytes.specs.Numbers.{be16}
use Rattle.aat_bytes.specs.declared.error.Fault.{Fault}
use Rattle.aat_bytes.specs.declared.error.FaultKind.TheVariants.{PastEnd, ShortLength}
use Rattle.aat_bytes.specs.declared.tags.TheConstants.{KERN}
use Rattle.aat_read_kern.specs.declared.byte_machine.ByteMachine.{ByteMachine}
use Rattle.aat_read_kern.specs.declared.rows.Rows.{Rows}

-- the machine at a place of the table: the number of classes, which are 4 or more, and from the place on the offsets of
-- the class table, of the row of the first state, of the entries and of the values
unfoldable pub byte_machine_at : List ℕ → ℕ → Result ByteMachine Fault
byte_machine_at bytes place =
    if nat_lt (length bytes) (place + 10) then Err (fault_at KERN PastEnd place) else
    if nat_lt (be16 bytes place) 4 then Err (fault_at KERN ShortLength place) else
    Ok (record {
      place = place;
      class_count = be16 bytes place;
      classes = be16 bytes (place + 2);
      states = be16 bytes (place + 4);
      entries = be16 bytes (place + 6);
      values = be16 bytes (place + 8);
    })

-- A state is named by an offset from the place of the machine. The first state may have rows before it. So the states
-- are numbered anew: from the first on, and behind these those before it, the nearest first.

-- how many rows behind the first state an offset names one, and 0 where it names none behind it
abbrev pub rows_behind : ByteMachine → ℕ → ℕ
rows_behind m offset = (offset - m.states) / m.class_count

-- how many rows before the first state an offset names one, and 0 where it names none before it
abbrev pub rows_before : ByteMachine → ℕ → ℕ
rows_before m offset = (m.states - offset) / m.class_count

-- the number of the state that an offset names
abbrev pub state_named : ByteMachine → Rows → ℕ → ℕ
state_named m rows offset =
    if rows_before m offset == 0 then rows_behind m offset else rows.behind + rows_before m offset - 1

-- the number of states
abbrev pub state_count : Rows → ℕ
state_count rows = rows.behind + rows.before

-- the number of cells, a state and a class each, state by state
abbrev pub cell_count : ByteMachine → Rows → ℕ
cell_count m rows = state_count rows * m.class_count

-- how far from the place of the machine the row of a state starts
abbrev pub row_offset : ByteMachine → Rows → ℕ → ℕ
row_offset m rows state =
    if nat_lt state rows.behind then m.states + state * m.class_count else
    m.states - (state + 1 - rows.behind) * m.class_count

-- where the row of a cell starts
abbrev pub row_place : ByteMachine → Rows → ℕ → ℕ
row_place m rows cell = m.place + row_offset m rows (cell / m.class_count)

-- where the index of a cell stands, a byte
abbrev pub index_place : ByteMachine → Rows → ℕ → ℕ
index_place m rows cell = row_place m rows cell + cell % m.class_count

-- whether the index of a cell stands inside
unfoldable pub has_index : List ℕ → ByteMachine → Rows → ℕ → Bool
has_index bytes m rows cell = nat_lt (index_place m rows cell) (length bytes)

-- where the entry of a cell stands: the offset of a state, and flags
abbrev pub entry_place : List ℕ → ByteMachine → Rows → ℕ → ℕ
entry_place bytes m rows cell = m.place + m.entries + 4 * slice_index bytes (index_place m rows cell)

-- whether the entry of a cell stands inside
unfoldable pub has_entry : List ℕ → ByteMachine → Rows → ℕ → Bool
has_entry bytes m rows cell = nat_le (entry_place bytes m rows cell + 4) (length bytes)
