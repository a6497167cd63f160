-- The state array and the entries of a state table. Apple's TrueType Reference Manual, "Font Tables", section on state
-- tables.
use Rattle.std.specs.Prelude.{◌≡◌, ℕ, zero, suc, ◌<◌, ◌+◌, ◌*◌, ◌/◌, ◌%◌, List, length, drop, map, find, Bool, true, false, not, Option, Some, None, Result, Ok, Err, if◌then◌else◌, nat_lt, nat_le, ◌&&◌}
use Rattle.std.specs.List.{list_all, range_with_len}
use Rattle.aat_bytes.specs.Faults.{after, fault_at}
use Rattle.aat_bytes.specs.Numbers.{be16, be32}
use Rattle.aat_bytes.specs.declared.error.Fault.{Fault}
use Rattle.aat_bytes.specs.declared.error.FaultKind.TheVariants.{PastEnd, ShortLength}
use Rattle.aat_bytes.specs.declared.tag.Tag.{Tag}
use Rattle.aat_machine_tables.specs.Table.{Rule}
use Rattle.aat_machine_tables.specs.declared.state_table.GenericStateEntry.{GenericStateEntry}
use Rattle.aat_read_machine.specs.Entries.{entry_at}

-- a state table: the table that it is of and its place there, its bytes up to the end of the table, the number of its
-- classes, where its class table, its state array and its entries start, and the size of an entry
pub record StateArray : Type 0 where
  pub table : Tag
  pub place : ℕ
  pub bytes : List ℕ
  pub class_count : ℕ
  pub classes : ℕ
  pub states : ℕ
  pub entries : ℕ
  pub entry_size : ℕ

-- the state table at the start of bytes: a header of 16 bytes with the number of classes, which are 4 or more, and the
-- offsets of the class table, the state array and the entries. An index of a row has 16 bits, and so has a class: more
-- than 65,535 of them reach past what can be read
unfoldable pub header_at : Tag → ℕ → ℕ → List ℕ → Result StateArray Fault
header_at table place extra_size bytes =
    if nat_lt (be32 bytes 0) 4 then Err (fault_at table ShortLength place) else
    if nat_lt 65535 (be32 bytes 0) then Err (fault_at table PastEnd place) else
    Ok (record {
      table = table;
      place = place;
      bytes = bytes;
      class_count = be32 bytes 0;
      classes = be32 bytes 4;
      states = be32 bytes 8;
      entries = be32 bytes 12;
      entry_size = 4 + extra_size;
    })

-- the state table at a place of a table
unfoldable pub state_array_at : Tag → List ℕ → ℕ → ℕ → Result StateArray Fault
state_array_at table bytes place extra_size =
    if nat_lt (length bytes) (place + 16) then Err (fault_at table PastEnd place) else
    header_at table place extra_size (drop place bytes)

-- where the class table starts
abbrev pub class_place : StateArray → ℕ
class_place m = m.place + m.classes

-- a cell is a state and a class, row by row: here the index of its entry stands
abbrev pub index_place : StateArray → ℕ → ℕ
index_place m cell = m.states + 2 * cell

-- whether the index of a cell stands inside
unfoldable pub has_index : StateArray → ℕ → Bool
has_index m cell = nat_le (index_place m cell + 2) (length m.bytes)

-- the place of the entry of a cell
abbrev pub entry_place : StateArray → ℕ → ℕ
entry_place m cell = m.entries + m.entry_size * be16 m.bytes (index_place m cell)

-- whether the entry of a cell stands inside
unfoldable pub has_entry : StateArray → ℕ → Bool
has_entry m cell = nat_le (entry_place m cell + m.entry_size) (length m.bytes)

-- how many states there are at least by the entry of a cell, which names one of them. What is past the end names none
unfoldable pub states_named : StateArray → ℕ → ℕ
states_named m cell =
    if has_index m cell && has_entry m cell then be16 m.bytes (entry_place m cell) + 1 else 0

-- whether the rows of so many states name no other state
abbrev pub is_closed : StateArray → ℕ → Bool
is_closed m count = list_all (λ cell. nat_le (states_named m cell) count) (range_with_len 0 (count * m.class_count))

-- the least number from one on that passes, or, where none of so many does, the one behind them
unfoldable pub least : (ℕ → Bool) → ℕ → ℕ → ℕ
least passes zero from = from
least passes (suc more) from = elim (passes from) [ true ↦ from | false ↦ least passes more (from + 1) ]

-- the number of states is not stored: it is the least one, of 1 or more, whose rows name no other state. A state has
-- 16 bits
abbrev pub state_count : StateArray → ℕ
state_count m = least (is_closed m) 65535 1

-- the first of so many cells whose index reaches past the end
abbrev pub missing_index : StateArray → ℕ → Option ℕ
missing_index m cells = find (λ cell. not (has_index m cell)) (range_with_len 0 cells)

-- the first of so many cells whose entry reaches past the end
abbrev pub missing_entry : StateArray → ℕ → Option ℕ
missing_entry m cells = find (λ cell. not (has_entry m cell)) (range_with_len 0 cells)

-- the fault of bytes that are not there, at a place of the state table
abbrev pub past_end : StateArray → ℕ → Fault
past_end m place = fault_at m.table PastEnd (m.place + place)

-- the fault of the row of a cell
abbrev pub row_fault : StateArray → ℕ → Fault
row_fault m cell = past_end m (index_place m (cell / m.class_count * m.class_count))

-- the number of states, if their rows are there, or else the first row that is not
unfoldable pub states_of : StateArray → Result ℕ Fault
states_of m = elim (missing_index m (state_count m * m.class_count)) [
  | None ↦ Ok (state_count m)
  | Some cell ↦ Err (row_fault m cell)
]

-- the number of cells, if rows and entries are there, or else the first row or else the first entry that is not
unfoldable pub cells_of : StateArray → Result ℕ Fault
cells_of m = after (states_of m) (λ count. elim (missing_entry m (count * m.class_count)) [
  | None ↦ Ok (count * m.class_count)
  | Some cell ↦ Err (past_end m (entry_place m cell))
])

-- the indexes of so many cells are there
abbrev pub AreIndexed : StateArray → ℕ → Type 0
AreIndexed m cells = (cell : ℕ) → cell < cells → has_index m cell ≡ true

-- the entries of so many cells are there
abbrev pub AreWhole : StateArray → ℕ → Type 0
AreWhole m cells = (cell : ℕ) → cell < cells → has_entry m cell ≡ true

-- the rule of a cell: its state, its class and its entry
abbrev pub rule_of : {T : Type 0} → (List ℕ → ℕ → T) → StateArray → ℕ → Rule (GenericStateEntry T)
rule_of extra_at m cell =
    (cell / m.class_count, cell % m.class_count, entry_at extra_at m.bytes (entry_place m cell))

-- the rules of so many cells
abbrev pub rules_of : {T : Type 0} → (List ℕ → ℕ → T) → StateArray → ℕ → List (Rule (GenericStateEntry T))
rules_of extra_at m cells = map (rule_of extra_at m) (range_with_len 0 cells)
