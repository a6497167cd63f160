-- What a kerning table has that is read. Apple's TrueType Reference Manual, "The 'kern' table".
use Rattle.std.specs.Prelude.{◌≡◌, ℕ, zero, suc, ◌+◌, ◌-◌, ◌*◌, ◌<◌, ◌≤◌, List, length, take, Some, None, Ok, if◌then◌else◌, ◌==◌}
use Rattle.aat_bytes.specs.Faults.{fault_at}
use Rattle.aat_bytes.specs.declared.error.FaultKind.TheVariants.{UnknownFormat}
use Rattle.aat_bytes.specs.declared.tags.TheConstants.{KERN}
use Rattle.aat_kerning_tables.specs.KerningTables.{KernMachineTables}
use Rattle.aat_machine_tables.specs.Table.{entry_of, table_value}
use Rattle.aat_read_kern.specs.ByteMachines.{state_count}
use Rattle.aat_read_kern.specs.ByteStates.{entry_of_cell, rules_of}
use Rattle.aat_read_kern.specs.declared.byte_machine.ByteMachine.{ByteMachine}
use Rattle.aat_read_kern.specs.declared.rows.Rows.{Rows}
use Rattle.aat_read_machine.specs.InTurn.{AreInOrder}
use Rattle.aat_read_kern.specs.Kern.{KernValue, format_at, header_size, kern_kind_at, kern_of, kern_value, length_at, list_of, subtable_of, unread_place}
use Rattle.aat_read_kern.specs.KernMachines.{kern_machine_at}
use Rattle.aat_read_kern.specs.Weights.{kern_weight, machine_tables_weight}
use Rattle.aat_read_kern.specs.declared.header.KernList.{KernList}
use Rattle.aat_read_kern.specs.declared.subtables.SubtableRead.{SubtableRead}
use Rattle.aat_read_kern.specs.declared.subtables.SubtableRead.TheVariants.{Kerns, LeftOut}

-- where a subtable ends by its length
abbrev pub end_by_length : List ℕ → KernList → ℕ → ℕ
end_by_length bytes list place = place + length_at bytes list.header place

-- where subtables start: the first one of a list at its place, and each other one where the one before it ends
abbrev pub subtable_place : List ℕ → KernList → ℕ → ℕ
subtable_place bytes list zero = list.place
subtable_place bytes list (suc i) = end_by_length bytes list (subtable_place bytes list i)

-- where the subtable of a number ends that starts at a place: by its length, and the last one with the table
abbrev pub subtable_end : List ℕ → KernList → ℕ → ℕ → ℕ
subtable_end bytes list i place =
    if list.count - i == 1 then length bytes else end_by_length bytes list place

-- what a subtable is read as: one that nothing leaves out is what its header says, and kerns as its bytes up to its end
-- say by its format. Another one is left out, with its number and the place of what leaves it out
abbrev pub IsReadAs : List ℕ → KernList → ℕ → ℕ → ℕ → SubtableRead → Type 0
IsReadAs bytes list i place end (Kerns subtable) =
    (unread_place bytes list.header place ≡ None)
    × (kern_kind_at (take end bytes) list.header place (format_at bytes list.header place) ≡ Ok subtable.kind)
    × (subtable ≡ subtable_of bytes list.header place subtable.kind)
IsReadAs bytes list i place end (LeftOut subtable) =
    (at : ℕ) × (unread_place bytes list.header place ≡ Some at)
    × (subtable ≡ record { number = i; fault = fault_at KERN UnknownFormat at })

-- a subtable of a number is that of the bytes at a place: by its length it has its header and ends in the table
pub record IsSubtableAt (bytes : List ℕ) (list : KernList) (i place : ℕ) (read : SubtableRead) : Type 0 where
  pub header : place + header_size list.header ≤ end_by_length bytes list place
  pub inside : end_by_length bytes list place ≤ length bytes
  pub is : IsReadAs bytes list i place (subtable_end bytes list i place) read

-- the subtables of a list, as many as it says, in order
abbrev pub AreSubtablesOf : List ℕ → KernList → List SubtableRead → Type 0
AreSubtablesOf bytes list reads =
    AreInOrder reads list.count (λ i read. IsSubtableAt bytes list i (subtable_place bytes list i) read)

-- a table has those subtables of its bytes that kern, and those that are left out are told, each in their order
abbrev pub SubtablesAreThoseOfBytes : Type 0
SubtablesAreThoseOfBytes =
    (bytes : List ℕ) (kern : KernValue)
    → kern_of bytes ≡ Ok kern
    → (list : KernList) × (list_of bytes ≡ Ok list)
    × ((reads : List SubtableRead) × AreSubtablesOf bytes list reads × (kern ≡ kern_value reads))

-- the entry of a state of the rows and a class is the one that the index in the row of the state names
abbrev pub EntriesAreThoseOfBytes : Type 0
EntriesAreThoseOfBytes =
    (bytes : List ℕ) (m : ByteMachine) (rows : Rows) (classes : List (ℕ × ℕ)) (state class : ℕ)
    → m.class_count < 65536 → class < m.class_count → state < state_count rows
    → entry_of (table_value m.class_count classes (rules_of bytes m rows)) state class
    ≡ Some (entry_of_cell bytes m rows (state * m.class_count + class))

-- a machine with its classes and its values takes at most 27 bytes of memory for each byte from its place on
abbrev pub MachinesAreBounded : Type 0
MachinesAreBounded =
    (bytes : List ℕ) (place : ℕ) (t : KernMachineTables)
    → kern_machine_at bytes place ≡ Ok t → machine_tables_weight t ≤ 27 * (length bytes - place)

-- a table takes at most 32 bytes of memory for each of its bytes
abbrev pub KernIsBounded : Type 0
KernIsBounded =
    (bytes : List ℕ) (kern : KernValue) → kern_of bytes ≡ Ok kern → kern_weight kern ≤ 32 * length bytes
