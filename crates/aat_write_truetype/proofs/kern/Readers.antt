-- Types of the readers that have no name outside their crates, by what takes them.
use Rattle.std.specs.Prelude.{ℕ, [], ◌∷◌, Result, Ok, Err}
use Rattle.aat_bytes.specs.declared.error.Fault.{Fault}
use Rattle.aat_read_kern.specs.ByteMachines.{rows_behind, state_count}
use Rattle.aat_read_kern.specs.Kern.{apples_list_of, first_start, header_size, kerning_of}
use Rattle.aat_read_kern.specs.KernMachines.{classes_of}
use Rattle.aat_read_pairs.specs.ClassTables.{offset_place}
use Rattle.aat_read_pairs.specs.KernClasses.{array_place, class_of}

-- what a function takes
abbrev pub domain : {A B : Type 0} → (A → B) → Type 0
domain {A = A} {B = B} f = A

-- which header a table has
abbrev pub KernHeader : Type 0
KernHeader = domain header_size

-- the subtables of a table
abbrev pub KernList : Type 0
KernList = domain first_start

-- what a subtable is read as
abbrev pub SubtableRead : Type 0
SubtableRead = domain kerning_of

-- a machine of bytes, its rows and its class table
abbrev pub ByteMachine : Type 0
ByteMachine = domain rows_behind

abbrev pub Rows : Type 0
Rows = domain state_count

abbrev pub ByteClasses : Type 0
ByteClasses = domain (classes_of [])

-- pairs by classes, and a class table of theirs
abbrev pub KernGrid : Type 0
KernGrid = domain array_place

abbrev pub ClassTable : Type 0
ClassTable = domain offset_place

abbrev pub no_grid : KernGrid
no_grid = record { start = 0; width = 0; left = 0; right = 0; array = 0 }

abbrev pub Side : Type 0
Side = domain (class_of no_grid)

-- Apple's header, as an empty table has it
abbrev IsRead : Result KernList Fault → Type 0
IsRead (Ok list) = Unit {0}
IsRead (Err fault) = ⊥

abbrev header_in : (read : Result KernList Fault) → IsRead read → KernHeader
header_in (Ok list) is = list.header
header_in (Err fault) is = absurd is

abbrev pub Apple : KernHeader
Apple = header_in (apples_list_of (0 ∷ 1 ∷ 0 ∷ 0 ∷ 0 ∷ 0 ∷ 0 ∷ 0 ∷ [])) tt

-- so many subtables behind Apple's header
abbrev pub apples_list : ℕ → KernList
apples_list count = record { header = Apple; place = 8; count = count }
