-- What the checks of a machine of bytes leave known for its reading.
use Rattle.std.specs.Prelude.{◌≡◌, ℕ, ◌+◌, ◌*◌, ◌<◌, ◌≤◌, List, length, true}
use Rattle.aat_read_kern.specs.ByteMachines.{cell_count, has_entry, has_index}
use Rattle.aat_read_kern.specs.declared.byte_classes.ByteClasses.{ByteClasses}
use Rattle.aat_read_kern.specs.declared.byte_machine.ByteMachine.{ByteMachine}
use Rattle.aat_read_kern.specs.declared.rows.Rows.{Rows}

-- the header of a machine stands inside
pub record HasHeader (bytes : List ℕ) (m : ByteMachine) : Type 0 where
  pub inside : m.place + 10 ≤ length bytes
  pub classes : 3 < m.class_count

-- rows are no more than offsets can name, and those before the first state do not start before the machine
pub record AreNear (m : ByteMachine) (rows : Rows) : Type 0 where
  pub some : 0 < rows.behind
  pub behind : rows.behind ≤ 16384
  pub few : rows.before < 16384
  pub before : rows.before * m.class_count ≤ m.states

-- the indexes of all cells are there
abbrev pub AreIndexed : List ℕ → ByteMachine → Rows → Type 0
AreIndexed bytes m rows = (cell : ℕ) → cell < cell_count m rows → has_index bytes m rows cell ≡ true

-- the entries of all cells are there
abbrev pub AreWhole : List ℕ → ByteMachine → Rows → Type 0
AreWhole bytes m rows = (cell : ℕ) → cell < cell_count m rows → has_entry bytes m rows cell ≡ true

-- the classes of a class table stand inside, and its glyphs have 16 bits
pub record HasClasses (bytes : List ℕ) (table : ByteClasses) : Type 0 where
  pub glyphs : table.first + table.count ≤ 65536
  pub inside : table.place + table.count ≤ length bytes
