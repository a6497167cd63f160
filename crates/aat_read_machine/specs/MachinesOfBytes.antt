-- Machines in the words of their bytes. Apple's TrueType Reference Manual, "Font Tables", section on state tables.
use Rattle.std.specs.Prelude.{◌≡◌, ℕ, ◌<◌, ◌+◌, ◌*◌, List, All, Option, Some, if◌then◌else◌, ◌==◌}
use Rattle.std.specs.List.{fold}
use Rattle.aat_bytes.specs.Numbers.{be16, be32}
use Rattle.aat_machine_tables.specs.Table.{TableValue, class_of, entry_of}
use Rattle.aat_machine_tables.specs.declared.state_table.GenericStateEntry.{GenericStateEntry}
use Rattle.aat_read_machine.specs.Entries.{entry_at}

-- where the entry of a state and a class stands in a state table, whose entries have so many bytes beside a state and
-- flags: the row of the state has its index. The number of classes stands at 0, and the offsets of rows and entries at
-- 8 and 12
abbrev pub entry_in : ℕ → List ℕ → ℕ → ℕ → ℕ
entry_in size bytes state class =
    be32 bytes 12 + (4 + size) * be16 bytes (be32 bytes 8 + 2 * (state * be32 bytes 0 + class))

-- the state that a run comes to from state 0 on over some classes: the first number of each entry is the next state
abbrev pub state_after : ℕ → List ℕ → List ℕ → ℕ
state_after size bytes classes = fold (λ state class. be16 bytes (entry_in size bytes state class)) 0 classes

-- the classes of a state table
abbrev pub AreClasses : List ℕ → List ℕ → Type 0
AreClasses bytes classes = All (λ class. class < be32 bytes 0) classes

-- a machine is that of a state table and of its class table: it has the number of classes that the bytes say, a glyph
-- has the class that is listed for it, and glyph 0xFFFF class 2, and each state that a run can come to has at each class
-- the entry of the bytes
pub record IsMachineOf {T : Type 0} (size : ℕ) (extra_at : List ℕ → ℕ → T) (bytes : List ℕ) (listed_class : ℕ → Option ℕ)
    (machine : TableValue (GenericStateEntry T)) : Type 0 where
  pub class_count : machine.class_count ≡ be32 bytes 0
  pub class : (glyph : ℕ) → class_of machine glyph ≡ (if glyph == 65535 then Some 2 else listed_class glyph)
  pub entry :
      (run : List ℕ) (class : ℕ) → AreClasses bytes run → class < be32 bytes 0
      → entry_of machine (state_after size bytes run) class
      ≡ Some (entry_at extra_at bytes (entry_in size bytes (state_after size bytes run) class))
