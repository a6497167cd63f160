-- Worked examples of contextual glyph substitution. Apple's TrueType Reference Manual, "The 'morx' table".
use Rattle.std.specs.Prelude.{◌≡◌, ℕ, List, [], ◌∷◌, ◌++◌, Ok, Err, Result}
use Rattle.aat_bytes.specs.Faults.{fault_at}
use Rattle.aat_bytes.specs.declared.error.Fault.{Fault}
use Rattle.aat_bytes.specs.declared.error.FaultKind.TheVariants.{PastEnd}
use Rattle.aat_bytes.specs.declared.tags.TheConstants.{MORX}
use Rattle.aat_machine_tables.specs.Subtables.{ContextualTables}
use Rattle.aat_machine_tables.specs.Table.{Rule}
use Rattle.aat_machine_tables.specs.declared.entries.ContextualEntryData.{ContextualEntryData}
use Rattle.aat_machine_tables.specs.declared.state_table.GenericStateEntry.{GenericStateEntry}
use Rattle.aat_read_machine.specs.Contextual.{contextual_tables_at}
use Rattle.aat_read_machine.specs.MachineExamples.{example_classes}

-- a contextual subtable of 52 bytes, and behind it its list of lookups: the class table at 20, one row at 36 and one
-- entry at 44, which names a lookup for the current glyph and none for the marked one
abbrev pub example_contextual : ℕ → List ℕ
example_contextual current =
    0 ∷ 0 ∷ 0 ∷ 4 ∷ 0 ∷ 0 ∷ 0 ∷ 20 ∷ 0 ∷ 0 ∷ 0 ∷ 36 ∷ 0 ∷ 0 ∷ 0 ∷ 44 ∷ 0 ∷ 0 ∷ 0 ∷ 52 ∷ []
    ++ example_classes
    ++ 0 ∷ 0 ∷ 0 ∷ 0 ∷ 0 ∷ 0 ∷ 0 ∷ 0 ∷ []
    ++ 0 ∷ 0 ∷ 0 ∷ 0 ∷ 255 ∷ 255 ∷ 0 ∷ current ∷ []

-- the rule of a class
abbrev pub names_current : ℕ → ℕ → Rule (GenericStateEntry ContextualEntryData)
names_current current class =
    (0, class, record { new_state = 0; flags = 0; extra = record { mark_index = 65535; current_index = current } })

-- what an example says
abbrev pub read_contextual_example : List ℕ → Result ContextualTables Fault
read_contextual_example bytes = contextual_tables_at bytes 0 10

-- three offsets to one lookup of 16 bytes take 72 of the 80 bytes, and the four cells the rest
abbrev pub ThreeLookupsHaveRoom : Type 0
ThreeLookupsHaveRoom = read_contextual_example
    (example_contextual 2 ++ 0 ∷ 0 ∷ 0 ∷ 12 ∷ 0 ∷ 0 ∷ 0 ∷ 12 ∷ 0 ∷ 0 ∷ 0 ∷ 12 ∷ [] ++ example_classes)
    ≡ Ok (record {
      state = record {
        class_count = 4;
        classes = (5, 3) ∷ [];
        rules = names_current 2 0 ∷ names_current 2 1 ∷ names_current 2 2 ∷ names_current 2 3 ∷ [];
      };
      lookups = ((5, 3) ∷ []) ∷ ((5, 3) ∷ []) ∷ ((5, 3) ∷ []) ∷ [];
    })

-- a fourth offset to it has none, and is the fault
abbrev pub FourthLookupHasNoRoom : Type 0
FourthLookupHasNoRoom = read_contextual_example
    (example_contextual 3 ++ 0 ∷ 0 ∷ 0 ∷ 16 ∷ 0 ∷ 0 ∷ 0 ∷ 16 ∷ 0 ∷ 0 ∷ 0 ∷ 16 ∷ 0 ∷ 0 ∷ 0 ∷ 16 ∷ [] ++ example_classes)
    ≡ Err (fault_at MORX PastEnd 64)
