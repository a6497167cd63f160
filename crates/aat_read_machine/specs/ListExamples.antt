-- Worked examples of lists and their offsets. Apple's TrueType Reference Manual, "The 'morx' table".
use Rattle.std.specs.Prelude.{◌≡◌, ℕ, List, [], ◌∷◌, ◌++◌, Ok, Err}
use Rattle.aat_bytes.specs.Faults.{fault_at}
use Rattle.aat_bytes.specs.declared.error.FaultKind.TheVariants.{PastEnd, ShortLength}
use Rattle.aat_bytes.specs.declared.tags.TheConstants.{MORX}
use Rattle.aat_machine_tables.specs.Table.{Rule}
use Rattle.aat_machine_tables.specs.declared.entries.InsertionEntryData.{InsertionEntryData}
use Rattle.aat_machine_tables.specs.declared.state_table.GenericStateEntry.{GenericStateEntry}
use Rattle.aat_read_machine.specs.Contextual.{contextual_tables_at}
use Rattle.aat_read_machine.specs.Kinds.{insertion_tables_at, ligature_at}
use Rattle.aat_read_machine.specs.MachineExamples.{example_classes}
use Rattle.aat_read_machine.specs.RoomExamples.{example_contextual, names_current, read_contextual_example}

-- the header of a state table without classes, and behind it the offsets of three lists
abbrev pub example_lists : ℕ → ℕ → ℕ → List ℕ
example_lists one two three =
    0 ∷ 0 ∷ 0 ∷ 0 ∷ 0 ∷ 0 ∷ 0 ∷ 0 ∷ 0 ∷ 0 ∷ 0 ∷ 0 ∷ 0 ∷ 0 ∷ 0 ∷ 0 ∷ []
    ++ 0 ∷ 0 ∷ 0 ∷ one ∷ 0 ∷ 0 ∷ 0 ∷ two ∷ 0 ∷ 0 ∷ 0 ∷ three ∷ []

-- the first list of ligatures or of insertion that has offset 0 is the fault, before those of the machine
abbrev pub ListsHaveOffsets : Type 0
ListsHaveOffsets =
    (ligature_at (example_lists 0 1 0) 0 10 ≡ Err (fault_at MORX PastEnd 16))
    × (ligature_at (example_lists 1 0 0) 0 10 ≡ Err (fault_at MORX PastEnd 20))
    × (ligature_at (example_lists 1 1 0) 0 10 ≡ Err (fault_at MORX PastEnd 24))
    × (ligature_at (example_lists 1 1 1) 0 10 ≡ Err (fault_at MORX ShortLength 0))
    × (insertion_tables_at (example_lists 0 1 1) 0 10 ≡ Err (fault_at MORX PastEnd 16))
    × (insertion_tables_at (example_lists 1 0 0) 0 10 ≡ Err (fault_at MORX ShortLength 0))

-- a ligature subtable of 58 bytes: the class table at 28, one row at 44 and one entry at 52, whose first action is at 9
abbrev pub example_ligature : ℕ → ℕ → ℕ → List ℕ
example_ligature actions components ligatures =
    0 ∷ 0 ∷ 0 ∷ 4 ∷ 0 ∷ 0 ∷ 0 ∷ 28 ∷ 0 ∷ 0 ∷ 0 ∷ 44 ∷ 0 ∷ 0 ∷ 0 ∷ 52 ∷ []
    ++ 0 ∷ 0 ∷ 0 ∷ actions ∷ 0 ∷ 0 ∷ 0 ∷ components ∷ 0 ∷ 0 ∷ 0 ∷ ligatures ∷ []
    ++ example_classes
    ++ 0 ∷ 0 ∷ 0 ∷ 0 ∷ 0 ∷ 0 ∷ 0 ∷ 0 ∷ 0 ∷ 0 ∷ 0 ∷ 0 ∷ 0 ∷ 9 ∷ []

-- the rule of a class
abbrev pub names_action : ℕ → Rule (GenericStateEntry ℕ)
names_action class = (0, class, record { new_state = 0; flags = 0; extra = 9 })

-- lists reach to the end, whatever they share, and what is no whole element there is missing; past the end one is empty
abbrev pub ListsReachToTheEnd : Type 0
ListsReachToTheEnd = ligature_at (example_ligature 53 56 60) 0 10 ≡ Ok (record {
  state = record {
    class_count = 4;
    classes = (5, 3) ∷ [];
    rules = names_action 0 ∷ names_action 1 ∷ names_action 2 ∷ names_action 3 ∷ [];
  };
  actions = 0 ∷ [];
  components = 9 ∷ [];
  ligatures = [];
})

-- an insertion subtable of 52 bytes: the class table at 20, one row at 36 and one entry at 44, which inserts the first
-- glyph at the current place and none at the marked one
abbrev pub example_insertion : ℕ → List ℕ
example_insertion glyphs =
    0 ∷ 0 ∷ 0 ∷ 4 ∷ 0 ∷ 0 ∷ 0 ∷ 20 ∷ 0 ∷ 0 ∷ 0 ∷ 36 ∷ 0 ∷ 0 ∷ 0 ∷ 44 ∷ 0 ∷ 0 ∷ 0 ∷ glyphs ∷ []
    ++ example_classes
    ++ 0 ∷ 0 ∷ 0 ∷ 0 ∷ 0 ∷ 0 ∷ 0 ∷ 0 ∷ 0 ∷ 0 ∷ 0 ∷ 0 ∷ 0 ∷ 0 ∷ 255 ∷ 255 ∷ []

-- the rule of a class
abbrev pub inserts_first : ℕ → Rule (GenericStateEntry InsertionEntryData)
inserts_first class =
    let extra : InsertionEntryData = record { current_insert_index = 0; marked_insert_index = 65535 } in
    (0, class, record { new_state = 0; flags = 0; extra = extra })

-- the glyphs of an insertion reach to the end too
abbrev pub GlyphsReachToTheEnd : Type 0
GlyphsReachToTheEnd = insertion_tables_at (example_insertion 48) 0 10 ≡ Ok (record {
  state = record {
    class_count = 4;
    classes = (5, 3) ∷ [];
    rules = inserts_first 0 ∷ inserts_first 1 ∷ inserts_first 2 ∷ inserts_first 3 ∷ [];
  };
  glyphs = record { 0 = 0 } ∷ record { 0 = 65535 } ∷ [];
})

-- a lookup with offset 0 is the list: its first half is the format, 0, and its second one the value of the one glyph
abbrev pub LookupMayBeTheList : Type 0
LookupMayBeTheList = contextual_tables_at (example_contextual 0 ++ 0 ∷ 0 ∷ 0 ∷ 0 ∷ []) 0 1 ≡ Ok (record {
  state = record {
    class_count = 4;
    classes = (5, 3) ∷ [];
    rules = names_current 0 0 ∷ names_current 0 1 ∷ names_current 0 2 ∷ names_current 0 3 ∷ [];
  };
  lookups = ((0, 0) ∷ []) ∷ [];
})

-- for ten glyphs the list has too few values, and an offset that is cut is the fault
abbrev pub LookupsOfTheListAreChecked : Type 0
LookupsOfTheListAreChecked =
    (read_contextual_example (example_contextual 0 ++ 0 ∷ 0 ∷ 0 ∷ 0 ∷ []) ≡ Err (fault_at MORX PastEnd 54))
    × (read_contextual_example (example_contextual 0 ++ 0 ∷ 0 ∷ 0 ∷ []) ≡ Err (fault_at MORX PastEnd 52))
