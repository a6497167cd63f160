-- Worked examples of a state table.
use Rattle.std.specs.Prelude.{◌≡◌, ℕ, List, [], ◌∷◌, ◌++◌, take, Ok, Err, Result}
use Rattle.aat_bytes.specs.Faults.{fault_at}
use Rattle.aat_bytes.specs.declared.error.Fault.{Fault}
use Rattle.aat_bytes.specs.declared.error.FaultKind.TheVariants.{PastEnd, ShortLength}
use Rattle.aat_bytes.specs.declared.tag.Tag.{Tag}
use Rattle.aat_machine_tables.specs.Table.{Rule, TableValue}
use Rattle.aat_machine_tables.specs.declared.state_table.GenericStateEntry.{GenericStateEntry}
use Rattle.aat_read_machine.specs.Machine.{machine_at}

-- the table `morx`
abbrev pub example_tag : Tag
example_tag = record { 0 = 1836020344 }

-- the header of so many classes, with the class table at 16 and the state array and the entries at two places
abbrev pub example_header : ℕ → ℕ → ℕ → List ℕ
example_header count states entries =
    0 ∷ 0 ∷ 0 ∷ count ∷ 0 ∷ 0 ∷ 0 ∷ 16 ∷ 0 ∷ 0 ∷ 0 ∷ states ∷ 0 ∷ 0 ∷ 0 ∷ entries ∷ []

-- a class table: glyph 5 has class 3
abbrev pub example_classes : List ℕ
example_classes = 0 ∷ 6 ∷ 0 ∷ 4 ∷ 0 ∷ 1 ∷ 0 ∷ 0 ∷ 0 ∷ 0 ∷ 0 ∷ 0 ∷ 0 ∷ 5 ∷ 0 ∷ 3 ∷ []

-- two entries: to state 0, and to state 2 with flags of 0x8000
abbrev pub example_entries : List ℕ
example_entries = 0 ∷ 0 ∷ 0 ∷ 0 ∷ 0 ∷ 2 ∷ 128 ∷ 0 ∷ []

-- the rows of states 0, 1 and 2: the second entry stands at state 0 and class 3
abbrev pub example_rows : List ℕ
example_rows =
    0 ∷ 0 ∷ 0 ∷ 0 ∷ 0 ∷ 0 ∷ 0 ∷ 1
    ∷ 0 ∷ 0 ∷ 0 ∷ 0 ∷ 0 ∷ 0 ∷ 0 ∷ 0
    ∷ 0 ∷ 0 ∷ 0 ∷ 0 ∷ 0 ∷ 0 ∷ 0 ∷ 0 ∷ []

-- a state table of three states
abbrev pub example_machine : List ℕ
example_machine = example_header 4 32 56 ++ example_classes ++ example_rows ++ example_entries

-- what an example says
abbrev pub read_example : List ℕ → Result (TableValue (GenericStateEntry Unit)) Fault
read_example bytes = machine_at 0 (λ _ _. tt) example_tag bytes 0 10

-- a rule that does nothing
abbrev pub idle : ℕ → ℕ → Rule (GenericStateEntry Unit)
idle state class = (state, class, record { new_state = 0; flags = 0; extra = tt })

-- a state that an entry names has a row, and each class of a row has a rule
abbrev pub StatesAreNamed : Type 0
StatesAreNamed = read_example example_machine ≡ Ok (record {
  class_count = 4;
  classes = (5, 3) ∷ [];
  rules =
      idle 0 0 ∷ idle 0 1 ∷ idle 0 2 ∷ (0, 3, record { new_state = 2; flags = 32768; extra = tt })
      ∷ idle 1 0 ∷ idle 1 1 ∷ idle 1 2 ∷ idle 1 3
      ∷ idle 2 0 ∷ idle 2 1 ∷ idle 2 2 ∷ idle 2 3 ∷ [];
})

-- a font may have the row of state 0 alone: where no entry names state 1, there is none
abbrev pub StateOneIsNotAsked : Type 0
StateOneIsNotAsked = read_example (example_header 4 32 40 ++ example_classes ++ take 6 example_rows ++ 0 ∷ 0 ∷ []
    ++ take 4 example_entries) ≡ Ok (record {
      class_count = 4;
      classes = (5, 3) ∷ [];
      rules = idle 0 0 ∷ idle 0 1 ∷ idle 0 2 ∷ idle 0 3 ∷ [];
    })

-- each fault at its place: a header that is cut, too few classes, a row and an entry that are not there
abbrev pub MachineFaultsHaveTheirPlaces : Type 0
MachineFaultsHaveTheirPlaces =
    (read_example (take 15 example_machine) ≡ Err (fault_at example_tag PastEnd 0))
    × (read_example (example_header 3 32 56) ≡ Err (fault_at example_tag ShortLength 0))
    × (read_example (example_header 4 40 32 ++ example_classes ++ example_entries ++ take 16 example_rows)
    ≡ Err (fault_at example_tag PastEnd 56))
    × (read_example (take 56 example_machine) ≡ Err (fault_at example_tag PastEnd 56))
