-- Worked examples of a machine that is written.
use Rattle.std.specs.Prelude.{◌≡◌, ℕ, List, [], ◌∷◌, ◌++◌, Ok, Err, Result}
use Rattle.aat_machine_tables.specs.Table.{Rule, TableValue}
use Rattle.aat_machine_tables.specs.declared.state_table.GenericStateEntry.{GenericStateEntry}
use Rattle.aat_write_machine.specs.EntryWords.{no_words}
use Rattle.aat_write_machine.specs.Machines.{machine_written}
use Rattle.aat_write_machine.specs.declared.error.MorxWriteError.{MorxWriteError}
use Rattle.aat_write_machine.specs.declared.error.MorxWriteError.TheVariants.{FewClasses, OutOfPlace, NoRow, NotNamed}

-- a rule that names a state
abbrev pub example_rule : ℕ → ℕ → ℕ → Rule (GenericStateEntry (Unit {0}))
example_rule state class next = (state, class, record { new_state = next; flags = 32768; extra = tt })

-- the rules of a state, the last of which names another state
abbrev pub example_row : ℕ → ℕ → List (Rule (GenericStateEntry (Unit {0})))
example_row state next =
    example_rule state 0 0 ∷ example_rule state 1 0 ∷ example_rule state 2 0 ∷ example_rule state 3 next ∷ []

-- a machine of so many classes, in which glyph 5 has class 3
abbrev pub example_machine : ℕ → List (Rule (GenericStateEntry (Unit {0}))) → TableValue (GenericStateEntry (Unit {0}))
example_machine count rules = record { class_count = count; classes = (5, 3) ∷ []; rules = rules }

-- what is written of an example
abbrev pub written_example : ℕ → List (Rule (GenericStateEntry (Unit {0}))) → Result (List ℕ) MorxWriteError
written_example count rules = machine_written no_words [] (example_machine count rules)

-- the header, the class table, a row of four indexes, and four entries
abbrev pub MachineHasItsParts : Type 0
MachineHasItsParts = written_example 4 (example_row 0 0) ≡ Ok (
    (0 ∷ 0 ∷ 0 ∷ 4 ∷ 0 ∷ 0 ∷ 0 ∷ 16 ∷ 0 ∷ 0 ∷ 0 ∷ 36 ∷ 0 ∷ 0 ∷ 0 ∷ 44 ∷ [])
    ++ (0 ∷ 6 ∷ 0 ∷ 4 ∷ 0 ∷ 2 ∷ 0 ∷ 0 ∷ 0 ∷ 0 ∷ 0 ∷ 0 ∷ 0 ∷ 5 ∷ 0 ∷ 3 ∷ 255 ∷ 255 ∷ 255 ∷ 255 ∷ [])
    ++ (0 ∷ 0 ∷ 0 ∷ 1 ∷ 0 ∷ 2 ∷ 0 ∷ 3 ∷ [])
    ++ (0 ∷ 0 ∷ 128 ∷ 0 ∷ 0 ∷ 0 ∷ 128 ∷ 0 ∷ 0 ∷ 0 ∷ 128 ∷ 0 ∷ 0 ∷ 0 ∷ 128 ∷ 0 ∷ []))

-- each refusal at its place: too few classes, a row that is cut, a state without a row, and one that is not named
abbrev pub MachinesAreRefused : Type 0
MachinesAreRefused =
    (written_example 3 [] ≡ Err FewClasses)
    × (written_example 4 (example_row 0 0 ++ example_rule 1 0 0 ∷ []) ≡ Err (OutOfPlace 5))
    × (written_example 4 (example_row 0 1) ≡ Err (NoRow 3))
    × (written_example 4 (example_row 0 0 ++ example_row 1 1) ≡ Err (NotNamed 1))
