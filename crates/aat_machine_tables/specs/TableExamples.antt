-- Worked examples of state tables.
use Rattle.std.specs.Prelude.{◌≡◌, ℕ, List, [], ◌∷◌, Some, None}
use Rattle.aat_machine_tables.specs.Table.{Rule, TableValue, class_of, entry_of, table_fault}
use Rattle.aat_lookup.specs.declared.error.TableError.TheVariants.{NotRising, FewClasses, ClassOutOfRange}

-- entries that are told apart by a number
abbrev pub example_table : TableValue ℕ
example_table = record {
  class_count = 4;
  classes = (0, 9) ∷ (7, 3) ∷ (65535, 3) ∷ [];
  rules = (0, 1, 10) ∷ (0, 3, 11) ∷ (65535, 0, 12) ∷ [];
}

-- a glyph may have a class that is not below the count; the deleted glyph has class 2 whatever is listed for it
abbrev pub ClassesAreAsListed : Type 0
ClassesAreAsListed =
    (class_of example_table 0 ≡ Some 9)
    × (class_of example_table 7 ≡ Some 3)
    × (class_of example_table 8 ≡ None)
    × (class_of example_table 65535 ≡ Some 2)

-- a class at or above the count is taken as 1, and what has no rule is missing
abbrev pub EntriesAreByRule : Type 0
EntriesAreByRule =
    (entry_of example_table 0 3 ≡ Some 11)
    × (entry_of example_table 0 4 ≡ Some 10)
    × (entry_of example_table 0 9 ≡ Some 10)
    × (entry_of example_table 0 65535 ≡ Some 10)
    × (entry_of example_table 0 2 ≡ None)
    × (entry_of example_table 1 4 ≡ None)
    × (entry_of example_table 65535 0 ≡ Some 12)

-- rules of a state and a class
abbrev pub rules_at : ℕ × ℕ → ℕ × ℕ → List (Rule ℕ)
rules_at a b = (a.0, a.1, 0) ∷ (b.0, b.1, 0) ∷ []

-- the first fault is found in the stated order
abbrev pub FaultsComeInOrder : Type 0
FaultsComeInOrder =
    (table_fault {E = ℕ} 3 ((5, 1) ∷ (5, 2) ∷ []) [] ≡ Some FewClasses)
    × (table_fault 4 ((5, 1) ∷ (5, 2) ∷ []) (rules_at (0, 5) (0, 4)) ≡ Some (NotRising 1))
    × (table_fault 4 [] (rules_at (0, 5) (0, 4)) ≡ Some (ClassOutOfRange 0))
    × (table_fault 4 [] (rules_at (1, 0) (0, 9)) ≡ Some (NotRising 1))
    × (table_fault 4 ((5, 9) ∷ []) (rules_at (0, 3) (1, 0)) ≡ None)
