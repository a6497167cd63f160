-- The states that a run may reach. Apple's TrueType Reference Manual, "Font Tables", section on state tables.
use Rattle.std.specs.Prelude.{◌≡◌, ◌≢◌, ◌<◌, ℕ, Bool, true, max, nat_lt, List, Some, None}
use Rattle.std.specs.List.{All, Contains}
use Rattle.aat_machine_tables.specs.Table.{Rule, TableValue, entry_of}
use Rattle.aat_machine_tables.specs.declared.state_table.GenericStateEntry.{GenericStateEntry}
use Rattle.aat_cuts.specs.Labels.{AreLabels, label_in}
use Rattle.aat_cuts.specs.declared.labels.Asked.TheVariants.{Same, One}
use Rattle.aat_cuts.specs.declared.labels.Edge.{Edge}
use Rattle.aat_cuts.specs.declared.reached.Reach.{Reach}
use Rattle.aat_cuts.specs.declared.reached.Reach.TheVariants.{Complete, Missing}

module _ {T : Type 0} (table : TableValue (GenericStateEntry T)) where
  -- state 0 is one of some states, and each of them has an entry for each class, to one of them
  pub record IsComplete (is_reached : ℕ → Bool) : Type 0 where
    pub first : is_reached 0 ≡ true
    pub entries :
        (s k : ℕ) → is_reached s ≡ true
        → (e : GenericStateEntry T) × (entry_of table s k ≡ Some e) × (is_reached e.new_state ≡ true)

  -- state 0 is one of some states, and with each of them each state that an entry of it leads to
  pub record AreFollowed (states : ℕ → Bool) : Type 0 where
    pub first : states 0 ≡ true
    pub next :
        (s k : ℕ) (e : GenericStateEntry T) → states s ≡ true → entry_of table s k ≡ Some e
        → states e.new_state ≡ true

  -- a state is reached: it is one of all such states
  abbrev pub IsReached : ℕ → Type 0
  IsReached state = (states : ℕ → Bool) → AreFollowed states → states state ≡ true

  -- the number of classes that are looked at
  abbrev pub width : ℕ
  width = max table.class_count 2

  -- a state has an entry for each class
  abbrev pub IsWhole : ℕ → Type 0
  IsWhole s = (k : ℕ) → k < width → entry_of table s k ≢ None

  -- a state, a class and their entry
  abbrev pub IsCell : Rule (GenericStateEntry T) → Type 0
  IsCell c = entry_of table c.0 c.1 ≡ Some c.2

  -- a list has the entries of a state
  abbrev pub HasRow : List (Rule (GenericStateEntry T)) → ℕ → Type 0
  HasRow cells s =
      (k : ℕ) (e : GenericStateEntry T) → k < width → entry_of table s k ≡ Some e → Contains cells (s, k, e)

  -- a list has entries of the table alone, and of each state below one those where each class has one
  pub record AreGathered (cells : List (Rule (GenericStateEntry T))) (states : ℕ) : Type 0 where
    pub sound : All IsCell cells
    pub whole : (s : ℕ) → s < states → IsWhole s → HasRow cells s

-- a state has a label above 0
abbrev pub is_labelled : List ℕ → ℕ → Bool
is_labelled labels s = nat_lt 0 (label_in labels s)

-- a list of labels and one of entries are those of a complete table: the labelled states are those that are reached, and
-- the entries are those of these states
pub record AreReached {T : Type 0} (table : TableValue (GenericStateEntry T)) (labels : List ℕ)
    (cells : List (Rule (GenericStateEntry T))) : Type 0 where
  pub are : AreLabels labels
  pub first : is_labelled labels 0 ≡ true
  pub sound : All (λ c. (is_labelled labels c.0 ≡ true) × IsCell table c) cells
  pub each :
      (s k : ℕ) → is_labelled labels s ≡ true → k < width table
      → (e : GenericStateEntry T) × (entry_of table s k ≡ Some e) × (is_labelled labels e.new_state ≡ true)
      × Contains cells (s, k, e)
  pub least : (s : ℕ) → is_labelled labels s ≡ true → IsReached table s

-- the label 1 at state 0, and as much at the state that an entry goes to as at its own
abbrev pub start_edge : Edge
start_edge = record { from = 0; to = 0; asked = One }

abbrev pub follow_edge : {T : Type 0} → Rule (GenericStateEntry T) → Edge
follow_edge c = record { from = c.2.new_state; to = c.0; asked = Same }

-- some states go with entries: with the state of each also the one that it goes to
abbrev pub IsClosed : {T : Type 0} → List (Rule (GenericStateEntry T)) → (ℕ → Bool) → Type 0
IsClosed cells is_reached = All (λ c. is_reached c.0 ≡ true → is_reached c.2.new_state ≡ true) cells

-- the labelled states are the least ones that have state 0 and go with entries
pub record AreReachLabels {T : Type 0} (cells : List (Rule (GenericStateEntry T))) (labels : List ℕ) : Type 0 where
  pub are : AreLabels labels
  pub first : is_labelled labels 0 ≡ true
  pub closed : IsClosed cells (is_labelled labels)
  pub least : (is_reached : ℕ → Bool) → is_reached 0 ≡ true → IsClosed cells is_reached → (s : ℕ)
      → is_labelled labels s ≡ true → is_reached s ≡ true

-- what was found of a table: that it is complete, with its states and their entries, or a state that a run may reach and
-- a class for which it has no entry
abbrev pub IsFound : {T : Type 0} → TableValue (GenericStateEntry T) → Reach T → Type 0
IsFound table (Complete found) = AreReached table found.labels.items found.cells.items
IsFound table (Missing state class) =
    IsReached table state × (entry_of table state class ≡ None)
    × ((is_reached : ℕ → Bool) → IsComplete table is_reached → ⊥)
