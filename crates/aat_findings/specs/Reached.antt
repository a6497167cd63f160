-- The states that lines reach. Apple's TrueType Reference Manual, "Font Tables", section on state tables.
use Rattle.std.specs.Prelude.{◌≡◌, ℕ, ◌+◌, ◌≤◌, ◌<◌, Option, Some, List, [], ◌∷◌, max, option_map, filter, Bool, true}
use Rattle.std.specs.Option.{option_and_then}
use Rattle.std.specs.List.{All, AllPairs, Contains}
use Rattle.aat_machine_tables.specs.Table.{Rule, TableValue, entry_of}
use Rattle.aat_machine_tables.specs.declared.state_table.GenericStateEntry.{GenericStateEntry}

-- a list has those numbers alone of which something holds, each of them, rising
pub record AreExactly (holds : ℕ → Type 0) (numbers : List ℕ) : Type 0 where
  pub rising : AllPairs (λ m n. m < n) numbers
  pub sound : All holds numbers
  pub each : (n : ℕ) → holds n → Contains numbers n

-- the elements of a list of which something holds, in their order: those that pass a test which tells it
pub record ArePicked {X : Type 0} (holds : X → Type 0) (all picked : List X) : Type 0 where
  pub test : X → Bool
  pub sound : (x : X) → test x ≡ true → holds x
  pub each : (x : X) → holds x → test x ≡ true
  pub filtered : picked ≡ filter test all

module _ {T : Type 0} (table : TableValue (GenericStateEntry T)) where
  -- the state to which the entry of a state and a class leads, if there is one
  abbrev pub next_state : ℕ → ℕ → Option ℕ
  next_state state class = option_map (λ e. e.new_state) (entry_of table state class)

  -- the state to which classes lead from a state, by one entry after another, if there is one for each
  abbrev pub state_after : ℕ → List ℕ → Option ℕ
  state_after state [] = Some state
  state_after state (class ∷ line) = option_and_then (λ s. state_after s line) (next_state state class)

  -- a state is reached: the classes of some line lead to it from one of the two states in which lines begin, 0 at the
  -- start of a text, 1 at that of a line
  pub record IsReached (state : ℕ) : Type 0 where
    pub start : ℕ
    pub line : List ℕ
    pub begins : start ≤ 1
    pub leads : state_after start line ≡ Some state

  -- the number of classes that are looked at
  abbrev pub width : ℕ
  width = max table.class_count 2

-- the number of states: up to the highest that a rule has
abbrev pub state_count : {E : Type 0} → List (Rule E) → ℕ
state_count [] = 0
state_count (r ∷ rules) = max (r.0 + 1) (state_count rules)

-- no line reaches a state, which is one of those of the table
pub record IsUnreached {T : Type 0} (table : TableValue (GenericStateEntry T)) (state : ℕ) : Type 0 where
  pub below : state < state_count table.rules
  pub never : IsReached table state → ⊥

-- no line comes to a rule: it is one of a state that no line reaches
abbrev pub IsUnused : {T : Type 0} → TableValue (GenericStateEntry T) → Rule (GenericStateEntry T) → Type 0
IsUnused table rule = IsReached table rule.0 → ⊥
