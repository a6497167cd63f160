-- How the states that lines reach are searched: marks of states, and the marked states in the order of their marks.
use Rattle.std.specs.Prelude.{◌≡◌, ℕ, ◌≤◌, ◌<◌, ◌++◌, ◌==◌, Bool, true, nat_lt, Some, List, length, sum, slice_index}
use Rattle.aat_machine_tables.specs.Table.{TableValue}
use Rattle.aat_machine_tables.specs.declared.state_table.GenericStateEntry.{GenericStateEntry}
use Rattle.aat_findings.specs.Reached.{IsReached, next_state, width}

-- a state is marked
abbrev pub is_marked : List ℕ → ℕ → Bool
is_marked marks state = nat_lt 0 (slice_index marks state)

-- a state is not
abbrev pub is_unmarked : List ℕ → ℕ → Bool
is_unmarked marks state = slice_index marks state == 0

-- marks of each state, 0 or 1, and a list of the marked states
pub record AreMarks (marks order : List ℕ) : Type 0 where
  pub long : length marks ≡ 65536
  pub low : (s : ℕ) → slice_index marks s ≤ 1
  pub count : sum marks ≡ length order
  pub ordered : (i : ℕ) → i < length order → is_marked marks (slice_index order i) ≡ true
  pub listed : (s : ℕ) → is_marked marks s ≡ true → (i : ℕ) × (i < length order) × (slice_index order i ≡ s)

-- marked states stay marked
abbrev pub AreKept : List ℕ → List ℕ → Type 0
AreKept old new = (s : ℕ) → is_marked old s ≡ true → is_marked new s ≡ true

-- a list goes on
abbrev pub IsLonger : List ℕ → List ℕ → Type 0
IsLonger old new = (rest : List ℕ) × (new ≡ old ++ rest)

module _ {T : Type 0} (table : TableValue (GenericStateEntry T)) where
  -- the marked states are reached
  abbrev pub AreAllReached : List ℕ → Type 0
  AreAllReached marks = (s : ℕ) → is_marked marks s ≡ true → IsReached table s

  -- each state to which an entry of a state leads is marked, up to a class
  abbrev pub IsFollowed : List ℕ → ℕ → ℕ → Type 0
  IsFollowed marks state classes =
      (k s : ℕ) → k < classes → next_state table state k ≡ Some s → is_marked marks s ≡ true

  -- each state to which an entry of one of the first states of a list leads is marked
  abbrev pub AreFollowed : List ℕ → List ℕ → ℕ → Type 0
  AreFollowed marks order place =
      (i : ℕ) → i < place → i < length order → IsFollowed marks (slice_index order i) (width table)

  -- marks of the states that are reached
  pub record AreReachMarks (marks : List ℕ) : Type 0 where
    pub long : length marks ≡ 65536
    pub sound : AreAllReached marks
    pub each : (s : ℕ) → IsReached table s → is_marked marks s ≡ true
