-- Grids that answer as the rules of a table do. No contract but those of the table and its grid cites this.
use Rattle.std.specs.Prelude.{◌≡◌, ◌+◌, ◌*◌, ◌-◌, ◌/◌, ◌<◌, ℕ, Bool, List, Option, None, Some, if◌then◌else◌, nat_lt, length, slice_get, slice_index_or, option_map, unwrap_or}
use Rattle.aat_machine_tables.specs.Judged.{is_safe_by}
use Rattle.aat_lookup.specs.Keys.{at_key}
use Rattle.aat_machine_tables.specs.Table.{Rule, rule_key}
use Rattle.aat_machine_tables.specs.declared.judged.JudgedEntry.{JudgedEntry}
use Rattle.aat_machine_tables.specs.declared.judged.JudgedEntry.TheVariants.{Missing, Safe, Unsafe}
use Rattle.aat_machine_tables.specs.declared.state_table.GenericStateEntry.{GenericStateEntry}

-- the entry that rules have for a state and a class, if there is one
abbrev pub ruled_entry : {E : Type 0} → List (Rule E) → ℕ → ℕ → Option E
ruled_entry rules state class = option_map (λ r. r.2) (at_key rule_key rules (state * 65536 + class))

-- an entry by its state, the entry of state 0 for its class and that of its state for the end of the text
abbrev pub judged : {T : Type 0} → (GenericStateEntry T → Bool) → ℕ → Option (GenericStateEntry T)
    → Option (GenericStateEntry T) → Option (GenericStateEntry T) → JudgedEntry T
judged acts state None from_start at_end = Missing
judged acts state (Some e) from_start at_end = if is_safe_by acts state e from_start at_end then Safe e else Unsafe e

-- the entry that rules have for a state and a class, judged by those that they have
abbrev pub judged_rule : {T : Type 0} → (GenericStateEntry T → Bool) → List (Rule (GenericStateEntry T)) → ℕ → ℕ
    → JudgedEntry T
judged_rule acts rules state class =
    judged acts state (ruled_entry rules state class) (ruled_entry rules 0 class) (ruled_entry rules state 0)

-- the number of states of a grid up to that of a rule's number, none where they have more than 65,536 cells
abbrev pub states_to : ℕ → ℕ → ℕ
states_to class_count key =
    if nat_lt 65536 ((key / 65536 + 1) * class_count) then 0 else key / 65536 + 1

-- the number of states of a grid: up to that of the last rule, none without rules
abbrev pub state_count : {E : Type 0} → ℕ → List (Rule E) → ℕ
state_count class_count rules =
    unwrap_or (option_map (λ rule. states_to class_count (rule_key rule)) (slice_get rules (length rules - 1))) 0

-- the state of each rule is below a number
abbrev pub RulesBelow : {E : Type 0} → ℕ → List (Rule E) → Type 0
RulesBelow {E} states rules =
    (i : ℕ) (d : Rule E) → i < length rules → rule_key (slice_index_or rules i d) < states * 65536

-- a grid of states by classes answers as rules do, unless it is empty
abbrev pub AnswersAsRules : {T : Type 0} → (GenericStateEntry T → Bool) → ℕ → List (JudgedEntry T)
    → List (Rule (GenericStateEntry T)) → Type 0
AnswersAsRules acts class_count cells rules =
    0 < length cells → (state class : ℕ) → class < class_count
    → slice_index_or cells (state * class_count + class) Missing ≡ judged_rule acts rules state class

-- the rules before a place rise up to below a number, and have classes below the count
abbrev pub AreFaultless : {E : Type 0} → ℕ → List (Rule E) → ℕ → ℕ → Type 0
AreFaultless {E} count rules place lowest =
    (i : ℕ) (d : Rule E) → i < place
    → (rule_key (slice_index_or rules i d) < lowest) × ((slice_index_or rules i d).1 < count)
    × ((j : ℕ) → j < i → rule_key (slice_index_or rules j d) < rule_key (slice_index_or rules i d))
