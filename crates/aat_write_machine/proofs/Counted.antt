-- The number of states that the reader finds.
use Rattle.std.proofs.Common.{◌≡◌, ℕ, suc, ◌+◌, ◌*◌, ◌<◌, ◌≤◌, inl, inr, List, length, get_or, take, Bool, true, not, Option, Some, None, Result, Ok, Err, refl, sym, ap, ◌∙◌, subst, arith}
use Rattle.std.specs.Prelude.{nat_le}
use Rattle.std.proofs.Math.Nat.{mul-le-mul_left, mul-le-mul_right}
use Rattle.std.proofs.lemmas.Bool.{cases_lt, leb-true, le-leb}
use Rattle.std.proofs.lemmas.List.{get_or-take, length-take-le}
use Rattle.aat_bytes.specs.Faults.{after}
use Rattle.aat_bytes.specs.Numbers.{be16}
use Rattle.aat_bytes.specs.declared.error.Fault.{Fault}
use Rattle.aat_bytes.specs.facts.Ranges.{all_pass, each_passes, none_found}
use Rattle.aat_machine_tables.specs.Table.{Rule}
use Rattle.aat_machine_tables.specs.declared.state_table.GenericStateEntry.{GenericStateEntry}
use Rattle.aat_read_machine.specs.Entries.{entry_at}
use Rattle.aat_read_machine.specs.StateArray as reader
use Rattle.aat_read_machine.specs.StateArray.{StateArray, cells_of, entry_place, has_entry, has_index, is_closed, least, missing_entry, missing_index, past_end, row_fault, state_count, states_named}
use Rattle.aat_read_machine.specs.facts.Least.{is_least}
use Rattle.aat_write_machine.specs.MachineRefusals.{highest_named, states_of}
use Rattle.aat_write_machine.proofs.RowFacts.{AreRows, highest_below}

-- the number that passes where none before it does
least_is : (p : ℕ → Bool) (n : ℕ) → 1 ≤ n → n ≤ 16384 → p n ≡ true → ((j : ℕ) → 1 ≤ j → j < n → p j ≡ true → ⊥) → least p 65535 1 ≡ n
least_is p n low high passes none =
    let facts = is_least p 65535 1 in
    let at_most : least p 65535 1 ≤ n = facts.least n low (omega arith) passes in
    elim (cases_lt (least p 65535 1) n) [
      | inl lt ↦ elim facts.holds [
        | inl last ↦ absurd (omega (arith, last))
        | inr holds ↦ absurd (none (least p 65535 1) facts.low lt holds)
      ]
      | inr le ↦ omega arith
    ]

-- what a state table has in its bytes: indexes and entries of cells, which stand inside
pub record HasCells {T : Type 0} (size : ℕ) (extra_at : List ℕ → ℕ → T) (rules : List (Rule (GenericStateEntry T))) (m : StateArray) : Type 0 where
  pub entry_size : m.entry_size ≡ 4 + size
  pub indexed : m.states + 2 * length rules ≤ length m.bytes
  pub whole : m.entries + (4 + size) * length rules ≤ length m.bytes
  pub index : (cell : ℕ) → cell < length rules → be16 m.bytes (m.states + 2 * cell) ≡ cell
  pub entry :
      (cell : ℕ) (d : Rule (GenericStateEntry T)) → cell < length rules
      → entry_at extra_at m.bytes (m.entries + (4 + size) * cell) ≡ (get_or rules cell d).2

module _ {T : Type 0} (size : ℕ) (extra_at : List ℕ → ℕ → T) (rules : List (Rule (GenericStateEntry T))) (d : Rule (GenericStateEntry T))
    (m : StateArray) (cells : HasCells size extra_at rules m) (rows : AreRows m.class_count rules) where
  index_there : (cell : ℕ) → cell < length rules → has_index m cell ≡ true
  unfolding has_index
  index_there cell below = le-leb (m.states + 2 * cell + 2) (length m.bytes) (omega (arith, cells.indexed))

  pub place_is : (cell : ℕ) → cell < length rules → entry_place m cell ≡ m.entries + (4 + size) * cell
  place_is cell below = rw cells.entry_size (rw (cells.index cell below) refl)

  entry_there : (cell : ℕ) → cell < length rules → has_entry m cell ≡ true
  unfolding has_entry
  entry_there cell below =
      let suc_le : suc cell ≤ length rules = omega arith in
      let wide : (4 + size) * suc cell ≤ (4 + size) * length rules = mul-le-mul_left (4 + size) suc_le in
      let next : (4 + size) * suc cell ≡ (4 + size) * cell + (4 + size) = omega arith in
      le-leb (entry_place m cell + m.entry_size) (length m.bytes)
      (omega (arith, cells.whole, place_is cell below, cells.entry_size, wide, next))

  named_is :
      (cell : ℕ) (d : Rule (GenericStateEntry T)) → cell < length rules
      → states_named m cell ≡ (get_or rules cell d).2.new_state + 1
  unfolding states_named
  named_is cell d below =
      let state : be16 m.bytes (m.entries + (4 + size) * cell) ≡ (get_or rules cell d).2.new_state =
      ap (λ (e : GenericStateEntry T). e.new_state) (cells.entry cell d below) in
      rw (index_there cell below) (rw (entry_there cell below)
      (ap (λ place. be16 m.bytes place + 1) (place_is cell below) ∙ ap (λ s. s + 1) state))

  abbrev states : ℕ
  states = states_of m.class_count rules

  closed : is_closed m states ≡ true
  closed =
      all_pass (λ cell. nat_le (states_named m cell) states) 0 (states * m.class_count) (λ cell from below.
      let within : cell < length rules = omega (arith, rows.whole) in
      le-leb (states_named m cell) states (omega (arith, named_is cell d within, rows.named cell d within)))

  not_closed : (count : ℕ) → 1 ≤ count → count < states → is_closed m count ≡ true → ⊥
  not_closed count low high passes =
      let le : count ≤ states = omega arith in
      let fewer : count * m.class_count ≤ states * m.class_count = mul-le-mul_right m.class_count le in
      let wider : count * m.class_count ≤ length rules = omega (arith, rows.whole, fewer) in
      let long : length (take (count * m.class_count) rules) ≡ count * m.class_count = length-take-le (count * m.class_count) rules wider in
      let below : highest_named m.class_count rules count < count =
      highest_below count 0 (take (count * m.class_count) rules) low (λ cell e lt.
      let here : cell < count * m.class_count = omega (arith, long) in
      let within : cell < length rules = omega (arith, wider) in
      let test : nat_le (states_named m cell) count ≡ true = each_passes (λ c. nat_le (states_named m c) count) 0 (count * m.class_count) passes cell (omega arith) (omega arith) in
      let named : states_named m cell ≤ count = leb-true (states_named m cell) count test in
      let same : (get_or (take (count * m.class_count) rules) cell e).2.new_state ≡ (get_or rules cell e).2.new_state =
      ap (λ (r : Rule (GenericStateEntry T)). r.2.new_state) (get_or-take (count * m.class_count) rules cell e here) in
      let is : states_named m cell ≡ (get_or rules cell e).2.new_state + 1 = named_is cell e within in
      omega (arith, named, same, is))
      in omega (arith, below, rows.reached count low high)

  few_states : states ≤ 16384
  few_states =
      let product : states * 4 ≤ states * m.class_count = mul-le-mul_left states rows.wide in
      omega (arith, product, rows.whole, rows.few)

  count_is : state_count m ≡ states
  count_is = least_is (is_closed m) states rows.some few_states closed not_closed

  none_missing_index : missing_index m (states * m.class_count) ≡ None
  none_missing_index =
      none_found (λ cell. not (has_index m cell)) 0 (states * m.class_count) (λ cell from below.
      ap not (index_there cell (omega (arith, rows.whole))))

  none_missing_entry : missing_entry m (states * m.class_count) ≡ None
  none_missing_entry =
      none_found (λ cell. not (has_entry m cell)) 0 (states * m.class_count) (λ cell from below.
      ap not (entry_there cell (omega (arith, rows.whole))))

  states_found : reader.states_of m ≡ Ok states
  unfolding reader.states_of
  states_found =
      let none : missing_index m (state_count m * m.class_count) ≡ None =
      subst (λ (n : ℕ). missing_index m (n * m.class_count) ≡ None) (sym count_is) none_missing_index in
      ap (λ (found : Option ℕ). elim found [ None ↦ Ok (state_count m) | Some cell ↦ Err (row_fault m cell) ]) none
      ∙ ap Ok count_is

  -- the reader finds a cell for each rule
  pub cells_are : cells_of m ≡ Ok (length rules)
  unfolding cells_of
  cells_are =
      ap (λ (r : Result ℕ Fault). after r (λ count. elim (missing_entry m (count * m.class_count)) [
        | None ↦ Ok (count * m.class_count)
        | Some cell ↦ Err (past_end m (entry_place m cell))
      ])) states_found
      ∙ ap (λ (found : Option ℕ). elim found [ None ↦ Ok (states * m.class_count) | Some cell ↦ Err (past_end m (entry_place m cell)) ]) none_missing_entry
      ∙ ap Ok (sym rows.whole)
