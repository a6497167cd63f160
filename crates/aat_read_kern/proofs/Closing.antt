-- Rows that are found in turn, as a loop does, and cells that are there.
use Rattle.std.proofs.Common.{◌≡◌, ℕ, suc, ◌+◌, ◌-◌, ◌<◌, ◌≤◌, List, Bool, true, false, not, None, refl, sym, ap, ◌∙◌, zero-add, arith}
use Rattle.std.specs.Prelude.{nat_eq}
use Rattle.std.proofs.lemmas.Bool.{and_from, and_left, and_right, eq-eqb, ne_eqb}
use Rattle.aat_bytes.specs.facts.Ranges.{none_each}
use Rattle.aat_read_kern.specs.ByteMachines.{cell_count, has_entry, has_index}
use Rattle.aat_read_kern.specs.ByteStates.{are_closed, closed_rows, missing_entry, missing_index, with_all_named}
use Rattle.aat_read_kern.specs.declared.byte_machine.ByteMachine.{ByteMachine}
use Rattle.aat_read_kern.specs.declared.rows.Rows.{Rows}

not_false : (b : Bool) → not b ≡ false → b ≡ true
not_false true is = refl
not_false false is = cc

module _ (bytes : List ℕ) (m : ByteMachine) where
  -- one turn
  turn :
      (more : ℕ) (rows : Rows) (closed : Bool) → are_closed bytes m rows ≡ closed
      → closed_rows bytes m (suc more) rows
      ≡ elim closed [ true ↦ rows | false ↦ closed_rows bytes m more (with_all_named bytes m rows) ]
  unfolding closed_rows
  turn more rows closed is =
      ap (λ (b : Bool). elim b [ true ↦ rows | false ↦ closed_rows bytes m more (with_all_named bytes m rows) ]) is

  -- rows that name no other are found
  pub stops :
      (n k : ℕ) (rows : Rows) → k < n → are_closed bytes m rows ≡ true → closed_rows bytes m (n - k) rows ≡ rows
  stops n k rows below closed =
      let one : n - k ≡ suc (n - (k + 1)) = omega arith in
      ap (λ left. closed_rows bytes m left rows) one ∙ turn (n - (k + 1)) rows true closed

  -- others are taken in
  pub goes_on :
      (n k : ℕ) (rows : Rows) → k < n → are_closed bytes m rows ≡ false
      → closed_rows bytes m (n - k) rows ≡ closed_rows bytes m (n - (k + 1)) (with_all_named bytes m rows)
  goes_on n k rows below unclosed =
      let one : n - k ≡ suc (n - (k + 1)) = omega arith in
      ap (λ left. closed_rows bytes m left rows) one ∙ turn (n - (k + 1)) rows false unclosed

  -- behind the last turn
  pub is_done : (n k : ℕ) (rows : Rows) → n ≤ k → closed_rows bytes m (n - k) rows ≡ rows
  unfolding closed_rows
  is_done n k rows past =
      let none : n - k ≡ 0 = omega arith in
      rw none refl

  -- where no index is missing each is there
  pub all_indexed :
      (rows : Rows) → missing_index bytes m rows ≡ None
      → (cell : ℕ) → cell < cell_count m rows → has_index bytes m rows cell ≡ true
  all_indexed rows none cell below =
      not_false (has_index bytes m rows cell)
      (none_each _ 0 (cell_count m rows) none cell (omega arith) (rw zero-add below))

  -- where no entry is missing each is there
  pub all_whole :
      (rows : Rows) → missing_entry bytes m rows ≡ None
      → (cell : ℕ) → cell < cell_count m rows → has_entry bytes m rows cell ≡ true
  all_whole rows none cell below =
      not_false (has_entry bytes m rows cell)
      (none_each _ 0 (cell_count m rows) none cell (omega arith) (rw zero-add below))

  -- rows with as many rows as they and those that they name have name no other
  pub closed_by :
      (rows next : Rows) → next ≡ with_all_named bytes m rows → rows.behind ≡ next.behind → rows.before ≡ next.before
      → are_closed bytes m rows ≡ true
  closed_by rows next is behind before =
      and_from (nat_eq rows.behind (with_all_named bytes m rows).behind) (nat_eq rows.before (with_all_named bytes m rows).before)
      (eq-eqb rows.behind (with_all_named bytes m rows).behind (behind ∙ ap (λ (r : Rows). r.behind) is))
      (eq-eqb rows.before (with_all_named bytes m rows).before (before ∙ ap (λ (r : Rows). r.before) is))

  -- rows with fewer behind the first state name others
  pub open_behind :
      (rows next : Rows) → next ≡ with_all_named bytes m rows → (rows.behind ≡ next.behind → ⊥) → are_closed bytes m rows ≡ false
  open_behind rows next is other =
      and_left (nat_eq rows.behind (with_all_named bytes m rows).behind) (nat_eq rows.before (with_all_named bytes m rows).before)
      (ne_eqb rows.behind (with_all_named bytes m rows).behind (λ e. other (e ∙ ap (λ (r : Rows). r.behind) (sym is))))

  -- rows with fewer before it name others
  pub open_before :
      (rows next : Rows) → next ≡ with_all_named bytes m rows → (rows.before ≡ next.before → ⊥) → are_closed bytes m rows ≡ false
  open_before rows next is other =
      and_right (nat_eq rows.behind (with_all_named bytes m rows).behind) (nat_eq rows.before (with_all_named bytes m rows).before)
      (ne_eqb rows.before (with_all_named bytes m rows).before (λ e. other (e ∙ ap (λ (r : Rows). r.before) (sym is))))
