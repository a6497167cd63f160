-- The number of states.
use Rattle.std.proofs.Common.{◌≡◌, ℕ, ◌+◌, ◌*◌, ◌<◌, ◌≤◌, ◌⊎◌, inl, inr, Bool, true, false, not, Option, Some, None, Ok, Err, length, nat_le, refl, sym, ap, ◌∙◌, subst, zero-add, le_refl, arith}
use Rattle.std.proofs.Math.Nat.{le_trans, le_antisymm}
use Rattle.std.proofs.Math.Nat.{mul-le-mul_right, mul-le-mul}
use Rattle.std.proofs.lemmas.Bool.{leb-true, le-leb}
use Rattle.aat_bytes.specs.Numbers.{be16}
use Rattle.aat_read_machine.specs.StateArray.{StateArray, has_entry, has_index, index_place, is_closed, missing_entry, missing_index, row_fault, state_count, states_named, states_of}
use Rattle.aat_bytes.specs.facts.Ranges.{all_pass, each_passes, found_first, none_each, none_found}
use Rattle.aat_read_machine.specs.facts.Least.{Least, is_least}

not_false : (b : Bool) → not b ≡ false → b ≡ true
not_false true is = refl
not_false false is = cc

-- a cell of so many states is one of more states
pub more_cells : (count more width cell : ℕ) → count ≤ more → cell < count * width → cell < more * width
more_cells count more width cell le below =
    let wider : count * width ≤ more * width = mul-le-mul_right width le in omega (arith, wider)

-- the cells of all states are few
pub few_cells : (count width : ℕ) → count ≤ 65536 → width < 65536 → count * width < 8589934592
few_cells count width few narrow =
    let narrow_le : width ≤ 65536 = omega arith in
    let product : count * width ≤ 65536 * 65536 = mul-le-mul few narrow_le in omega (arith, product)

module _ (m : StateArray) where
  count_least : Least (is_closed m) 65535 1 (state_count m)
  count_least = is_least (is_closed m) 65535 1

  -- there are 1 to 65,536 states
  pub count_low : 1 ≤ state_count m
  count_low = count_least.low

  pub count_high : state_count m ≤ 65536
  count_high = count_least.high

  -- the cells of these states are few
  pub few_here :
      (count width cell : ℕ) → count ≤ state_count m → width < 65536 → cell < count * width → cell + 1 < 8589934592
  few_here count width cell low narrow below =
      let few = few_cells count width (le_trans low count_high) narrow in omega (arith, few)

  pub few_more : (count width : ℕ) → count ≤ state_count m → width < 65536 → count * width < 8589934592
  few_more count width low narrow = few_cells count width (le_trans low count_high) narrow

  closed_each : (count : ℕ) → is_closed m count ≡ true → (cell : ℕ) → cell < count * m.class_count → states_named m cell ≤ count
  closed_each count closed cell below =
      leb-true _ _ (each_passes _ 0 (count * m.class_count) closed cell (omega arith) (omega arith))

  named_by :
      (cell : ℕ) → (state_count m ≡ 65536) ⊎ (is_closed m (state_count m) ≡ true)
      → cell < state_count m * m.class_count → states_named m cell ≤ 65536 → states_named m cell ≤ state_count m
  named_by cell (inl last) below few = subst (λ (n : ℕ). states_named m cell ≤ n) (sym last) few
  named_by cell (inr closed) below few = closed_each (state_count m) closed cell below

  -- a cell of these states names one of them
  pub cell_names :
      (count cell : ℕ) → count ≤ state_count m → cell < count * m.class_count → states_named m cell ≤ 65536
      → states_named m cell ≤ state_count m
  cell_names count cell low within few =
      named_by cell count_least.holds (more_cells count (state_count m) m.class_count cell low within) few

  -- a number of states that is no higher and whose cells name no other state is the number of states
  pub count_is :
      (count : ℕ) → 1 ≤ count → count ≤ state_count m
      → ((cell : ℕ) → cell < count * m.class_count → states_named m cell ≤ count) → count ≡ state_count m
  count_is count low high named =
      let closed : is_closed m count ≡ true = all_pass _ 0 (count * m.class_count) (λ cell from below. le-leb _ _ (named cell (rw zero-add at below))) in
      let le : state_count m ≤ count = count_least.least count low (le_trans high count_high) closed in
      le_antisymm high le

  states_by : (o : Option ℕ) → missing_index m (state_count m * m.class_count) ≡ o
      → states_of m ≡ elim o [ None ↦ Ok (state_count m) | Some cell ↦ Err (row_fault m cell) ]
  unfolding states_of
  states_by o is =
      ap (λ (found : Option ℕ). elim found [ None ↦ Ok (state_count m) | Some cell ↦ Err (row_fault m cell) ]) is

  -- the first index that is missing is that of the states
  pub first_missing :
      (count cell : ℕ) → count ≤ state_count m → cell < count * m.class_count
      → ((earlier : ℕ) → earlier < cell → has_index m earlier ≡ true) → has_index m cell ≡ false
      → states_of m ≡ Err (row_fault m cell)
  first_missing count cell high below before missing =
      let within = more_cells count (state_count m) m.class_count cell high below in
      let here : not (has_index m cell) ≡ true = ap not missing in
      states_by (Some cell)
      (found_first _ 0 (state_count m * m.class_count) cell (omega arith) (rw zero-add within)
      (λ earlier from lt. ap not (before earlier lt)) here)

  -- states whose indexes are all there, and whose cells name no other state, are the states
  pub all_indexed :
      (count : ℕ) → 1 ≤ count → count ≤ state_count m
      → ((cell : ℕ) → cell < count * m.class_count → states_named m cell ≤ count)
      → ((cell : ℕ) → cell < count * m.class_count → has_index m cell ≡ true)
      → states_of m ≡ Ok count
  all_indexed count low high named indexed =
      let same = count_is count low high named in
      let there : (cell : ℕ) → cell < state_count m * m.class_count → has_index m cell ≡ true =
      subst (λ (n : ℕ). (cell : ℕ) → cell < n * m.class_count → has_index m cell ≡ true) same indexed
      in
      states_by None (none_found _ 0 (state_count m * m.class_count) (λ cell from below. ap not (there cell (rw zero-add at below))))
      ∙ ap Ok (sym same)

  -- where no index is missing each is there
  pub none_missing_index : (cells : ℕ) → missing_index m cells ≡ None → (cell : ℕ) → cell < cells → has_index m cell ≡ true
  none_missing_index cells none cell below =
      not_false (has_index m cell) (none_each _ 0 cells none cell (omega arith) (rw zero-add below))

  -- where no entry is missing each is there
  pub none_missing : (cells : ℕ) → missing_entry m cells ≡ None → (cell : ℕ) → cell < cells → has_entry m cell ≡ true
  none_missing cells none cell below =
      not_false (has_entry m cell) (none_each _ 0 cells none cell (omega arith) (rw zero-add below))

  -- where the entry of an index is there, that of a cell with no greater one is
  pub entry_by :
      (cell index : ℕ) → be16 m.bytes (index_place m cell) ≤ index
      → m.entries + m.entry_size * index + m.entry_size ≤ length m.bytes → has_entry m cell ≡ true
  unfolding has_entry
  entry_by cell index low fits =
      let le : m.entry_size * be16 m.bytes (index_place m cell) ≤ m.entry_size * index = mul-le-mul (le_refl m.entry_size) low in
      le-leb _ _ (omega (arith, le, fits))

  -- where the entry of the greatest index of cells is there, none is missing
  pub none_past :
      (cells index : ℕ) → ((cell : ℕ) → cell < cells → be16 m.bytes (index_place m cell) ≤ index)
      → nat_le (m.entries + m.entry_size * index + m.entry_size) (length m.bytes) ≡ true → missing_entry m cells ≡ None
  none_past cells index greatest fits =
      none_found _ 0 cells (λ cell from below. ap not (entry_by cell index (greatest cell (rw zero-add at below)) (leb-true _ _ fits)))
