-- The rows of a machine whose states lie one behind the other are found again.
use Rattle.std.proofs.Common.{◌≡◌, ℕ, zero, suc, ◌+◌, ◌*◌, ◌-◌, ◌/◌, ◌<◌, ◌≤◌, List, length, max, Bool, true, false, not, ◌==◌, ◌&&◌, Option, None, Some, Ok, Err, refl, ap, ◌∙◌, arith}
use Rattle.std.specs.Prelude.{nat_lt, slice_index}
use Rattle.std.specs.List.{fold, range_with_len}
use Rattle.std.proofs.Math.Nat.{div-add-mod, mul-div-le, mul-div_cancel, mul-le-mul_right}
use Rattle.std.proofs.lemmas.Bool.{le-leb, lt-ltb}
use Rattle.std.proofs.lemmas.Bool.Decides.{nat_tests}
use Rattle.aat_bytes.specs.Faults.{fault_at}
use Rattle.aat_bytes.specs.Numbers.{be16}
use Rattle.aat_bytes.specs.declared.error.FaultKind.TheVariants.{PastEnd}
use Rattle.aat_bytes.specs.facts.Ranges.{none_found}
use Rattle.aat_bytes.specs.declared.tags.TheConstants.{KERN}
use Rattle.aat_read_kern.specs.ByteMachines.{cell_count, entry_place, has_entry, has_index, index_place, row_place, rows_before, rows_behind, state_named}
use Rattle.aat_read_kern.specs.ByteStates.{are_closed, closed_rows, missing_entry, missing_index, rows_of, whole_rows, with_all_named, with_named}
use Rattle.aat_write_truetype.proofs.kern.Readers.{ByteMachine, Rows}

-- so many rows from the first state on
abbrev pub rows_from : ℕ → Rows
rows_from behind = record { behind = behind; before = 0 }

-- what stands in the bytes of a machine: for each cell an index of its own and an entry, which names a state by its row
pub record HasCells (bytes : List ℕ) (m : ByteMachine) (states : ℕ) (named : ℕ → ℕ) : Type 0 where
  pub wide : 0 < m.class_count
  pub some : 0 < states
  pub few : states ≤ 256
  pub indexed : m.place + m.states + states * m.class_count ≤ length bytes
  pub whole : m.place + m.entries + 4 * (states * m.class_count) ≤ length bytes
  pub index : (cell : ℕ) → cell < states * m.class_count → slice_index bytes (m.place + m.states + cell) ≡ cell
  pub state :
      (cell : ℕ) → cell < states * m.class_count
      → be16 bytes (m.place + m.entries + 4 * cell) ≡ m.states + named cell * m.class_count
  pub below : (cell : ℕ) → cell < states * m.class_count → named cell < states
  -- a state behind the first is named by the rows before it, or one behind it is
  pub reached :
      (state : ℕ) → 0 < state → state < states
      → ((cell : ℕ) → cell < state * m.class_count → named cell < state) → ⊥

module _ (bytes : List ℕ) (m : ByteMachine) (states : ℕ) (named : ℕ → ℕ) (has : HasCells bytes m states named) where
  abbrev w : ℕ
  w = m.class_count

  -- a cell of so many rows is one of all
  within : (b cell : ℕ) → b ≤ states → cell < b * w → cell < states * w
  within b cell le below =
      let rows : b * w ≤ states * w = mul-le-mul_right w le in
      omega (arith, rows, below)

  pub index_is : (b cell : ℕ) → cell < b * w → index_place m (rows_from b) cell ≡ m.place + m.states + cell
  index_is b cell below =
      let parts = div-add-mod cell w in
      let turned : w * (cell / w) ≡ cell / w * w = omega arith in
      let row : cell / w < b = in_rows (nat_lt (cell / w) b) refl in
      rw (lt-ltb (cell / w) b row) (omega (arith, parts, turned))
    where
      in_rows : (t : Bool) → nat_lt (cell / w) b ≡ t → cell / w < b
      in_rows true test = grind (arith, nat_tests, test)
      in_rows false test =
          let le : b ≤ cell / w = grind (arith, nat_tests, test) in
          let more : b * w ≤ cell / w * w = mul-le-mul_right w le in
          let all = mul-div-le cell w in
          absurd (omega (arith, more, all, below))

  pub entry_is :
      (b cell : ℕ) → b ≤ states → cell < b * w
      → entry_place bytes m (rows_from b) cell ≡ m.place + m.entries + 4 * cell
  entry_is b cell le below =
      ap (λ n. m.place + m.entries + 4 * n)
      (ap (slice_index bytes) (index_is b cell below) ∙ has.index cell (within b cell le below))

  index_there : (b cell : ℕ) → b ≤ states → cell < b * w → has_index bytes m (rows_from b) cell ≡ true
  unfolding has_index
  index_there b cell le below =
      let inside = has.indexed in
      lt-ltb (index_place m (rows_from b) cell) (length bytes) (omega (arith, index_is b cell below, inside, within b cell le below))

  entry_there : (b cell : ℕ) → b ≤ states → cell < b * w → has_entry bytes m (rows_from b) cell ≡ true
  unfolding has_entry
  entry_there b cell le below =
      let inside = has.whole in
      le-leb (entry_place bytes m (rows_from b) cell + 4) (length bytes) (omega (arith, entry_is b cell le below, inside, within b cell le below))

  pub offset_is :
      (b cell : ℕ) → b ≤ states → cell < b * w
      → be16 bytes (entry_place bytes m (rows_from b) cell) ≡ m.states + named cell * w
  offset_is b cell le below =
      ap (be16 bytes) (entry_is b cell le below) ∙ has.state cell (within b cell le below)

  behind_is : (state : ℕ) → rows_behind m (m.states + state * w) ≡ state
  behind_is state =
      let less : m.states + state * w - m.states ≡ state * w = omega arith in
      ap (λ n. n / w) less ∙ mul-div_cancel state has.wide

  before_is : (state : ℕ) → rows_before m (m.states + state * w) ≡ 0
  before_is state =
      let less : m.states - (m.states + state * w) ≡ 0 * w = omega arith in
      ap (λ n. n / w) less ∙ mul-div_cancel 0 has.wide

  pub named_is : (b state : ℕ) → state_named m (rows_from b) (m.states + state * w) ≡ state
  named_is b state = rw (before_is state) (behind_is state)

  -- the rows up to the furthest that so many cells from one on name
  abbrev top : ℕ → ℕ → ℕ → ℕ
  top found cell zero = found
  top found cell (suc n) = top (max found (named cell + 1)) (cell + 1) n

  one_named :
      (b found cell : ℕ) → b ≤ states → cell < b * w
      → with_named bytes m (rows_from b) (rows_from found) cell ≡ rows_from (max found (named cell + 1))
  unfolding with_named
  one_named b found cell le below =
      let offset = offset_is b cell le below in
      let behind : rows_behind m (be16 bytes (entry_place bytes m (rows_from b) cell)) ≡ named cell =
      ap (rows_behind m) offset ∙ behind_is (named cell) in
      let before : rows_before m (be16 bytes (entry_place bytes m (rows_from b) cell)) ≡ 0 =
      ap (rows_before m) offset ∙ before_is (named cell) in
      let with_behind : ℕ → Rows = λ n. record { behind = max found (n + 1); before = max 0 (rows_before m (be16 bytes (entry_place bytes m (rows_from b) cell))) } in
      let with_before : ℕ → Rows = λ n. record { behind = max found (named cell + 1); before = max 0 n } in
      rw (index_there b cell le below) (rw (entry_there b cell le below) (ap with_behind behind ∙ ap with_before before))

  all_named :
      (b found cell n : ℕ) → b ≤ states → cell + n ≤ b * w
      → fold (with_named bytes m (rows_from b)) (rows_from found) (range_with_len cell n) ≡ rows_from (top found cell n)
  all_named b found cell zero le inside = refl
  all_named b found cell (suc n) le inside =
      ap (λ (r : Rows). fold (with_named bytes m (rows_from b)) r (range_with_len (cell + 1) n)) (one_named b found cell le (omega arith))
      ∙ all_named b (max found (named cell + 1)) (cell + 1) n le (omega arith)

  not_less : (found cell n : ℕ) → found ≤ top found cell n
  not_less found cell zero = omega arith
  not_less found cell (suc n) =
      let more : found ≤ max found (named cell + 1) = grind (arith, nat_tests) in
      let rest = not_less (max found (named cell + 1)) (cell + 1) n in
      omega (arith, more, rest)

  not_above :
      (found cell n : ℕ) → found ≤ states → cell + n ≤ states * w → top found cell n ≤ states
  not_above found cell zero low inside = low
  not_above found cell (suc n) low inside =
      let here : named cell < states = has.below cell (omega arith) in
      let more : max found (named cell + 1) ≤ states = grind (arith, nat_tests, here) in
      not_above (max found (named cell + 1)) (cell + 1) n more (omega arith)

  each_below : (found cell n k : ℕ) → cell ≤ k → k < cell + n → named k < top found cell n
  each_below found cell zero k low high = absurd (omega arith)
  each_below found cell (suc n) k low high =
      by_place (cell == k) refl (λ from. each_below (max found (named cell + 1)) (cell + 1) n k from (omega arith))
    where
      by_place :
          (t : Bool) → (cell == k) ≡ t → (cell + 1 ≤ k → named k < top (max found (named cell + 1)) (cell + 1) n)
          → named k < top found cell (suc n)
      by_place true test rest_below =
          let same : cell ≡ k = grind (arith, nat_tests, test) in
          let more : named cell + 1 ≤ max found (named cell + 1) = grind (arith, nat_tests) in
          let rest = not_less (max found (named cell + 1)) (cell + 1) n in
          let here : named cell ≡ named k = ap named same in
          omega (arith, more, rest, here)
      by_place false test rest_below =
          let other : cell < k = grind (arith, nat_tests, test, low) in
          rest_below (omega arith)

  abbrev next : ℕ → ℕ
  next b = top b 0 (b * w)

  with_all : (b : ℕ) → b ≤ states → with_all_named bytes m (rows_from b) ≡ rows_from (next b)
  with_all b le =
      let count : cell_count m (rows_from b) ≡ b * w = let plain : b + 0 ≡ b = omega arith in ap (λ n. n * w) plain in
      ap (λ n. fold (with_named bytes m (rows_from b)) (rows_from b) (range_with_len 0 n)) count
      ∙ all_named b b 0 (b * w) le (omega arith)

  next_above : (b : ℕ) → b ≤ states → next b ≤ states
  next_above b le =
      let rows : b * w ≤ states * w = mul-le-mul_right w le in
      not_above b 0 (b * w) le (omega (arith, rows))

  next_grows : (b : ℕ) → 0 < b → b < states → b < next b
  next_grows b some more = by_size (nat_lt b (next b)) refl
    where
      by_size : (t : Bool) → nat_lt b (next b) ≡ t → b < next b
      by_size true test = grind (arith, nat_tests, test)
      by_size false test =
          let le : next b ≤ b = grind (arith, nat_tests, test) in
          absurd (has.reached b some more (λ cell below. let lower = each_below b 0 (b * w) cell (omega arith) (omega arith) in omega (arith, le, lower)))

  closed_by : (b n : ℕ) → b ≤ states → next b ≡ n → are_closed bytes m (rows_from b) ≡ (b == n)
  closed_by b n le is =
      let after : Rows → Bool = λ r. (b == r.behind) && (0 == r.before) in
      ap after (with_all b le) ∙ ap (λ k. (b == k) && true) is ∙ plain (b == n)
    where
      plain : (t : Bool) → (t && true) ≡ t
      plain true = refl
      plain false = refl

  found :
      (turns b : ℕ) → 0 < b → b ≤ states → states < b + turns
      → closed_rows bytes m turns (rows_from b) ≡ rows_from states
  unfolding closed_rows
  found zero b some le far = absurd (omega arith)
  found (suc turns) b some le far =
      by_rest (b == states) refl (λ grows. found turns (next b) (omega (arith, grows)) (next_above b le) (omega (arith, grows)))
    where
      after : Bool → Rows
      after t = elim t [
        | true ↦ rows_from b
        | false ↦ closed_rows bytes m turns (with_all_named bytes m (rows_from b))
      ]

      by_rest :
          (t : Bool) → (b == states) ≡ t → (b < next b → closed_rows bytes m turns (rows_from (next b)) ≡ rows_from states)
          → closed_rows bytes m (suc turns) (rows_from b) ≡ rows_from states
      by_rest true test rest =
          let all : b ≡ states = grind (arith, nat_tests, test) in
          let low = not_less b 0 (b * w) in
          let high = next_above b le in
          let same : next b ≡ b = omega (arith, low, high, all) in
          let stops : are_closed bytes m (rows_from b) ≡ true = closed_by b b le same ∙ grind (arith, nat_tests) in
          ap after stops ∙ ap rows_from all
      by_rest false test rest =
          let more : b < states = grind (arith, nat_tests, test, le) in
          let grows = next_grows b some more in
          let goes_on : are_closed bytes m (rows_from b) ≡ false = closed_by b (next b) le refl ∙ grind (arith, nat_tests, grows) in
          ap after goes_on ∙ ap (closed_rows bytes m turns) (with_all b le) ∙ rest grows

  rows_found : rows_of bytes m ≡ rows_from states
  unfolding rows_of
  rows_found =
      let few = has.few in
      let some = has.some in
      found 65536 1 (omega arith) (omega (arith, some)) (omega (arith, few))

  count_is : cell_count m (rows_from states) ≡ states * w
  count_is = let plain : states + 0 ≡ states = omega arith in ap (λ n. n * w) plain

  none_missing_index : missing_index bytes m (rows_from states) ≡ None
  none_missing_index =
      none_found (λ cell. not (has_index bytes m (rows_from states) cell)) 0 (cell_count m (rows_from states)) (λ cell from below.
      ap not (index_there states cell (omega arith) (omega (arith, count_is, below))))

  none_missing_entry : missing_entry bytes m (rows_from states) ≡ None
  none_missing_entry =
      none_found (λ cell. not (has_entry bytes m (rows_from states) cell)) 0 (cell_count m (rows_from states)) (λ cell from below.
      ap not (entry_there states cell (omega arith) (omega (arith, count_is, below))))

  -- the reader finds the rows of all states
  pub rows_are_read : whole_rows bytes m (rows_of bytes m) ≡ Ok (rows_from states)
  unfolding whole_rows
  rows_are_read =
      ap (λ (rows : Rows). whole_rows bytes m rows) rows_found
      ∙ ap (λ (o : Option ℕ). elim o [
        | Some cell ↦ Err (fault_at KERN PastEnd (row_place m (rows_from states) cell))
        | None ↦ elim (missing_entry bytes m (rows_from states)) [
          | Some cell ↦ Err (fault_at KERN PastEnd (entry_place bytes m (rows_from states) cell))
          | None ↦ Ok (rows_from states)
        ]
      ]) none_missing_index
      ∙ ap (λ (o : Option ℕ). elim o [
        | Some cell ↦ Err (fault_at KERN PastEnd (entry_place bytes m (rows_from states) cell))
        | None ↦ Ok (rows_from states)
      ]) none_missing_entry
