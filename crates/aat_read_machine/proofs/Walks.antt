-- Walks over the cells of rows.
use Rattle.std.proofs.Common.{◌≡◌, ℕ, ◌+◌, ◌-◌, ◌*◌, ◌<◌, ◌≤◌, true, not, None, cond, length, nat_le, sym, ap, ◌∙◌, below_more, zero-add, arith}
use Rattle.std.specs.Prelude.{◌&&◌, max}
use Rattle.std.proofs.Math.Nat.{mul-le-mul_right}
use Rattle.std.proofs.lemmas.Bool.{leb-true, le-leb}
use Rattle.aat_bytes.specs.Numbers.{be16}
use Rattle.aat_bytes.specs.facts.Ranges.{none_found}
use Rattle.aat_read_machine.specs.StateArray.{StateArray, entry_place, has_entry, has_index, index_place, missing_entry, state_count, states_named}
use Rattle.aat_read_machine.specs.declared.state_array.Walk.{Walk}
use Rattle.aat_read_machine.specs.inside.OfRows.{AreNamed}
use Rattle.aat_read_machine.specs.inside.Passed.{IsWalk, NameBelow, entry_states}
use Rattle.aat_read_machine.proofs.Counting.{cell_names, entry_by, few_more}

-- a row of one of so many states ends within them
pub row_within : (state count width : ℕ) → state < count → state * width + width ≤ count * width
row_within state count width below =
    let next : state + 1 ≤ count = omega arith in
    let wider : (state + 1) * width ≤ count * width = mul-le-mul_right width next in
    omega (arith, wider)

-- the end of such a row is near
pub row_small :
    (m : StateArray) (state count width : ℕ) → count ≤ state_count m → width < 65536 → state < count
    → state * width + width < 8589934592
row_small m state count width high narrow below =
    let few = few_more m count width high narrow in
    let within = row_within state count width below in
    omega (arith, few, within)

-- an index before one that is there is there
pub index_before : (m : StateArray) (cell last : ℕ) → cell ≤ last → has_index m last ≡ true → has_index m cell ≡ true
unfolding has_index
index_before m cell last le there = le-leb _ _ (omega (arith, le, leb-true _ _ there))

module _ (m : StateArray) where
  -- a cell names the states of its entry
  pub states_by_entry :
      (cell index : ℕ) → has_index m cell ≡ true → index ≡ be16 m.bytes (index_place m cell)
      → states_named m cell ≡ entry_states m index
  unfolding states_named has_entry
  states_by_entry cell index indexed is =
      ap (λ b. cond (b && nat_le (entry_place m cell + m.entry_size) (length m.bytes)) (be16 m.bytes (entry_place m cell) + 1) 0) indexed
      ∙ ap (λ i. cond (nat_le (m.entries + m.entry_size * i + m.entry_size) (length m.bytes)) (be16 m.bytes (m.entries + m.entry_size * i) + 1) 0) (sym is)

  module _ (cell index : ℕ) (old : Walk) (indexed : has_index m cell ≡ true) (walk : IsWalk m cell old)
      (is : index ≡ be16 m.bytes (index_place m cell)) where
    -- a cell of an entry that is known to tell nothing new
    pub nothing_new : index < old.passed → IsWalk m (cell + 1) old
    nothing_new lt =
        let named = states_by_entry cell index indexed is in
        record {
          low = walk.low;
          high = walk.high;
          named = below_more _ _ walk.named (omega (arith, named, walk.passed index lt));
          reached = below_more _ _ walk.reached (omega (arith, is, lt, walk.within));
          few = walk.few;
          passed = walk.passed;
          within = walk.within;
        }

    -- a cell of another entry
    pub one_more :
        (count reach passed : ℕ) → cell < old.count * m.class_count → index < 65536 → entry_states m index ≤ 65536
        → count ≡ max old.count (entry_states m index) → reach ≡ max old.reach (index + 1)
        → NameBelow m passed count → passed ≤ index + 1
        → IsWalk m (cell + 1) (record { count = count; reach = reach; passed = passed })
    one_more count reach passed below low few counted reached names within =
        let named = states_by_entry cell index indexed is in
        let high = cell_names m old.count cell walk.high below (omega (arith, named, few)) in
        record {
          low = omega (arith, counted, walk.low);
          high = omega (arith, counted, walk.high, high, named);
          named = below_more _ _ (λ k earlier. let before = walk.named k earlier in omega (arith, counted, before)) (omega (arith, counted, named));
          reached = below_more _ _ (λ k earlier. let before = walk.reached k earlier in omega (arith, reached, before)) (omega (arith, reached, is));
          few = omega (arith, reached, walk.few, low);
          passed = names;
          within = omega (arith, reached, within);
        }

  -- where the entries stand inside of which each cell names one, none is missing
  pub none_of_reach :
      (cells count : ℕ) → AreNamed m cells count → nat_le (m.entries + m.entry_size * count) (length m.bytes) ≡ true
      → missing_entry m cells ≡ None
  none_of_reach cells count named fits =
      none_found _ 0 cells (λ cell from below.
      let low = named cell (rw zero-add at below) in
      let last : count ≡ count - 1 + 1 = omega (arith, low) in
      let product : m.entry_size * count ≡ m.entry_size * (count - 1 + 1) = ap (λ n. m.entry_size * n) last in
      ap not (entry_by m cell (count - 1) (omega (arith, low)) (omega (arith, product, leb-true _ _ fits))))
