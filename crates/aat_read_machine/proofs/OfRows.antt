-- The rules of cells are those of rows as they stand.
use Rattle.std.proofs.Common.{◌≡◌, ℕ, zero, suc, ◌+◌, ◌-◌, ◌*◌, ◌/◌, ◌<◌, ◌≤◌, true, List, [], ◌∷◌, ◌++◌, length, get_or, map, take, drop, Some, None, cond, refl, sym, ap, ◌∙◌, zero-add, arith}
use Rattle.std.specs.Int.{w16, from_be_bytes}
use Rattle.std.specs.List.{flat_map, range_with_len}
use Rattle.std.specs.Prelude.{nat_lt, slice_get}
use Rattle.std.proofs.lemmas.Bool.{leb-true}
use Rattle.std.proofs.lemmas.Bool.Decides.{nat_tests}
use Rattle.std.proofs.lemmas.List.{drop-drop, drop-take, length-drop, length-take-le, take-take}
use Rattle.std.proofs.lemmas.List.FromFn.{get_or-map-range_with_len, length-map-range_with_len}
use Rattle.aat_bytes.specs.Numbers.{be16}
use Rattle.aat_machine_tables.specs.Rows.{NamesEntries, entry_of_cell, index_in, rule_of_cell, rules_of_rows}
use Rattle.aat_read_machine.specs.Entries.{entry_at}
use Rattle.aat_read_machine.specs.StateArray.{AreIndexed, StateArray, entry_place, has_index, index_place, rule_of, rules_of}
use Rattle.aat_read_machine.specs.inside.OfRows.{AreNamed, entries_of}

below_test : (a b : ℕ) → a < b → nat_lt a b ≡ true
below_test a b lt = grind (arith, nat_tests)

-- lists of one element each are the elements
singles :
    {X : Type 0} (f : ℕ → List X) (g : ℕ → X) (a n : ℕ) → ((i : ℕ) → a ≤ i → i < a + n → g i ∷ [] ≡ f i)
    → map g (range_with_len a n) ≡ flat_map f (range_with_len a n)
singles f g a zero each = refl
singles f g a (suc n) each =
    ap (λ xs. g a ∷ xs) (singles f g (a + 1) n (λ i low high. each i (omega arith) (omega arith)))
    ∙ ap (λ xs. xs ++ flat_map f (range_with_len (a + 1) n)) (each a (omega arith) (omega arith))

-- an element that is there
there : {X : Type 0} (xs : List X) (i : ℕ) (d : X) → i < length xs → slice_get xs i ≡ Some (get_or xs i d)
there [] i d lt = absurd (omega arith)
there (x ∷ xs) zero d lt = refl
there (x ∷ xs) (suc i) d lt = there xs i d (omega arith)

module _ (m : StateArray) (cells : ℕ) where
  -- where rows end
  pub rows_inside : 0 < cells → AreIndexed m cells → m.states + 2 * cells ≤ length m.bytes
  unfolding has_index
  rows_inside some indexed =
      let last : m.states + 2 * (cells - 1) + 2 ≤ length m.bytes = leb-true _ _ (indexed (cells - 1) (omega arith)) in
      omega (arith, last, some)

  module _ (inside : m.states + 2 * cells ≤ length m.bytes) where
    -- rows have two bytes for each cell
    rows_length : length (take (2 * cells) (drop m.states m.bytes)) ≡ 2 * cells
    rows_length = length-take-le (2 * cells) (drop m.states m.bytes) (omega (arith, inside, length-drop m.states m.bytes))

    pub cells_are : length (take (2 * cells) (drop m.states m.bytes)) / 2 ≡ cells
    cells_are = omega (arith, rows_length)

    -- a cell has the index that stands there
    pub index_is : (cell : ℕ) → cell < cells → index_in (take (2 * cells) (drop m.states m.bytes)) cell ≡ be16 m.bytes (index_place m cell)
    index_is cell below =
        let apart : 2 * cells ≡ 2 * cell + 2 * (cells - cell) = omega (arith, below) in
        let enough : 2 ≤ 2 * (cells - cell) = omega (arith, below) in
        let part : take 2 (drop (2 * cell) (take (2 * cells) (drop m.states m.bytes))) ≡ take 2 (drop (m.states + 2 * cell) m.bytes) =
        ap (λ n. take 2 (drop (2 * cell) (take n (drop m.states m.bytes)))) apart
        ∙ ap (take 2) (drop-take (2 * cell) (2 * (cells - cell)) (drop m.states m.bytes))
        ∙ take-take 2 (2 * (cells - cell)) (drop (2 * cell) (drop m.states m.bytes)) enough
        ∙ ap (take 2) (drop-drop (2 * cell) m.states m.bytes) in
        ap (from_be_bytes w16) part

    module _ (count : ℕ) (named : AreNamed m cells count) where
      -- each cell names one of so many entries
      pub names : NamesEntries count (take (2 * cells) (drop m.states m.bytes))
      names cell below =
          let within : cell < cells = omega (arith, below, cells_are) in
          rw (index_is cell within) (named cell within)

      module _ {T : Type 0} (extra_at : List ℕ → ℕ → T) where
        entry_is : (cell : ℕ) → cell < cells
            → entry_of_cell (entries_of extra_at m count) (take (2 * cells) (drop m.states m.bytes)) cell
            ≡ Some (entry_at extra_at m.bytes (entry_place m cell))
        entry_is cell below =
            let test : nat_lt cell (length (take (2 * cells) (drop m.states m.bytes)) / 2) ≡ true = below_test _ _ (omega (arith, below, cells_are)) in
            let index = be16 m.bytes (index_place m cell) in
            let entry = λ (i : ℕ). entry_at extra_at m.bytes (m.entries + m.entry_size * i) in
            let d = entry 0 in
            let long : length (entries_of extra_at m count) ≡ count = length-map-range_with_len entry 0 count in
            let low : index < count = named cell below in
            ap (λ b. cond b (slice_get (entries_of extra_at m count) (index_in (take (2 * cells) (drop m.states m.bytes)) cell)) None) test
            ∙ ap (slice_get (entries_of extra_at m count)) (index_is cell below)
            ∙ there (entries_of extra_at m count) index d (omega (arith, long, low))
            ∙ ap Some (get_or-map-range_with_len entry 0 count index index d low (zero-add index))

        -- the rules of the cells
        pub rules_are : rules_of extra_at m cells
            ≡ rules_of_rows m.class_count (entries_of extra_at m count) (take (2 * cells) (drop m.states m.bytes))
        rules_are =
            let rule = λ (cell : ℕ). rule_of_cell m.class_count cell (entry_of_cell (entries_of extra_at m count) (take (2 * cells) (drop m.states m.bytes)) cell) in
            singles rule (rule_of extra_at m) 0 cells (λ cell from below. sym (ap (rule_of_cell m.class_count cell) (entry_is cell (rw zero-add at below))))
            ∙ ap (λ n. flat_map rule (range_with_len 0 n)) (sym cells_are)
