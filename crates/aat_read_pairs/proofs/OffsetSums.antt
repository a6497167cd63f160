-- The value of two classes is that of their offsets, which are added up.
use Rattle.std.proofs.Common.{◌≡◌, ℕ, suc, ◌+◌, ◌*◌, ◌-◌, ◌/◌, ◌%◌, ◌<◌, ◌≤◌, ◌⊎◌, inl, inr, List, length, ℤ, pos, Bool, true, false, cond, Option, Some, None, refl, sym, ap, ◌∙◌, arith}
use Rattle.std.specs.Prelude.{nat_eq, nat_lt, ◌&&◌, slice_index_or}
use Rattle.std.proofs.Math.Nat.{div-add-mod, mul_assoc, mul_comm, suc-mul}
use Rattle.std.proofs.lemmas.Bool.{cases_lt, cases_eq, eq-eqb, ne_eqb, lt-ltb, le-ltb, ltb-true, ltb-false, eqb-true, and_parts, cond-true, cond-false}
use Rattle.std.proofs.lemmas.List.{get_or_past}
use Rattle.std.proofs.lemmas.List.FromFn.{get_or-map-range_with_len, length-map-range_with_len}
use Rattle.aat_bytes.specs.Numbers.{be16, signed16}
use Rattle.aat_kerning_tables.specs.Classes.{value_of_classes}
use Rattle.aat_read_pairs.specs.KernClasses.{array_place, class_of, columns_of, grid_value, grid_values, value_count}
use Rattle.aat_read_pairs.specs.PairLaws.{value_of_offsets}
use Rattle.aat_read_pairs.specs.declared.kern_classes.KernGrid.{KernGrid}
use Rattle.aat_read_pairs.specs.declared.kern_classes.Side.TheVariants.{Left, Right}

-- a choice of one value or none that is a value
taken : (b : Bool) (x y : ℕ) → cond b (Some x) None ≡ Some y → (b ≡ true) × (x ≡ y)
taken true x y is = (refl, cc)
taken false x y is = cc

refused : (b : Bool) (o : Option ℕ) (y : ℕ) → cond b None o ≡ Some y → (b ≡ false) × (o ≡ Some y)
refused true o y is = cc
refused false o y is = (refl, is)

-- a left offset that has a class: none, or that of a row
record IsRow (grid : KernGrid) (offset class : ℕ) : Type 0 where
  row : ℕ
  behind : class ≡ suc row
  place : offset ≡ grid.array + grid.width * row
  some : nat_eq offset 0 ≡ false

module _ (bytes : List ℕ) (grid : KernGrid) (even : grid.width ≡ 2 * columns_of grid) (wide : 0 < columns_of grid) where
  -- a value of the array
  array_at :
      (e : ℕ)
      → slice_index_or (grid_values bytes grid) (columns_of grid + e) (pos 0)
      ≡ cond (nat_lt (length bytes) (array_place grid + 2 * e + 2)) (pos 0) (signed16 (be16 bytes (array_place grid + 2 * e)))
  array_at e = elim (cases_lt e ((length bytes - array_place grid) / 2)) [
    | inl within ↦
        let n : ℕ = value_count bytes grid in
        let below : columns_of grid + e < n = omega (arith, within) in
        let here : grid_value bytes grid (columns_of grid + e) ≡ signed16 (be16 bytes (array_place grid + 2 * e)) =
        let past : nat_lt (columns_of grid + e) (columns_of grid) ≡ false = le-ltb (columns_of grid + e) (columns_of grid) (omega arith) in
        let left : columns_of grid + e - columns_of grid ≡ e = omega arith in
        rw (past, left) refl in
        let inside : nat_lt (length bytes) (array_place grid + 2 * e + 2) ≡ false = le-ltb (length bytes) (array_place grid + 2 * e + 2) (omega (arith, within)) in
        get_or-map-range_with_len (grid_value bytes grid) 0 n (columns_of grid + e) (columns_of grid + e) (pos 0) below (omega arith)
        ∙ here
        ∙ sym (cond-false (nat_lt (length bytes) (array_place grid + 2 * e + 2)) (pos 0) (signed16 (be16 bytes (array_place grid + 2 * e))) inside)
    | inr past ↦
        let n : ℕ = value_count bytes grid in
        let long : length (grid_values bytes grid) ≡ n = length-map-range_with_len (grid_value bytes grid) 0 n in
        let outside : nat_lt (length bytes) (array_place grid + 2 * e + 2) ≡ true = lt-ltb (length bytes) (array_place grid + 2 * e + 2) (omega (arith, past)) in
        get_or_past (grid_values bytes grid) (columns_of grid + e) (pos 0) (omega (arith, long, past))
        ∙ sym (cond-true (nat_lt (length bytes) (array_place grid + 2 * e + 2)) (pos 0) (signed16 (be16 bytes (array_place grid + 2 * e))) outside)
  ]

  -- a value of class 0
  quiet : (i : ℕ) → i < columns_of grid → slice_index_or (grid_values bytes grid) i (pos 0) ≡ pos 0
  quiet i below =
      let n : ℕ = value_count bytes grid in
      let first : nat_lt i (columns_of grid) ≡ true = lt-ltb i (columns_of grid) below in
      get_or-map-range_with_len (grid_value bytes grid) 0 n i i (pos 0) (omega (arith, below)) (omega arith)
      ∙ cond-true (nat_lt i (columns_of grid)) (pos 0) (signed16 (be16 bytes (array_place grid + 2 * (i - columns_of grid)))) first

  -- the value at a place, and 0 past the end
  at_place : ℕ → ℤ
  at_place place = cond (nat_lt (length bytes) (place + 2)) (pos 0) (signed16 (be16 bytes place))

  places :
      (start array left right in_rows p b : ℕ)
      → in_rows ≡ 2 * p → left ≡ array + in_rows → right ≡ 2 * b → start + array + 2 * (p + b) ≡ start + left + right
  places start array left right in_rows p b rows left_is right_is = omega arith

  -- the value of a row and a column is that of the sum of their offsets
  of_row :
      (row left right b : ℕ)
      → left ≡ grid.array + grid.width * row → nat_eq left 0 ≡ false → right ≡ 2 * b → b < columns_of grid
      → value_of_classes (grid_values bytes grid) (columns_of grid) (suc row) b ≡ value_of_offsets bytes grid.start left right
  unfolding at_place
  of_row row left right b left_is some right_is below =
      let known : nat_lt b (columns_of grid) ≡ true = lt-ltb b (columns_of grid) below in
      let p : ℕ = row * columns_of grid in
      let by_suc : suc row * columns_of grid ≡ row * columns_of grid + columns_of grid = suc-mul row (columns_of grid) in
      let index : suc row * columns_of grid + b ≡ columns_of grid + (row * columns_of grid + b) = omega (arith, by_suc) in
      let in_rows : grid.width * row ≡ 2 * (row * columns_of grid) =
      ap (λ w. w * row) even ∙ mul_assoc 2 (columns_of grid) row ∙ ap (λ n. 2 * n) (mul_comm (columns_of grid) row) in
      let place : array_place grid + 2 * (row * columns_of grid + b) ≡ grid.start + left + right =
      places grid.start grid.array left right (grid.width * row) (row * columns_of grid) b in_rows left_is right_is in
      cond-true (nat_lt b (columns_of grid)) (slice_index_or (grid_values bytes grid) (suc row * columns_of grid + b) (pos 0)) (pos 0) known
      ∙ ap (λ i. slice_index_or (grid_values bytes grid) i (pos 0)) index
      ∙ array_at (row * columns_of grid + b)
      ∙ ap at_place place
      ∙ sym (cond-false (nat_eq left 0) (pos 0) (at_place (grid.start + left + right)) some)

  -- class 0 kerns nothing
  of_none :
      (right b : ℕ) → b < columns_of grid
      → value_of_classes (grid_values bytes grid) (columns_of grid) 0 b ≡ value_of_offsets bytes grid.start 0 right
  of_none right b below =
      let known : nat_lt b (columns_of grid) ≡ true = lt-ltb b (columns_of grid) below in
      cond-true (nat_lt b (columns_of grid)) (slice_index_or (grid_values bytes grid) (0 * columns_of grid + b) (pos 0)) (pos 0) known
      ∙ quiet (0 * columns_of grid + b) (omega (arith, below))

  -- a left offset that has a class
  left_class :
      (offset class : ℕ) → class_of grid Left offset ≡ Some class
      → ((offset ≡ 0) × (class ≡ 0)) ⊎ IsRow grid offset class
  left_class offset class is = elim (cases_eq offset 0) [
    | inl none ↦
        let zero_is : Some 0 ≡ Some class = sym (cond-true (nat_eq offset 0) (Some 0) _ (eq-eqb offset 0 none)) ∙ is in
        inl (none, cc)
    | inr other ↦
        let some : nat_eq offset 0 ≡ false = ne_eqb offset 0 other in
        let rest = sym (cond-false (nat_eq offset 0) (Some 0) (cond (nat_lt offset grid.array) None (cond (nat_eq ((offset - grid.array) % grid.width) 0) (Some ((offset - grid.array) / grid.width + 1)) None)) some) ∙ is in
        let behind = refused (nat_lt offset grid.array) _ class rest in
        let whole = taken (nat_eq ((offset - grid.array) % grid.width) 0) ((offset - grid.array) / grid.width + 1) class behind.1 in
        let low : grid.array ≤ offset = ltb-false offset grid.array behind.0 in
        let no_rest : (offset - grid.array) % grid.width ≡ 0 = eqb-true ((offset - grid.array) % grid.width) 0 whole.0 in
        let divided : grid.width * ((offset - grid.array) / grid.width) + (offset - grid.array) % grid.width ≡ offset - grid.array = div-add-mod (offset - grid.array) grid.width in
        inr (record {
          row = (offset - grid.array) / grid.width;
          behind = sym whole.1 ∙ omega arith;
          place = omega (arith, low, no_rest, divided);
          some = some;
        })
  ]

  -- a right offset that has a class
  right_class :
      (offset class : ℕ) → class_of grid Right offset ≡ Some class → (offset ≡ 2 * class) × (class < columns_of grid)
  right_class offset class is =
      let whole = taken (nat_lt offset grid.width && nat_eq (offset % 2) 0) (offset / 2) class is in
      let both = and_parts (nat_lt offset grid.width) (nat_eq (offset % 2) 0) whole.0 in
      let below : offset < grid.width = ltb-true offset grid.width both.0 in
      let no_rest : offset % 2 ≡ 0 = eqb-true (offset % 2) 0 both.1 in
      (omega (arith, no_rest, whole.1), omega (arith, below, whole.1, no_rest, even))

  -- the value of two classes is that of the sum of their offsets
  pub of_classes :
      (left right a b : ℕ)
      → class_of grid Left left ≡ Some a → class_of grid Right right ≡ Some b
      → value_of_classes (grid_values bytes grid) (columns_of grid) a b ≡ value_of_offsets bytes grid.start left right
  of_classes left right a b left_is right_is =
      let column = right_class right b right_is in
      elim (left_class left a left_is) [
        | inl none ↦
            ap (λ n. value_of_classes (grid_values bytes grid) (columns_of grid) n b) none.1
            ∙ of_none right b column.1
            ∙ ap (λ n. value_of_offsets bytes grid.start n right) (sym none.0)
        | inr row ↦
            ap (λ n. value_of_classes (grid_values bytes grid) (columns_of grid) n b) row.behind
            ∙ of_row row.row left right b row.place row.some column.0 column.1
      ]
