-- Left classes that kern nothing.
use Rattle.std.proofs.Common.{◌≡◌, ◌∙◌, ℕ, ℤ, pos, ◌+◌, ◌*◌, ◌/◌, ◌<◌, ◌≤◌, ◌⊎◌, inl, inr, List, Bool, length, slice_index_or, false, ap, sym, min, arith}
use Rattle.std.proofs.Math.Nat.{div-lt_iff_lt-mul}
use Rattle.std.proofs.lemmas.Bool.{cases_lt}
use Rattle.std.proofs.lemmas.Bool.Decides.{nat_tests}
use Rattle.std.proofs.lemmas.List.{get_or_past}
use Rattle.aat_kerning_tables.specs.Classes.{value_of_classes}
use Rattle.aat_kerning_tables.specs.inside.Rows.{HoldsRows, IsQuiet}

module _ (values : List ℤ) (right_count left n : ℕ)
    (before : (right : ℕ) → right < n → value_of_classes values right_count left right ≡ pos 0) where
  zero_at : (value : ℤ) → value ≡ value_of_classes values right_count left n → value ≡ pos 0 → (right : ℕ) → (right < n) ⊎ (n ≤ right) → right < n + 1 → value_of_classes values right_count left right ≡ pos 0
  zero_at value is none right (inl lt) within = before right lt
  zero_at value is none right (inr le) within =
      let here : right ≡ n = omega arith in
      ap (λ r. value_of_classes values right_count left r) here ∙ sym is ∙ none

  -- one right class more whose value is 0
  pub zero_more : (value : ℤ) → value ≡ value_of_classes values right_count left n → value ≡ pos 0 → (right : ℕ) → right < n + 1 → value_of_classes values right_count left right ≡ pos 0
  zero_more value is none right within = zero_at value is none right (cases_lt right n) within

  zero_by : right_count ≤ n → (right : ℕ) → (right < right_count) ⊎ (right_count ≤ right) → value_of_classes values right_count left right ≡ pos 0
  zero_by all right (inl lt) = before right (omega arith)
  zero_by all right (inr le) = grind (arith, nat_tests)

  -- a left class is quiet whose value is 0 for each right class
  pub zero_below : right_count ≤ n → IsQuiet values right_count left
  zero_below all right = zero_by all right (cases_lt right right_count)

module _ (values : List ℤ) (right_count : ℕ) where
  beyond_at : (left : ℕ) → (right : ℕ) → (right_count ≤ right) ⊎ (length values ≤ left * right_count + right) → value_of_classes values right_count left right ≡ pos 0
  beyond_at left right (inl le) = grind (arith, nat_tests)
  beyond_at left right (inr le) = grind (arith, nat_tests, get_or_past values (left * right_count + right) (pos 0) le)

  beyond : (left right rows : ℕ) → left ≤ 65535 → rows ≤ left → HoldsRows (length values) right_count rows → (right < right_count) ⊎ (right_count ≤ right) → value_of_classes values right_count left right ≡ pos 0
  beyond left right rows small le all (inl lt) = beyond_at left right (inr (all left right small le lt))
  beyond left right rows small le all (inr past) = beyond_at left right (inl past)

  module _ (rows : ℕ) (told : List Bool) (left : ℕ) (small : left ≤ 65535) (n : ℕ) (end : rows ≤ n)
      (quiet : (k : ℕ) → k < n → slice_index_or told k false ≡ false → IsQuiet values right_count k)
      (all : HoldsRows (length values) right_count rows) (none : slice_index_or told left false ≡ false) where
    -- a left class that is told to kern nothing kerns nothing, nor does one past the last that has a value
    pub told_rows : (left < n) ⊎ (n ≤ left) → IsQuiet values right_count left
    told_rows (inl lt) right = quiet left lt none right
    told_rows (inr le) right = beyond left right rows small (omega arith) all (cases_lt right right_count)

-- a class past the quotient stands behind all values
past_quotient : (count right_count left : ℕ) → 0 < right_count → count / right_count < left → count ≤ left * right_count
past_quotient count right_count left some lt =
    let past : count < left * right_count = (div-lt_iff_lt-mul some).0 lt in
    omega (arith, past)

by_min : (count right_count : ℕ) → 0 < right_count → (left right : ℕ) → left ≤ 65535 → min (count / right_count) 65535 + 1 ≤ left → (count / right_count < 65535) ⊎ (65535 ≤ count / right_count) → count ≤ left * right_count + right
by_min count right_count some left right small le (inl lt) =
    let past = past_quotient count right_count left some (omega arith) in
    omega (arith, past)
by_min count right_count some left right small le (inr high) = absurd (omega arith)

-- so many values for each left class stand before the class that is one past their quotient
pub rows_hold : (count right_count : ℕ) → 0 < right_count → HoldsRows count right_count (min (count / right_count) 65535 + 1)
rows_hold count right_count some left right small le lt = by_min count right_count some left right small le (cases_lt (count / right_count) 65535)
