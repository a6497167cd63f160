-- The first element that does not rise, as a loop over a range looks for it.
use Rattle.std.proofs.Common.{◌≡◌, ℕ, zero, suc, ◌+◌, ◌-◌, ◌<◌, ◌≤◌, map, Option, Some, None, refl, sym, ◌∙◌, arith}
use Rattle.std.specs.Prelude.{nat_lt, if◌then◌else◌}
use Rattle.std.specs.List.{range_with_len}
use Rattle.std.proofs.lemmas.Bool.{lt-ltb, le-ltb, cond-true, cond-false}
use Rattle.aat_lookup.specs.Keys.{fall_after, first_fall}

module _ {X : Type 0} (key : X → ℕ) (f : ℕ → X) where
  -- the falls of the elements from one on
  abbrev pub falls_from : ℕ → ℕ → Option ℕ
  falls_from i n = fall_after key i (key (f (i - 1))) (map f (range_with_len i (n - i)))

  -- the look for a fall begins at the second element
  pub from_second : (n : ℕ) → falls_from 1 n ≡ first_fall key (map f (range_with_len 0 n))
  from_second zero = refl
  from_second (suc n) =
      let left : suc n - 1 ≡ n = omega arith in
      rw left refl

  from_here :
      (i n : ℕ) → i < n
      → falls_from i n
      ≡ (if nat_lt (key (f (i - 1))) (key (f i)) then falls_from (i + 1) n else Some i)
  from_here i n lt =
      let more : n - i ≡ suc (n - (i + 1)) = omega arith in
      let before : i + 1 - 1 ≡ i = omega arith in
      rw (more, before) refl

  -- an element that rises is passed
  pub goes_on :
      (i n : ℕ) (result : Option ℕ) → i < n → falls_from i n ≡ result → key (f (i - 1)) < key (f i)
      → falls_from (i + 1) n ≡ result
  goes_on i n result lt left rises =
      sym (cond-true (nat_lt (key (f (i - 1))) (key (f i))) (falls_from (i + 1) n) (Some i) (lt-ltb (key (f (i - 1))) (key (f i)) rises))
      ∙ sym (from_here i n lt) ∙ left

  -- an element that does not rise is the first
  pub falls :
      (i n : ℕ) (result : Option ℕ) → i < n → falls_from i n ≡ result → key (f i) ≤ key (f (i - 1))
      → Some i ≡ result
  falls i n result lt left low =
      sym (cond-false (nat_lt (key (f (i - 1))) (key (f i))) (falls_from (i + 1) n) (Some i) (le-ltb (key (f (i - 1))) (key (f i)) low))
      ∙ sym (from_here i n lt) ∙ left

  -- behind the last element there is none
  pub none_falls : (i n : ℕ) (result : Option ℕ) → n ≤ i → falls_from i n ≡ result → None ≡ result
  none_falls i n result past left =
      let none : n - i ≡ 0 = omega arith in
      let here : falls_from i n ≡ None = rw none refl in
      sym here ∙ left
