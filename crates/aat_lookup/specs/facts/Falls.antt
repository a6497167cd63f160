-- What does not fall rises.
use Rattle.std.proofs.Common.{◌≡◌, ℕ, zero, suc, ◌+◌, ◌<◌, List, [], ◌∷◌, length, get_or, Some, None, Option, Bool, true, false, refl, arith, cond, ltb}
use Rattle.std.proofs.lemmas.Bool.Decides.{nat_tests}
use Rattle.aat_lookup.specs.Keys.{IsRising, first_fall, fall_after}

-- a choice that is none was not the second
opened : (b : Bool) (o : Option ℕ) (n : ℕ) → cond b o (Some n) ≡ None → (b ≡ true) × (o ≡ None)
opened true o n h = (refl, h)
opened false o n h = cc

module _ {X : Type 0} (key : X → ℕ) where
  -- what never falls behind a key rises above it
  above_after :
      (n k : ℕ) (xs : List X)
      → fall_after key n k xs ≡ None
      → (j : ℕ) (d : X) → j < length xs → k < key (get_or xs j d)
  above_after n k [] none j d lt = absurd (omega arith)
  above_after n k (x ∷ xs) none zero d lt = let h = opened (ltb k (key x)) _ n none in grind (arith, nat_tests, h.0)
  above_after n k (x ∷ xs) none (suc j) d lt =
      let h = opened (ltb k (key x)) _ n none in
      let deeper : key x < key (get_or xs j d) = above_after (n + 1) (key x) xs h.1 j d (omega arith) in
      grind (arith, nat_tests, h.0)

  rising_after : (n k : ℕ) (xs : List X) → fall_after key n k xs ≡ None → IsRising key xs
  rising_after n k [] none i j d lt within = absurd (omega arith)
  rising_after n k (x ∷ xs) none i zero d lt within = absurd (omega arith)
  rising_after n k (x ∷ xs) none zero (suc j) d lt within =
      above_after (n + 1) (key x) xs (opened (ltb k (key x)) _ n none).1 j d (omega arith)
  rising_after n k (x ∷ xs) none (suc i) (suc j) d lt within =
      rising_after (n + 1) (key x) xs (opened (ltb k (key x)) _ n none).1 i j d (omega arith) (omega arith)

  -- what doesn't fall rises
  pub rising : (xs : List X) → first_fall key xs ≡ None → IsRising key xs
  rising [] none i j d lt within = absurd (omega arith)
  rising (x ∷ xs) none i zero d lt within = absurd (omega arith)
  rising (x ∷ xs) none zero (suc j) d lt within = above_after 1 (key x) xs none j d (omega arith)
  rising (x ∷ xs) none (suc i) (suc j) d lt within =
      rising_after 1 (key x) xs none i j d (omega arith) (omega arith)
