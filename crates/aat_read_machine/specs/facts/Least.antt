-- The least number that passes a test.
use Rattle.std.proofs.Common.{◌≡◌, ℕ, zero, suc, ◌+◌, ◌≤◌, ◌⊎◌, inl, inr, Bool, true, false, refl, sym, ◌∙◌, subst, arith}
use Rattle.std.proofs.lemmas.Bool.{cases_lt}
use Rattle.aat_read_machine.specs.StateArray.{least}

-- what holds of the least number that passes
pub record Least (p : ℕ → Bool) (n a k : ℕ) : Type 0 where
  pub low : a ≤ k
  pub high : k ≤ a + n
  pub holds : (k ≡ a + n) ⊎ (p k ≡ true)
  pub least : (j : ℕ) → a ≤ j → j ≤ a + n → p j ≡ true → k ≤ j

module _ (p : ℕ → Bool) where
  after_fall : (a j : ℕ) → p a ≡ false → a ≤ j → p j ≡ true → a + 1 ≤ j
  after_fall a j fails from passes = elim (cases_lt a j) [
    | inl lt ↦ omega arith
    | inr le ↦
        let same : a ≡ j = omega arith in
        let fails_there : p j ≡ false = subst (λ (i : ℕ). p i ≡ false) same fails in
        absurd (let clash : true ≡ false = sym passes ∙ fails_there in cc)
  ]

  least_by :
      (n a : ℕ) (b : Bool) → p a ≡ b → Least p n (a + 1) (least p n (a + 1))
      → Least p (suc n) a (elim b [ true ↦ a | false ↦ least p n (a + 1) ])
  least_by n a true passes later = record {
    low = omega arith;
    high = omega arith;
    holds = inr passes;
    least = λ j from to holds. from;
  }
  least_by n a false fails later = record {
    low = omega (arith, later.low);
    high = omega (arith, later.high);
    holds = elim later.holds [ inl last ↦ inl (omega (arith, last)) | inr passes ↦ inr passes ];
    least = λ j from to passes. later.least j (after_fall a j fails from passes) (omega arith) passes;
  }

  pub is_least : (n a : ℕ) → Least p n a (least p n a)
  unfolding least
  is_least zero a = record {
    low = omega arith;
    high = omega arith;
    holds = inl (omega arith);
    least = λ j from to passes. from;
  }
  is_least (suc n) a = least_by n a (p a) refl (is_least n (a + 1))
