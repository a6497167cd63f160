-- Lists of exactly those numbers of which something holds.
use Rattle.std.proofs.Common.{◌≡◌, ℕ, ◌+◌, ◌<◌, ◌≤◌, ◌⊎◌, inl, inr, Bool, true, false, cond, List, [], ◌∷◌, ◌++◌, subst, sym, ap, ◌∙◌, refl, arith}
use Rattle.std.specs.List.{Contains}
use Rattle.std.proofs.lemmas.Bool.{cases_lt}
use Rattle.std.proofs.lemmas.List.Elements.{All-push, All-weaker, Contains-append_left, Contains-push}
use Rattle.std.proofs.lemmas.List.Quantifiers.{all_pairs_push}
use Rattle.aat_findings.specs.Reached.{AreExactly}

-- what is not true is false
pub not_true : (b : Bool) → (b ≡ true → ⊥) → b ≡ false
not_true false not = refl
not_true true not = absurd (not refl)

-- of what holds of the same numbers, they are the same lists
pub exactly_same : (P Q : ℕ → Type 0) (xs : List ℕ) → ((n : ℕ) → P n → Q n) → ((n : ℕ) → Q n → P n) → AreExactly P xs
    → AreExactly Q xs
exactly_same P Q xs to from are = record {
  rising = are.rising;
  sound = All-weaker P Q to xs are.sound;
  each = λ n holds. are.each n (from n holds);
}

module _ (test : ℕ → Bool) (n : ℕ) (xs : List ℕ) where
  abbrev Passes : ℕ → ℕ → Type 0
  Passes bound m = (m < bound) × (test m ≡ true)

  later : (m : ℕ) → Passes n m → Passes (n + 1) m
  later m (below, passes) = (omega arith, passes)

  each_true : AreExactly (Passes n) xs → (m : ℕ) → Passes (n + 1) m → (m < n) ⊎ (n ≤ m) → Contains (xs ++ n ∷ []) m
  each_true are m (below, passes) (inl lt) = Contains-append_left xs (n ∷ []) m (are.each m (lt, passes))
  each_true are m (below, passes) (inr le) =
      let same : n ≡ m = omega arith in
      subst (λ (k : ℕ). Contains (xs ++ n ∷ []) k) same (Contains-push xs n)

  each_false : AreExactly (Passes n) xs → test n ≡ false → (m : ℕ) → Passes (n + 1) m → (m < n) ⊎ (n ≤ m)
      → Contains xs m
  each_false are fails m (below, passes) (inl lt) = are.each m (lt, passes)
  each_false are fails m (below, passes) (inr le) =
      let same : n ≡ m = omega arith in
      let clash : false ≡ true = sym fails ∙ ap test same ∙ passes in cc

  -- one number more, which is kept where it passes a test
  pub exactly_more : (b : Bool) → test n ≡ b → AreExactly (λ m. (m < n) × (test m ≡ true)) xs
      → AreExactly (λ m. (m < n + 1) × (test m ≡ true)) (cond b (xs ++ n ∷ []) xs)
  exactly_more true passes are = record {
    rising = all_pairs_push (λ x y. x < y) xs n are.rising (λ k d within. (are.sound k d within).0);
    sound = All-push (Passes (n + 1)) xs n (All-weaker (Passes n) (Passes (n + 1)) later xs are.sound) (omega arith, passes);
    each = λ m holds. each_true are m holds (cases_lt m n);
  }
  exactly_more false fails are = record {
    rising = are.rising;
    sound = All-weaker (Passes n) (Passes (n + 1)) later xs are.sound;
    each = λ m holds. each_false are fails m holds (cases_lt m n);
  }

-- no number is below 0
pub exactly_none : (test : ℕ → Bool) (xs : List ℕ) → xs ≡ [] → AreExactly (λ m. (m < 0) × (test m ≡ true)) xs
exactly_none test xs none = subst (λ (l : List ℕ). AreExactly (λ m. (m < 0) × (test m ≡ true)) l) (sym none) (record {
  rising = λ i j d lt within. absurd (omega arith);
  sound = λ i d within. absurd (omega arith);
  each = λ m (below, passes). absurd (omega arith);
})
