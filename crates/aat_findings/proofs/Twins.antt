-- Classes that a machine does not tell apart.
use Rattle.std.proofs.Common.{◌≡◌, ℕ, ◌+◌, ◌<◌, ◌≤◌, ◌⊎◌, inl, inr, List, [], ◌∷◌, ◌++◌, subst, sym, arith}
use Rattle.std.specs.List.{All, Contains}
use Rattle.std.proofs.lemmas.Bool.{cases_lt}
use Rattle.std.proofs.lemmas.List.Elements.{All-push, All-weaker, Contains-append_left, Contains-push}
use Rattle.std.proofs.lemmas.List.Quantifiers.{all_pairs_push}
use Rattle.aat_machine_tables.specs.Table.{TableValue}
use Rattle.aat_findings.specs.Alike.{AreAlike, AreTwins, IsTwin}

module _ {E : Type 0} (table : TableValue E) where
  -- no class is below 0
  pub twins_none : (pairs : List (ℕ × ℕ)) → pairs ≡ [] → AreTwins table pairs 0
  twins_none pairs none = subst (λ (l : List (ℕ × ℕ)). AreTwins table l 0) (sym none) (record {
    rising = λ i j d lt within. absurd (omega arith);
    below = λ i d within. absurd (omega arith);
    sound = λ i d within. absurd (omega arith);
    each = λ j k lt below alike. absurd (omega arith);
  })

  module _ (old new : List (ℕ × ℕ)) (class : ℕ) (before : AreTwins table old class) where
    rises : All (λ (p : ℕ × ℕ). p.1 < class + 1) old
    rises = All-weaker (λ (p : ℕ × ℕ). p.1 < class) (λ (p : ℕ × ℕ). p.1 < class + 1) (λ p below. omega arith) old before.below

    module _ (twin : ℕ) (is : IsTwin table (twin, class)) (pushed : new ≡ old ++ (twin, class) ∷ []) where
      each_by : (j k : ℕ) → j < k → (k < class) ⊎ (class ≤ k) → k < class + 1 → AreAlike table j k
          → (i : ℕ) × Contains (old ++ (twin, class) ∷ []) (i, k)
      each_by j k lt (inl less) below alike =
          let (i, here) = before.each j k lt less alike in
          (i, Contains-append_left old ((twin, class) ∷ []) (i, k) here)
      each_by j k lt (inr le) below alike =
          let same : class ≡ k = omega arith in
          (twin, subst (λ (n : ℕ). Contains (old ++ (twin, class) ∷ []) (twin, n)) same (Contains-push old (twin, class)))

      -- a class with a twin more
      pub twins_more : AreTwins table new (class + 1)
      twins_more = subst (λ (l : List (ℕ × ℕ)). AreTwins table l (class + 1)) (sym pushed) (record {
        rising = all_pairs_push (λ p q. p.1 < q.1) old (twin, class) before.rising (λ k d within. before.below k d within);
        below = All-push (λ (p : ℕ × ℕ). p.1 < class + 1) old (twin, class) rises (omega arith);
        sound = All-push (IsTwin table) old (twin, class) before.sound is;
        each = λ j k lt below alike. each_by j k lt (cases_lt k class) below alike;
      })

    module _ (none : (j : ℕ) → j < class → AreAlike table j class → ⊥) where
      still_by : (j k : ℕ) → j < k → (k < class) ⊎ (class ≤ k) → k < class + 1 → AreAlike table j k
          → (i : ℕ) × Contains old (i, k)
      still_by j k lt (inl less) below alike = before.each j k lt less alike
      still_by j k lt (inr le) below alike =
          let same : k ≡ class = omega arith in
          absurd (none j (omega arith) (subst (λ (n : ℕ). AreAlike table j n) same alike))

      -- a class without one more
      pub twins_still : AreTwins table old (class + 1)
      twins_still = record {
        rising = before.rising;
        below = rises;
        sound = before.sound;
        each = λ j k lt below alike. still_by j k lt (cases_lt k class) below alike;
      }
