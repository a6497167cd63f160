-- The numbers from one on: tests of them, and folds and sums over them.
use Rattle.std.proofs.Common.{◌≡◌, ◌∙◌, sym, ap, refl, ℕ, zero, suc, ◌+◌, ◌<◌, ◌≤◌, [], ◌∷◌, ◌++◌, Bool, true, false, ◌&&◌, Some, None, inl, inr, cond, arith}
use Rattle.std.specs.List.{find, fold, list_all, range_with_len}
use Rattle.std.specs.Prelude.{sum_by}
use Rattle.std.proofs.lemmas.Bool.{cases_eq}
use Rattle.std.proofs.lemmas.List.Sums.{fold_push, sum_by_push}

-- the last number
pub range_last : (a n : ℕ) → range_with_len a (suc n) ≡ range_with_len a n ++ (a + n) ∷ []
range_last a zero = let same : a ≡ a + 0 = omega arith in ap (λ k. k ∷ []) same
range_last a (suc n) =
    let same : a + 1 + n ≡ a + suc n = omega arith in
    ap (λ l. a ∷ l) (range_last (a + 1) n ∙ ap (λ k. range_with_len (a + 1) n ++ k ∷ []) same)

-- one number more from 0 on
pub range_more : (n : ℕ) → range_with_len 0 (n + 1) ≡ range_with_len 0 n ++ n ∷ []
range_more n =
    let more : n + 1 ≡ suc n = omega arith in
    let last : 0 + n ≡ n = omega arith in
    ap (range_with_len 0) more ∙ range_last 0 n ∙ ap (λ k. range_with_len 0 n ++ k ∷ []) last

pub fold_more :
    {B : Type 0} (f : B → ℕ → B) (b : B) (n : ℕ)
    → fold f b (range_with_len 0 (n + 1)) ≡ f (fold f b (range_with_len 0 n)) n
fold_more f b n = ap (fold f b) (range_more n) ∙ fold_push f b (range_with_len 0 n) n

pub sum_more : (f : ℕ → ℕ) (n : ℕ) → sum_by f (range_with_len 0 (n + 1)) ≡ sum_by f (range_with_len 0 n) + f n
sum_more f n = ap (sum_by f) (range_more n) ∙ sum_by_push f (range_with_len 0 n) n

module _ (p : ℕ → Bool) where
  -- where none is found, no number of the range passes
  pub none_each : (a n : ℕ) → find p (range_with_len a n) ≡ None → (k : ℕ) → a ≤ k → k < a + n → p k ≡ false
  none_each a zero none k low high = absurd (omega arith)
  none_each a (suc n) none k low high = elim (cases_eq k a) [
    | inl here ↦ ap p here ∙ head_false (p a) none
    | inr other ↦ none_each (a + 1) n (tail_none (p a) none) k (omega arith) (omega arith)
  ] where
    head_false : (b : Bool) → cond b (Some a) (find p (range_with_len (a + 1) n)) ≡ None → b ≡ false
    head_false true found = cc
    head_false false found = refl

    tail_none :
        (b : Bool)
        → cond b (Some a) (find p (range_with_len (a + 1) n)) ≡ None
        → find p (range_with_len (a + 1) n) ≡ None
    tail_none true found = cc
    tail_none false found = found

  -- where no number of the range passes, none is found
  pub none_found : (a n : ℕ) → ((k : ℕ) → a ≤ k → k < a + n → p k ≡ false) → find p (range_with_len a n) ≡ None
  none_found a zero each = refl
  none_found a (suc n) each =
      let here : p a ≡ false = each a (omega arith) (omega arith) in
      let rest = none_found (a + 1) n (λ k low high. each k (omega arith) (omega arith)) in
      ap (λ (b : Bool). cond b (Some a) (find p (range_with_len (a + 1) n))) here ∙ rest

  -- a number that passes, behind numbers that do not, is found
  pub found_first :
      (a n k : ℕ)
      → a ≤ k
      → k < a + n
      → ((i : ℕ) → a ≤ i → i < k → p i ≡ false)
      → p k ≡ true
      → find p (range_with_len a n) ≡ Some k
  found_first a zero k low high none has = absurd (omega arith)
  found_first a (suc n) k low high none has = elim (cases_eq k a) [
    | inl here ↦
        ap (λ (b : Bool). cond b (Some a) (find p (range_with_len (a + 1) n))) (sym (ap p here) ∙ has)
        ∙ ap Some (sym here)
    | inr other ↦
        ap (λ (b : Bool). cond b (Some a) (find p (range_with_len (a + 1) n))) (none a (omega arith) (omega arith))
        ∙ found_first (a + 1) n k (omega arith) (omega arith) (λ i from below. none i (omega arith) below) has
  ]

  -- each number of the range passes
  pub all_pass :
      (a n : ℕ) → ((k : ℕ) → a ≤ k → k < a + n → p k ≡ true) → list_all p (range_with_len a n) ≡ true
  all_pass a zero each = refl
  all_pass a (suc n) each =
      rw (each a (omega arith) (omega arith))
      (all_pass (a + 1) n (λ k low high. each k (omega arith) (omega arith)))

  both : (b d : Bool) → (b && d) ≡ true → (b ≡ true) × (d ≡ true)
  both true d is = (refl, is)
  both false d is = cc

  pub each_passes :
      (a n : ℕ) → list_all p (range_with_len a n) ≡ true → (k : ℕ) → a ≤ k → k < a + n → p k ≡ true
  each_passes a zero all k low high = absurd (omega arith)
  each_passes a (suc n) all k low high =
      let parts = both (p a) (list_all p (range_with_len (a + 1) n)) all in
      elim (cases_eq k a) [
        | inl here ↦ ap p here ∙ parts.0
        | inr other ↦ each_passes (a + 1) n parts.1 k (omega arith) (omega arith)
      ]
