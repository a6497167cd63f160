-- A list that is filled at its end with the values of a function.
use Rattle.std.proofs.Common.{◌≡◌, ℕ, ◌+◌, ◌<◌, ◌≤◌, ◌⊎◌, inl, inr, List, [], ◌∷◌, ◌++◌, length, get_or, ◌∙◌, ap, sym, subst, arith}
use Rattle.std.proofs.lemmas.Bool.{cases_lt}
use Rattle.std.proofs.lemmas.List.{get_or_append_left, get_or_push}

module _ {X : Type 0} (d : X) (base : ℕ) (xs ys : List X) (x : X) (pushed : ys ≡ xs ++ x ∷ []) where
  -- what stood there stays
  pub kept_more : (k : ℕ) → k < length xs → get_or ys k d ≡ get_or xs k d
  kept_more k lt = ap (λ zs. get_or zs k d) pushed ∙ get_or_append_left xs (x ∷ []) d k lt

  module _ (f : ℕ → X) (n : ℕ) (long : length xs ≡ base + n) (is : x ≡ f n)
      (before : (j : ℕ) → j < n → get_or xs (base + j) d ≡ f j) where
    pushed_at : (k : ℕ) → (k < n) ⊎ (n ≤ k) → k < n + 1 → get_or ys (base + k) d ≡ f k
    pushed_at k (inl lt) within = kept_more (base + k) (omega (arith, long)) ∙ before k lt
    pushed_at k (inr le) within =
        let same : n ≡ k = omega arith in
        let place : length xs ≡ base + k = omega (arith, long) in
        ap (λ zs. get_or zs (base + k) d) pushed ∙ get_or_push xs x d (base + k) place ∙ is ∙ ap f same

    -- one value more behind those that stood there
    pub filled_more : (k : ℕ) → k < n + 1 → get_or ys (base + k) d ≡ f k
    filled_more k within = pushed_at k (cases_lt k n) within

module _ {X : Type 0} (d : X) (xs ys : List X) (x : X) (pushed : ys ≡ xs ++ x ∷ []) (n : ℕ) (long : length xs ≡ n) where
  of_all : (P : ℕ → X → Type 0) → ((j : ℕ) → j < n → P j (get_or xs j d)) → P n x → (k : ℕ) → (k < n) ⊎ (n ≤ k) → k < n + 1 → P k (get_or ys k d)
  of_all P before here k (inl lt) within =
      let same : get_or xs k d ≡ get_or ys k d = sym (kept_more d 0 xs ys x pushed k (omega (arith, long))) in
      subst (λ (y : X). P k y) same (before k lt)
  of_all P before here k (inr le) within =
      let place : n ≡ k = omega arith in
      let same : x ≡ get_or ys k d = sym (ap (λ zs. get_or zs k d) pushed ∙ get_or_push xs x d k (long ∙ place)) in
      subst (λ (y : X). P k y) same (subst (λ (j : ℕ). P j x) place here)

  -- what holds of each that stood there, and of the new one
  pub holds_more : (P : ℕ → X → Type 0) → ((j : ℕ) → j < n → P j (get_or xs j d)) → P n x → (k : ℕ) → k < n + 1 → P k (get_or ys k d)
  holds_more P before here k within = of_all P before here k (cases_lt k n) within

  -- one value more of a function
  pub filled_front : (f : ℕ → X) → x ≡ f n → ((j : ℕ) → j < n → get_or xs j d ≡ f j) → (k : ℕ) → k < n + 1 → get_or ys k d ≡ f k
  filled_front f is before = holds_more (λ (k : ℕ) (y : X). y ≡ f k) before is
