-- Walks over rows that rise.
use Rattle.std.proofs.Common.{◌≡◌, ℕ, ◌+◌, ◌<◌, ◌≤◌, ◌≢◌, ◌⊎◌, inl, inr, List, length, get_or, Some, None, ap, sym, ◌∙◌, arith}
use Rattle.std.proofs.lemmas.Bool.{cases_lt}
use Rattle.std.proofs.lemmas.List.{get_or_read}
use Rattle.aat_lookup.specs.Keys.{IsRising, at_key}
use Rattle.aat_lookup.specs.inside.Walks.{AreBelow, AreNotBelow}
use Rattle.aat_lookup.specs.facts.Rising.{keys_rise}
use Rattle.aat_lookup.specs.facts.Search.{at_key_none, at_key_some}

module _ {X : Type 0} (key : X → ℕ) (xs : List X) where
  below_at :
      (n k i : ℕ) (x d : X) → AreBelow key xs n k → x ≡ get_or xs n x → key x < k → (i < n) ⊎ (n ≤ i) → i < n + 1
      → i < length xs → key (get_or xs i d) < k
  below_at n k i x d before read low (inl lt) small within = before i d lt within
  below_at n k i x d before read low (inr le) small within =
      let same : n ≡ i = omega arith in
      let is : x ≡ get_or xs n d = get_or_read xs n x (omega arith) read d in
      omega (arith, ap key is, ap (λ q. key (get_or xs q d)) same)

  -- one row more is below a key
  pub below_more :
      (n k : ℕ) (x : X) → AreBelow key xs n k → x ≡ get_or xs n x → key x < k → AreBelow key xs (n + 1) k
  below_more n k x before read low i d small within = below_at n k i x d before read low (cases_lt i n) small within

  -- rows below a key are below those above it
  pub below_higher : (n k higher : ℕ) → AreBelow key xs n k → k ≤ higher → AreBelow key xs n higher
  below_higher n k higher before le i d lt within = omega (arith, before i d lt within)

  module _ (rising : IsRising key xs) (n k : ℕ) where
    -- the rows from one on that is not below a key
    pub not_below_from : (x : X) → n < length xs → x ≡ get_or xs n x → k ≤ key x → AreNotBelow key xs n k
    not_below_from x lt read high i d le within =
        let is : x ≡ get_or xs n d = get_or_read xs n x lt read d in
        omega (arith, keys_rise key xs rising n i d le within, ap key is)

    -- the row at the place has the key
    pub here : (x : X) → AreBelow key xs n k → n < length xs → x ≡ get_or xs n x → key x ≡ k → Some x ≡ at_key key xs k
    here x before lt read has =
        ap Some read ∙ sym (at_key_some key xs k n x lt (ap key (sym read) ∙ has) (λ j below. λ e. omega (arith, e, before j x below (omega arith))))

    other :
        (x d : X) (i : ℕ) → AreBelow key xs n k → AreNotBelow key xs n k → n < length xs → x ≡ get_or xs n x → key x ≢ k
        → (i < n) ⊎ (n ≤ i) → i < length xs → key (get_or xs i d) ≢ k
    other x d i before behind lt read not (inl low) within = λ e. omega (arith, e, before i d low within)
    other x d i before behind lt read not (inr high) within = λ e.
        let is : x ≡ get_or xs n d = get_or_read xs n x lt read d in
        let at : key x ≡ key (get_or xs n d) = ap key is in
        let up : k ≤ key (get_or xs n d) = behind n d (omega arith) lt in
        let later = keys_rise key xs rising n i d high within in
        let equal : key x ≡ k = omega (arith, e) in
        absurd (not equal)

    -- the row at the place has another key
    pub not_here :
        (x : X) → AreBelow key xs n k → AreNotBelow key xs n k → n < length xs → x ≡ get_or xs n x → key x ≢ k
        → None ≡ at_key key xs k
    not_here x before behind lt read not =
        sym (at_key_none key xs k (λ i d within. other x d i before behind lt read not (cases_lt i n) within))

  -- the walk has come to the end
  pub at_end : (n k : ℕ) → AreBelow key xs n k → length xs ≤ n → None ≡ at_key key xs k
  at_end n k before past = sym (at_key_none key xs k (λ i d lt. λ e. omega (arith, e, before i d (omega arith) lt)))
