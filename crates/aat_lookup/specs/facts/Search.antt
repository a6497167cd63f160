-- Rows that rise strictly, and where a search for a key ends among them.
use Rattle.std.proofs.Common.{◌≡◌, ℕ, zero, suc, ◌<◌, ◌≤◌, ◌≢◌, List, [], ◌∷◌, length, get_or, Some, None, Result, Ok, Err, MatchResult, sym, ap, refl, ◌∙◌, arith}
use Rattle.std.specs.List.Sorted.{IsSearchInRange, IsBinarySearchResult, IsNonDecreasingBy}
use Rattle.std.specs.Ordering.{nat_cmp, ordering_index}
use Rattle.std.proofs.lemmas.Cmp.{ranked}
use Rattle.std.proofs.lemmas.Bool.Decides.{nat_tests}
use Rattle.aat_lookup.specs.Keys.{IsRising, at_key}

module _ {X : Type 0} (key : X → ℕ) where
  -- a key that no element has is not found
  pub at_key_none :
      (xs : List X) (k : ℕ)
      → ((i : ℕ) (d : X) → i < length xs → key (get_or xs i d) ≢ k)
      → at_key key xs k ≡ None
  at_key_none [] k none = refl
  at_key_none (x ∷ xs) k none =
      let later = at_key_none xs k (λ i d lt. none (suc i) d (omega arith)) in
      grind (arith, nat_tests, none 0 x (omega arith), later)

  -- the first element that has the key is found
  pub at_key_some :
      (xs : List X) (k i : ℕ) (d : X)
      → i < length xs → key (get_or xs i d) ≡ k → ((j : ℕ) → j < i → key (get_or xs j d) ≢ k)
      → at_key key xs k ≡ Some (get_or xs i d)
  at_key_some [] k i d lt has none = absurd (omega arith)
  at_key_some (x ∷ xs) k zero d lt has none = grind (arith, nat_tests)
  at_key_some (x ∷ xs) k (suc i) d lt has none =
      let later = at_key_some xs k i d (omega arith) has (λ j below. none (suc j) (omega arith)) in
      grind (arith, nat_tests, none 0 (omega arith), later)

  module _ (xs : List X) (rising : IsRising key xs) (k : ℕ) where
    same_place : (i j : ℕ) (d : X) → i ≡ j → key (get_or xs i d) ≡ key (get_or xs j d)
    same_place i j d e = ap (λ q. key (get_or xs q d)) e

    comparisons_rise : IsNonDecreasingBy (λ y. ordering_index (nat_cmp (key y) k)) xs
    comparisons_rise i j d le lt =
        let keys_rise : key (get_or xs i d) ≤ key (get_or xs j d) = grind (arith, rising i j d, same_place i j d) in
        grind (arith, nat_tests)

    -- what a binary search by key says of the first element with the key
    pub searched :
        (r : Result ℕ ℕ)
        → IsSearchInRange r (length xs) → IsBinarySearchResult (λ y. nat_cmp (key y) k) xs r
        → MatchResult r (λ i. (d : X) → at_key key xs k ≡ Some (get_or xs i d)) (λ _. at_key key xs k ≡ None)
    searched (Ok i) within equal = λ d.
        let has : key (get_or xs i d) ≡ k = ranked _ k _ (sym (equal d)) in
        at_key_some xs k i d within has (λ j below. λ e. omega (arith, rising j i d below within))
    searched (Err i) within parted = at_key_none xs k (λ j d lt. λ e.
        let sides = parted comparisons_rise in
        let low : j < i → key (get_or xs j d) < k = λ below. ranked _ k _ (sym (sides.0 j d (omega arith) below)) in
        let high : i ≤ j → k < key (get_or xs j d) = λ above. ranked _ k _ (sym (sides.1 j d above lt)) in
        grind (arith, low, high))

    -- where a binary search by key comes to: to the key, or between those below it and those above it
    pub search_sides :
        (r : Result ℕ ℕ)
        → IsSearchInRange r (length xs) → IsBinarySearchResult (λ y. nat_cmp (key y) k) xs r
        → MatchResult r (λ i. (i < length xs) × ((d : X) → key (get_or xs i d) ≡ k))
        (λ i. (j : ℕ) (d : X) → j < length xs → (j < i → key (get_or xs j d) < k) × (i ≤ j → k < key (get_or xs j d)))
    search_sides (Ok i) within equal = (within, λ d. ranked _ k _ (sym (equal d)))
    search_sides (Err i) within parted = λ j d lt.
        let sides = parted comparisons_rise in
        (λ below. ranked _ k _ (sym (sides.0 j d (omega arith) below)), λ above. ranked _ k _ (sym (sides.1 j d above lt)))

    -- an element with the key, at whatever place, is the one that is found
    pub found_there : (i : ℕ) (x : X) → i < length xs → x ≡ get_or xs i x → key x ≡ k → Some x ≡ at_key key xs k
    found_there i x within read has =
        let there : key (get_or xs i x) ≡ k = ap key (sym read) ∙ has in
        ap Some read ∙ sym (at_key_some xs k i x within there (λ j below. λ e. omega (arith, there, e, rising j i x below within)))
