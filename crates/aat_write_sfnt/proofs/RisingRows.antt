-- A bisection finds each row of ranges that rise.
use Rattle.std.proofs.Common.{◌≡◌, ℕ, zero, suc, ◌+◌, ◌-◌, ◌<◌, ◌≤◌, ◌⊎◌, inl, inr, Bool, true, false, Some, refl, sym, ap, ◌∙◌, arith}
use Rattle.std.specs.Prelude.{nat_le, ◌&&◌}
use Rattle.std.specs.List.{find, range_with_len}
use Rattle.std.proofs.lemmas.Bool.{and_from, cases_eq, cases_lt, le-leb, leb-true}
use Rattle.aat_bytes.specs.Bisection.{bisect, middle}
use Rattle.aat_bytes.specs.facts.Bisections.{ends_there, found_has, goes_above, goes_below, middle_within}
use Rattle.aat_read_lookup.specs.facts.FoundRows.{at_some, find_alike, found_place, is_at, same_tests, some_at}

both : (b d : Bool) → (b && d) ≡ true → (b ≡ true) × (d ≡ true)
both true d is = (refl, is)
both false d is = cc

module _ (low high : ℕ → ℕ) (count k : ℕ) (whole : (i : ℕ) → i < count → low i ≤ high i) (rise : (i j : ℕ) → i < j → j < count → high i < low j) where
  finds_by :
      (s a b i : ℕ) → a ≤ i → i < b → b ≤ count → b - a ≤ suc s → low i ≤ k → k ≤ high i
      → ((c d : ℕ) → c ≤ i → i < d → d ≤ count → d - c ≤ s → bisect low high s c d k ≡ Some i)
      → (i < middle a b) ⊎ (middle a b ≤ i)
      → bisect low high (suc s) a b k ≡ Some i
  finds_by s a b i from to inside long start end deeper (inl below) =
      let mid = middle_within a b (omega arith) in
      let up = rise i (middle a b) below (omega (arith, mid.1)) in
      goes_below low high s a b k (omega arith) (omega (arith, up, end))
      ∙ deeper a (middle a b) from below (omega (arith, mid.1)) (omega (arith, mid.1))
  finds_by s a b i from to inside long start end deeper (inr up) =
      let mid = middle_within a b (omega arith) in
      elim (cases_eq (middle a b) i) [
        | inl here ↦
            let lower : low (middle a b) ≡ low i = ap low here in
            let upper : high (middle a b) ≡ high i = ap high here in
            ends_there low high s a b k (omega arith) (omega (arith, lower, start)) (omega (arith, upper, end)) ∙ ap Some here
        | inr other ↦
            let above : middle a b < i = grind (arith, up, other) in
            let past = rise (middle a b) i above (omega arith) in
            let fits = whole (middle a b) (omega (arith, mid.1)) in
            goes_above low high s a b k (omega arith) (omega (arith, past, fits, start)) (omega (arith, past, start))
            ∙ deeper (middle a b + 1) b (omega (arith, above)) to inside (omega (arith, mid.0))
      ]

  finds :
      (s a b i : ℕ) → a ≤ i → i < b → b ≤ count → b - a ≤ s → low i ≤ k → k ≤ high i → bisect low high s a b k ≡ Some i
  finds zero a b i from to inside long start end = absurd (omega arith)
  finds (suc s) a b i from to inside long start end =
      finds_by s a b i from to inside long start end
      (λ c d lower upper within few. finds s c d i lower upper within few start end) (cases_lt i (middle a b))

  -- the row that is found is the first that has the key
  pub rising_rows :
      bisect low high count 0 count k ≡ find (λ i. nat_le (low i) k && nat_le k (high i)) (range_with_len 0 count)
  rising_rows =
      let alike : (i : ℕ) → 0 ≤ i → i < 0 + count
      → is_at (bisect low high count 0 count k) i ≡ (nat_le (low i) k && nat_le k (high i)) =
      λ i from to.
      same_tests (is_at (bisect low high count 0 count k) i) (nat_le (low i) k && nat_le k (high i))
      (λ is.
      let has = found_has low high count 0 count k i (at_some (bisect low high count 0 count k) i is) in
      and_from _ _ (le-leb (low i) k has.2) (le-leb k (high i) has.3))
      (λ is.
      let tests = both (nat_le (low i) k) (nat_le k (high i)) is in
      some_at (bisect low high count 0 count k) i
      (finds count 0 count i (omega arith) (omega arith) (omega arith) (omega arith) (leb-true (low i) k tests.0) (leb-true k (high i) tests.1))) in
      sym (found_place (bisect low high count 0 count k) count (λ j is. (found_has low high count 0 count k j is).1))
      ∙ find_alike (is_at (bisect low high count 0 count k)) (λ i. nat_le (low i) k && nat_le k (high i)) 0 count alike
