-- What a bisection finds, whatever the keys of the rows are, and how it goes on.
use Rattle.std.proofs.Common.{◌≡◌, ℕ, zero, suc, ◌+◌, ◌-◌, ◌<◌, ◌≤◌, ◌⊎◌, inl, inr, Bool, true, false, cond, Option, Some, None, refl, sym, ap, ◌∙◌, arith}
use Rattle.std.specs.Prelude.{nat_lt}
use Rattle.std.proofs.lemmas.Bool.{le-ltb, lt-ltb, ltb-false, ltb-true}
use Rattle.aat_bytes.specs.Bisection.{bisect, middle}

-- the middle row is one of the rows
pub middle_within : (a b : ℕ) → a < b → (a ≤ middle a b) × (middle a b < b)
middle_within a b some = (omega arith, omega arith)

-- which way a step that finds a row has gone
turned :
    (t l g : Bool) (x y : Option ℕ) (m i : ℕ) → cond t (cond l x (cond g y (Some m))) None ≡ Some i
    → (t ≡ true) × (((l ≡ true) × (x ≡ Some i)) ⊎ (((l ≡ false) × (g ≡ true) × (y ≡ Some i)) ⊎ ((l ≡ false) × (g ≡ false) × (m ≡ i))))
turned true true g x y m i is = (refl, inl (refl, is))
turned true false true x y m i is = (refl, inr (inl (refl, refl, is)))
turned true false false x y m i is = let same : m ≡ i = cc in (refl, inr (inr (refl, refl, same)))
turned false l g x y m i is = absurd (let wrong : ⊥ = cc in wrong)

module _ (low high : ℕ → ℕ) where
  -- below the middle row, above it, or there
  abbrev GoesBelow : ℕ → ℕ → ℕ → ℕ → ℕ → Type 0
  GoesBelow s a b k i = (k < low (middle a b)) × (bisect low high s a (middle a b) k ≡ Some i)

  abbrev GoesAbove : ℕ → ℕ → ℕ → ℕ → ℕ → Type 0
  GoesAbove s a b k i =
      (low (middle a b) ≤ k) × (high (middle a b) < k) × (bisect low high s (middle a b + 1) b k ≡ Some i)

  abbrev Ends : ℕ → ℕ → ℕ → ℕ → Type 0
  Ends a b k i = (low (middle a b) ≤ k) × (k ≤ high (middle a b)) × (middle a b ≡ i)

  abbrev Goes : ℕ → ℕ → ℕ → ℕ → ℕ → Type 0
  Goes s a b k i = GoesBelow s a b k i ⊎ (GoesAbove s a b k i ⊎ Ends a b k i)

  told :
      (s a b k i : ℕ)
      → (((nat_lt k (low (middle a b)) ≡ true) × (bisect low high s a (middle a b) k ≡ Some i))
      ⊎ (((nat_lt k (low (middle a b)) ≡ false) × (nat_lt (high (middle a b)) k ≡ true) × (bisect low high s (middle a b + 1) b k ≡ Some i))
      ⊎ ((nat_lt k (low (middle a b)) ≡ false) × (nat_lt (high (middle a b)) k ≡ false) × (middle a b ≡ i))))
      → Goes s a b k i
  told s a b k i (inl below) = inl (ltb-true k (low (middle a b)) below.0, below.1)
  told s a b k i (inr (inl above)) =
      inr (inl (ltb-false k (low (middle a b)) above.0, ltb-true (high (middle a b)) k above.1, above.2))
  told s a b k i (inr (inr here)) =
      inr (inr (ltb-false k (low (middle a b)) here.0, ltb-false (high (middle a b)) k here.1, here.2))

  pub step : (s a b k i : ℕ) → bisect low high (suc s) a b k ≡ Some i → (a < b) × Goes s a b k i
  step s a b k i is =
      let way = turned (nat_lt a b) (nat_lt k (low (middle a b))) (nat_lt (high (middle a b)) k) _ _ (middle a b) i is in
      (ltb-true a b way.0, told s a b k i way.1)

  -- a row that is found is one of the rows, and has the key
  abbrev Has : ℕ → ℕ → ℕ → ℕ → Type 0
  Has a b k i = (a ≤ i) × (i < b) × (low i ≤ k) × (k ≤ high i)

  has_by :
      (s a b k i : ℕ) → ((c d : ℕ) → bisect low high s c d k ≡ Some i → Has c d k i) → a < b → Goes s a b k i
      → Has a b k i
  has_by s a b k i deeper some (inl below) =
      let mid = middle_within a b some in
      let rest = deeper a (middle a b) below.1 in
      (rest.0, omega (arith, rest.1, mid.1), rest.2, rest.3)
  has_by s a b k i deeper some (inr (inl above)) =
      let mid = middle_within a b some in
      let rest = deeper (middle a b + 1) b above.2 in
      (omega (arith, rest.0, mid.0), rest.1, rest.2, rest.3)
  has_by s a b k i deeper some (inr (inr here)) =
      let mid = middle_within a b some in (
        omega (arith, mid.0, here.2),
        omega (arith, mid.1, here.2),
        omega (arith, here.0, ap low here.2),
        omega (arith, here.1, ap high here.2),
      )

  pub found_has : (s a b k i : ℕ) → bisect low high s a b k ≡ Some i → Has a b k i
  found_has zero a b k i is = absurd (let wrong : ⊥ = cc in wrong)
  found_has (suc s) a b k i is =
      let way = step s a b k i is in has_by s a b k i (λ c d. found_has s c d k i) way.0 way.1

  -- of two rows that are found, the higher one was found by the higher key
  ordered_by :
      (s a b k l i j : ℕ)
      → ((c d : ℕ) → bisect low high s c d k ≡ Some i → bisect low high s c d l ≡ Some j → k < l)
      → a < b → i < j → Goes s a b k i → Goes s a b l j → k < l
  ordered_by s a b k l i j deeper some lt (inl one) (inl two) = deeper a (middle a b) one.1 two.1
  ordered_by s a b k l i j deeper some lt (inl one) (inr (inl two)) = omega (arith, one.0, two.0)
  ordered_by s a b k l i j deeper some lt (inl one) (inr (inr two)) = omega (arith, one.0, two.0)
  ordered_by s a b k l i j deeper some lt (inr (inl one)) (inl two) =
      let high_one = found_has s (middle a b + 1) b k i one.2 in
      let low_two = found_has s a (middle a b) l j two.1 in
      absurd (omega (arith, high_one.0, low_two.1))
  ordered_by s a b k l i j deeper some lt (inr (inl one)) (inr (inl two)) = deeper (middle a b + 1) b one.2 two.2
  ordered_by s a b k l i j deeper some lt (inr (inl one)) (inr (inr two)) =
      let high_one = found_has s (middle a b + 1) b k i one.2 in absurd (omega (arith, high_one.0, two.2))
  ordered_by s a b k l i j deeper some lt (inr (inr one)) (inl two) =
      let low_two = found_has s a (middle a b) l j two.1 in absurd (omega (arith, low_two.1, one.2))
  ordered_by s a b k l i j deeper some lt (inr (inr one)) (inr (inl two)) = omega (arith, one.1, two.1)
  ordered_by s a b k l i j deeper some lt (inr (inr one)) (inr (inr two)) = absurd (omega (arith, one.2, two.2))

  pub ordered :
      (s a b k l i j : ℕ) → bisect low high s a b k ≡ Some i → bisect low high s a b l ≡ Some j → i < j → k < l
  ordered zero a b k l i j one two lt = absurd (let wrong : ⊥ = cc in wrong)
  ordered (suc s) a b k l i j one two lt =
      let way = step s a b k i one in
      let other = step s a b l j two in
      ordered_by s a b k l i j (λ c d here there. ordered s c d k l i j here there lt) way.0 lt way.1 other.1

  -- the steps of a bisection
  pub goes_below :
      (s a b k : ℕ) → a < b → k < low (middle a b)
      → bisect low high (suc s) a b k ≡ bisect low high s a (middle a b) k
  goes_below s a b k some less = rw (lt-ltb a b some, lt-ltb k (low (middle a b)) less) refl

  pub goes_above :
      (s a b k : ℕ) → a < b → low (middle a b) ≤ k → high (middle a b) < k
      → bisect low high (suc s) a b k ≡ bisect low high s (middle a b + 1) b k
  goes_above s a b k some from more =
      rw (lt-ltb a b some, le-ltb k (low (middle a b)) from, lt-ltb (high (middle a b)) k more) refl

  pub ends_there :
      (s a b k : ℕ) → a < b → low (middle a b) ≤ k → k ≤ high (middle a b)
      → bisect low high (suc s) a b k ≡ Some (middle a b)
  ends_there s a b k some from up =
      rw (lt-ltb a b some, le-ltb k (low (middle a b)) from, le-ltb (high (middle a b)) k up) refl

  pub finds_none : (s a b k : ℕ) → b ≤ a → bisect low high s a b k ≡ None
  finds_none zero a b k none = refl
  finds_none (suc s) a b k none = rw (le-ltb a b none) refl

-- a bisection over so many rows that goes on among those from one on up to another, with enough steps left
pub record GoesOn (low high : ℕ → ℕ) (count k from to : ℕ) : Type 0 where
  pub steps : ℕ
  pub enough : to - from ≤ steps
  pub within : to ≤ count
  pub rest : bisect low high steps from to k ≡ bisect low high count 0 count k

module _ (low high : ℕ → ℕ) (count k : ℕ) where
  pub begins : GoesOn low high count k 0 count
  begins = record { steps = count; enough = omega arith; within = omega arith; rest = refl }

  below_by :
      (s a b : ℕ) → b - a ≤ s → b ≤ count → bisect low high s a b k ≡ bisect low high count 0 count k
      → a < b → k < low (middle a b) → GoesOn low high count k a (middle a b)
  below_by zero a b enough within rest some less = absurd (omega arith)
  below_by (suc s) a b enough within rest some less =
      let mid = middle_within a b some in record {
        steps = s;
        enough = omega (arith, mid.1);
        within = omega (arith, mid.1);
        rest = sym (goes_below low high s a b k some less) ∙ rest;
      }

  pub on_below :
      (a b : ℕ) → GoesOn low high count k a b → a < b → k < low (middle a b) → GoesOn low high count k a (middle a b)
  on_below a b left some less = below_by left.steps a b left.enough left.within left.rest some less

  above_by :
      (s a b : ℕ) → b - a ≤ s → b ≤ count → bisect low high s a b k ≡ bisect low high count 0 count k
      → a < b → low (middle a b) ≤ k → high (middle a b) < k → GoesOn low high count k (middle a b + 1) b
  above_by zero a b enough within rest some from more = absurd (omega arith)
  above_by (suc s) a b enough within rest some from more =
      let mid = middle_within a b some in record {
        steps = s;
        enough = omega (arith, mid.0);
        within = within;
        rest = sym (goes_above low high s a b k some from more) ∙ rest;
      }

  pub on_above :
      (a b : ℕ) → GoesOn low high count k a b → a < b → low (middle a b) ≤ k → high (middle a b) < k
      → GoesOn low high count k (middle a b + 1) b
  on_above a b left some from more = above_by left.steps a b left.enough left.within left.rest some from more

  there_by :
      (s a b : ℕ) → b - a ≤ s → bisect low high s a b k ≡ bisect low high count 0 count k
      → a < b → low (middle a b) ≤ k → k ≤ high (middle a b) → Some (middle a b) ≡ bisect low high count 0 count k
  there_by zero a b enough rest some from up = absurd (omega arith)
  there_by (suc s) a b enough rest some from up = sym (ends_there low high s a b k some from up) ∙ rest

  pub ended :
      (a b : ℕ) → GoesOn low high count k a b → a < b → low (middle a b) ≤ k → k ≤ high (middle a b)
      → Some (middle a b) ≡ bisect low high count 0 count k
  ended a b left some from up = there_by left.steps a b left.enough left.rest some from up

  pub none_left :
      (a b : ℕ) → GoesOn low high count k a b → b ≤ a → None ≡ bisect low high count 0 count k
  none_left a b left none = sym (finds_none low high left.steps a b k none) ∙ left.rest
