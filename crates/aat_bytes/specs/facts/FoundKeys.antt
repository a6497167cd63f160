-- The keys by which a bisection finds its rows.
use Rattle.std.proofs.Common.{◌≡◌, ℕ, zero, suc, ◌+◌, ◌-◌, ◌<◌, ◌≤◌, ◌⊎◌, inl, inr, Bool, true, false, cond, Some, refl, sym, ap, ◌∙◌, subst, arith}
use Rattle.std.proofs.lemmas.Bool.{cases_eq, cases_lt, le-ltb, lt-ltb}
use Rattle.aat_bytes.specs.Bisection.{bisect, keys_found, middle, nearest}
use Rattle.aat_bytes.specs.facts.Bisections.{ends_there, found_has, goes_above, goes_below, middle_within, step}

-- the nearest one of some numbers
pub near_within : (f e n : ℕ) → f ≤ e → (f ≤ nearest f e n) × (nearest f e n ≤ e)
near_within f e n within = (omega arith, omega arith)

pub near_more : (f e m n : ℕ) → m ≤ n → nearest f e m ≤ nearest f e n
near_more f e m n le = omega arith

near_itself : (f e n : ℕ) → f ≤ n → n ≤ e → nearest f e n ≡ n
near_itself f e n low high = omega arith

-- one below it is below the number
below_near : (f e n k : ℕ) → f ≤ k → k < nearest f e n → k < n
below_near f e n k low less = omega arith

-- one that it is not above is not below the number
above_near : (f e n k : ℕ) → k < e → nearest f e n ≤ k → n ≤ k
above_near f e n k high less = omega arith

near_below : (f e n k : ℕ) → k < e → k < n → k < nearest f e n
near_below f e n k high less = omega arith

near_above : (f e n k : ℕ) → f ≤ k → n ≤ k → nearest f e n ≤ k
near_above f e n k low less = omega arith

-- keys from one on up to another, among others
abbrev pub Among : ℕ → ℕ → ℕ × ℕ → Type 0
Among f e keys = (f ≤ keys.0) × (keys.0 ≤ keys.1) × (keys.1 ≤ e)

among_one : (f e : ℕ) (b d : Bool) (x y z : ℕ × ℕ) → Among f e x → Among f e y → Among f e z → Among f e (cond b x (cond d y z))
among_one f e true d x y z left right here = left
among_one f e false true x y z left right here = right
among_one f e false false x y z left right here = here

module _ (low behind : ℕ → ℕ) (wide : (m : ℕ) → low m ≤ behind m) where
  -- they are among the keys that are left
  pub keys_within : (s a b f e i : ℕ) → f ≤ e → Among f e (keys_found low behind s a b f e i)
  keys_within zero a b f e i some = (omega arith, omega arith, some)
  keys_within (suc s) a b f e i some =
      let m : ℕ = middle a b in
      let lower = near_within f e (low m) some in
      let upper = near_within f e (behind m) some in
      let both = near_more f e (low m) (behind m) (wide m) in
      let left = keys_within s a m f (nearest f e (low m)) i lower.0 in
      let right = keys_within s (m + 1) b (nearest f e (behind m)) e i upper.1 in
      among_one f e _ _ _ _ _ (left.0, left.1, omega (arith, left.2, lower.1)) (omega (arith, right.0, upper.0), right.1, right.2) (lower.0, both, upper.1)

  -- the way to a row
  pub goes_left :
      (s a b f e i : ℕ) → i < middle a b
      → keys_found low behind (suc s) a b f e i ≡ keys_found low behind s a (middle a b) f (nearest f e (low (middle a b))) i
  goes_left s a b f e i less = rw (lt-ltb i (middle a b) less) refl

  pub goes_right :
      (s a b f e i : ℕ) → middle a b < i
      → keys_found low behind (suc s) a b f e i ≡ keys_found low behind s (middle a b + 1) b (nearest f e (behind (middle a b))) e i
  goes_right s a b f e i more =
      let not : middle a b ≤ i = omega arith in
      rw (le-ltb i (middle a b) not, lt-ltb (middle a b) i more) refl

  pub stays :
      (s a b f e i : ℕ) → middle a b ≡ i
      → keys_found low behind (suc s) a b f e i ≡ (nearest f e (low (middle a b)), nearest f e (behind (middle a b)))
  stays s a b f e i here =
      let not : middle a b ≤ i = omega arith in
      let nor : i ≤ middle a b = omega arith in
      rw (le-ltb i (middle a b) not, le-ltb (middle a b) i nor) refl

  -- a row below another is found by keys below the other's
  abbrev Before : ℕ × ℕ → ℕ × ℕ → Type 0
  Before keys others = keys.1 ≤ others.0

  ordered_by :
      (s a b f e i j : ℕ) → f ≤ e → i < j
      → ((c d g h : ℕ) → c ≤ i → j < d → d - c ≤ s → g ≤ h → Before (keys_found low behind s c d g h i) (keys_found low behind s c d g h j))
      → a ≤ i → j < b → b - a ≤ suc s
      → ((i < middle a b) ⊎ ((middle a b ≡ i) ⊎ (middle a b < i)))
      → ((j < middle a b) ⊎ ((middle a b ≡ j) ⊎ (middle a b < j)))
      → Before (keys_found low behind (suc s) a b f e i) (keys_found low behind (suc s) a b f e j)
  ordered_by s a b f e i j some lt deeper from to long (inl one) (inl two) =
      let mid = middle_within a b (omega arith) in
      let lower = near_within f e (low (middle a b)) some in
      rw (goes_left s a b f e i one, goes_left s a b f e j two)
      (deeper a (middle a b) f (nearest f e (low (middle a b))) from two (omega (arith, mid.1)) lower.0)
  ordered_by s a b f e i j some lt deeper from to long (inl one) (inr (inl two)) =
      let lower = near_within f e (low (middle a b)) some in
      let left = keys_within s a (middle a b) f (nearest f e (low (middle a b))) i lower.0 in
      rw (goes_left s a b f e i one, stays s a b f e j two) left.2
  ordered_by s a b f e i j some lt deeper from to long (inl one) (inr (inr two)) =
      let lower = near_within f e (low (middle a b)) some in
      let upper = near_within f e (behind (middle a b)) some in
      let both = near_more f e (low (middle a b)) (behind (middle a b)) (wide (middle a b)) in
      let left = keys_within s a (middle a b) f (nearest f e (low (middle a b))) i lower.0 in
      let right = keys_within s (middle a b + 1) b (nearest f e (behind (middle a b))) e j upper.1 in
      rw (goes_left s a b f e i one, goes_right s a b f e j two) (omega (arith, left.2, both, right.0))
  ordered_by s a b f e i j some lt deeper from to long (inr (inl one)) (inl two) = absurd (omega (arith, one, two))
  ordered_by s a b f e i j some lt deeper from to long (inr (inl one)) (inr (inl two)) = absurd (omega (arith, one, two))
  ordered_by s a b f e i j some lt deeper from to long (inr (inl one)) (inr (inr two)) =
      let upper = near_within f e (behind (middle a b)) some in
      let right = keys_within s (middle a b + 1) b (nearest f e (behind (middle a b))) e j upper.1 in
      rw (stays s a b f e i one, goes_right s a b f e j two) right.0
  ordered_by s a b f e i j some lt deeper from to long (inr (inr one)) (inl two) = absurd (omega (arith, one, two))
  ordered_by s a b f e i j some lt deeper from to long (inr (inr one)) (inr (inl two)) = absurd (omega (arith, one, two))
  ordered_by s a b f e i j some lt deeper from to long (inr (inr one)) (inr (inr two)) =
      let mid = middle_within a b (omega arith) in
      let upper = near_within f e (behind (middle a b)) some in
      rw (goes_right s a b f e i one, goes_right s a b f e j two)
      (deeper (middle a b + 1) b (nearest f e (behind (middle a b))) e (omega (arith, one)) to (omega (arith, mid.0)) upper.1)

  side : (m i : ℕ) → (i < m) ⊎ ((m ≡ i) ⊎ (m < i))
  side m i = elim (cases_lt i m) [
    | inl lt ↦ inl lt
    | inr ge ↦ elim (cases_eq m i) [
      | inl here ↦ inr (inl here)
      | inr other ↦ let more : m < i = grind (arith, ge, other) in inr (inr more)
    ]
  ]

  pub keys_ordered :
      (s a b f e i j : ℕ) → f ≤ e → i < j → a ≤ i → j < b → b - a ≤ s
      → Before (keys_found low behind s a b f e i) (keys_found low behind s a b f e j)
  keys_ordered zero a b f e i j some lt from to long = absurd (omega arith)
  keys_ordered (suc s) a b f e i j some lt from to long =
      ordered_by s a b f e i j some lt (λ c d g h low_is high_is few left. keys_ordered s c d g h i j left lt low_is high_is few)
      from to long (side (middle a b) i) (side (middle a b) j)

  -- they are keys of the row
  abbrev Own : ℕ → ℕ × ℕ → Type 0
  Own i keys = keys.0 < keys.1 → (low i ≤ keys.0) × (keys.1 ≤ behind i)

  own_near : (f e i : ℕ) → f ≤ e → Own i (nearest f e (low i), nearest f e (behind i))
  own_near f e i within some = (omega (arith, wide i), omega (arith, wide i))

  among_own :
      (s a b f e i : ℕ) → f ≤ e
      → ((c d g h : ℕ) → c ≤ i → i < d → d - c ≤ s → g ≤ h → Own i (keys_found low behind s c d g h i))
      → a ≤ i → i < b → b - a ≤ suc s
      → ((i < middle a b) ⊎ ((middle a b ≡ i) ⊎ (middle a b < i)))
      → Own i (keys_found low behind (suc s) a b f e i)
  among_own s a b f e i some deeper from to long (inl less) =
      let mid = middle_within a b (omega arith) in
      let lower = near_within f e (low (middle a b)) some in
      subst (Own i) (sym (goes_left s a b f e i less))
      (deeper a (middle a b) f (nearest f e (low (middle a b))) from less (omega (arith, mid.1)) lower.0)
  among_own s a b f e i some deeper from to long (inr (inl same)) =
      let there : Own i (nearest f e (low (middle a b)), nearest f e (behind (middle a b))) =
      subst (λ (m : ℕ). Own i (nearest f e (low m), nearest f e (behind m))) (sym same) (own_near f e i some) in
      subst (Own i) (sym (stays s a b f e i same)) there
  among_own s a b f e i some deeper from to long (inr (inr more)) =
      let mid = middle_within a b (omega arith) in
      let upper = near_within f e (behind (middle a b)) some in
      subst (Own i) (sym (goes_right s a b f e i more))
      (deeper (middle a b + 1) b (nearest f e (behind (middle a b))) e (omega (arith, more)) to (omega (arith, mid.0)) upper.1)

  pub keys_own : (s a b f e i : ℕ) → f ≤ e → a ≤ i → i < b → b - a ≤ s → Own i (keys_found low behind s a b f e i)
  keys_own zero a b f e i some from to long = absurd (omega arith)
  keys_own (suc s) a b f e i some from to long =
      among_own s a b f e i some (λ c d g h low_is high_is few left. keys_own s c d g h i left low_is high_is few)
      from to long (side (middle a b) i)

  -- where rows rise a row is found by all its keys
  module _ (i n : ℕ) (rise : (j k : ℕ) → j < k → k < n → behind j ≤ low k) where
    own_by :
        (s a b f e : ℕ)
        → ((c d g h : ℕ) → c ≤ i → i < d → d ≤ n → d - c ≤ s → ((k : ℕ) → c ≤ k → k < d → (g ≤ low k) × (behind k ≤ h)) → keys_found low behind s c d g h i ≡ (low i, behind i))
        → a ≤ i → i < b → b ≤ n → b - a ≤ suc s
        → ((k : ℕ) → a ≤ k → k < b → (f ≤ low k) × (behind k ≤ e))
        → ((i < middle a b) ⊎ ((middle a b ≡ i) ⊎ (middle a b < i)))
        → keys_found low behind (suc s) a b f e i ≡ (low i, behind i)
    own_by s a b f e deeper from to upto long inside (inl less) =
        let m : ℕ = middle a b in
        let mid = middle_within a b (omega arith) in
        let here = inside (middle a b) mid.0 mid.1 in
        let at : nearest f e (low (middle a b)) ≡ low (middle a b) = near_itself f e (low (middle a b)) here.0 (omega (arith, here.1, wide (middle a b))) in
        goes_left s a b f e i less
        ∙ ap (λ h. keys_found low behind s a (middle a b) f h i) at
        ∙ deeper a (middle a b) f (low (middle a b)) from less (omega (arith, mid.1)) (omega (arith, mid.1))
        (λ k start end. ((inside k start (omega (arith, end, mid.1))).0, rise k (middle a b) end (omega (arith, mid.1))))
    own_by s a b f e deeper from to upto long inside (inr (inl same)) =
        let mid = middle_within a b (omega arith) in
        let here = inside (middle a b) mid.0 mid.1 in
        let at : nearest f e (low (middle a b)) ≡ low (middle a b) = near_itself f e (low (middle a b)) here.0 (omega (arith, here.1, wide (middle a b))) in
        let past : nearest f e (behind (middle a b)) ≡ behind (middle a b) = near_itself f e (behind (middle a b)) (omega (arith, here.0, wide (middle a b))) here.1 in
        let keys : ℕ → ℕ × ℕ = λ m. (low m, behind m) in
        stays s a b f e i same
        ∙ ap (λ x. (x, nearest f e (behind (middle a b)))) at
        ∙ ap (λ x. (low (middle a b), x)) past
        ∙ ap keys same
    own_by s a b f e deeper from to upto long inside (inr (inr more)) =
        let mid = middle_within a b (omega arith) in
        let here = inside (middle a b) mid.0 mid.1 in
        let past : nearest f e (behind (middle a b)) ≡ behind (middle a b) = near_itself f e (behind (middle a b)) (omega (arith, here.0, wide (middle a b))) here.1 in
        goes_right s a b f e i more
        ∙ ap (λ g. keys_found low behind s (middle a b + 1) b g e i) past
        ∙ deeper (middle a b + 1) b (behind (middle a b)) e (omega (arith, more)) to upto (omega (arith, mid.0))
        (λ k start end. (rise (middle a b) k (omega (arith, start)) (omega (arith, end)), (inside k (omega (arith, start, mid.0)) end).1))

    pub own_keys :
        (s a b f e : ℕ) → a ≤ i → i < b → b ≤ n → b - a ≤ s → ((k : ℕ) → a ≤ k → k < b → (f ≤ low k) × (behind k ≤ e))
        → keys_found low behind s a b f e i ≡ (low i, behind i)
    own_keys zero a b f e from to upto long inside = absurd (omega arith)
    own_keys (suc s) a b f e from to upto long inside =
        own_by s a b f e (λ c d g h. own_keys s c d g h) from to upto long inside (side (middle a b) i)

  -- a bisection finds a row for just these keys
  module _ (high : ℕ → ℕ) (ends : (m : ℕ) → behind m ≡ low m + (high m + 1 - low m)) where
    abbrev Has : ℕ → ℕ × ℕ → Type 0
    Has k keys = (keys.0 ≤ k) × (k < keys.1)

    pub has_key :
        (s a b f e k i : ℕ) → f ≤ k → k < e → bisect low high s a b k ≡ Some i → Has k (keys_found low behind s a b f e i)
    has_key zero a b f e k i from to is = absurd (let wrong : ⊥ = cc in wrong)
    has_key (suc s) a b f e k i from to is =
        let way = step low high s a b k i is in
        let m : ℕ = middle a b in
        elim way.1 [
          | inl below ↦
              let has = found_has low high s a (middle a b) k i below.1 in
              rw (goes_left s a b f e i has.1)
              (has_key s a (middle a b) f (nearest f e (low (middle a b))) k i from (near_below f e (low (middle a b)) k to below.0) below.1)
          | inr (inl above) ↦
              let has = found_has low high s (middle a b + 1) b k i above.2 in
              let past : behind (middle a b) ≤ k = omega (arith, ends (middle a b), above.0, above.1) in
              rw (goes_right s a b f e i (omega (arith, has.0)))
              (has_key s (middle a b + 1) b (nearest f e (behind (middle a b))) e k i (near_above f e (behind (middle a b)) k from past) to above.2)
          | inr (inr here) ↦
              let before : k < behind (middle a b) = omega (arith, ends (middle a b), here.0, here.1) in
              rw (stays s a b f e i here.2)
              (near_above f e (low (middle a b)) k from here.0, near_below f e (behind (middle a b)) k to before)
        ]

    finds_by :
        (s a b f e k i : ℕ) → f ≤ e
        → ((c d g h : ℕ) → g ≤ h → c ≤ i → i < d → d - c ≤ s → Has k (keys_found low behind s c d g h i) → bisect low high s c d k ≡ Some i)
        → a ≤ i → i < b → b - a ≤ suc s → Has k (keys_found low behind (suc s) a b f e i)
        → ((i < middle a b) ⊎ ((middle a b ≡ i) ⊎ (middle a b < i)))
        → bisect low high (suc s) a b k ≡ Some i
    finds_by s a b f e k i some deeper from to long has (inl less) =
        let mid = middle_within a b (omega arith) in
        let lower = near_within f e (low (middle a b)) some in
        let left = keys_within s a (middle a b) f (nearest f e (low (middle a b))) i lower.0 in
        let there : Has k (keys_found low behind s a (middle a b) f (nearest f e (low (middle a b))) i) = subst (Has k) (goes_left s a b f e i less) has in
        let short : k < low (middle a b) =
        below_near f e (low (middle a b)) k (omega (arith, left.0, there.0)) (omega (arith, left.2, there.1)) in
        goes_below low high s a b k (omega arith) short
        ∙ deeper a (middle a b) f (nearest f e (low (middle a b))) lower.0 from less (omega (arith, mid.1)) there
    finds_by s a b f e k i some deeper from to long has (inr (inl same)) =
        let there : Has k (nearest f e (low (middle a b)), nearest f e (behind (middle a b))) = subst (Has k) (stays s a b f e i same) has in
        let lower = near_within f e (low (middle a b)) some in
        let upper = near_within f e (behind (middle a b)) some in
        let start : low (middle a b) ≤ k = above_near f e (low (middle a b)) k (omega (arith, there.1, upper.1)) there.0 in
        let short : k < behind (middle a b) = below_near f e (behind (middle a b)) k (omega (arith, lower.0, there.0)) there.1 in
        ends_there low high s a b k (omega arith) start (omega (arith, ends (middle a b), start, short)) ∙ ap Some same
    finds_by s a b f e k i some deeper from to long has (inr (inr more)) =
        let mid = middle_within a b (omega arith) in
        let upper = near_within f e (behind (middle a b)) some in
        let right = keys_within s (middle a b + 1) b (nearest f e (behind (middle a b))) e i upper.1 in
        let there : Has k (keys_found low behind s (middle a b + 1) b (nearest f e (behind (middle a b))) e i) = subst (Has k) (goes_right s a b f e i more) has in
        let past : behind (middle a b) ≤ k =
        above_near f e (behind (middle a b)) k (omega (arith, there.1, right.2)) (omega (arith, right.0, there.0)) in
        goes_above low high s a b k (omega arith) (omega (arith, wide (middle a b), past)) (omega (arith, ends (middle a b), past))
        ∙ deeper (middle a b + 1) b (nearest f e (behind (middle a b))) e upper.1 (omega (arith, more)) to (omega (arith, mid.0)) there

    pub finds_key :
        (s a b f e k i : ℕ) → f ≤ e → a ≤ i → i < b → b - a ≤ s → Has k (keys_found low behind s a b f e i)
        → bisect low high s a b k ≡ Some i
    finds_key zero a b f e k i some from to long has = absurd (omega arith)
    finds_key (suc s) a b f e k i some from to long has =
        finds_by s a b f e k i some (λ c d g h left. finds_key s c d g h k i left) from to long has (side (middle a b) i)

-- the way to a row that goes on among the rows from one on up to another, with the keys from one on up to another
pub record Narrows (low behind : ℕ → ℕ) (count keys i from to first end : ℕ) : Type 0 where
  pub steps : ℕ
  pub enough : to - from ≤ steps
  pub starts : from ≤ i
  pub stops : i < to
  pub within : to ≤ count
  pub some : first ≤ end
  pub few : end ≤ keys
  pub rest : keys_found low behind steps from to first end i ≡ keys_found low behind count 0 count 0 keys i

module _ (low behind : ℕ → ℕ) (wide : (m : ℕ) → low m ≤ behind m) (count keys i : ℕ) where
  pub narrows : i < count → Narrows low behind count keys i 0 count 0 keys
  narrows below = record {
    steps = count;
    enough = omega arith;
    starts = omega arith;
    stops = below;
    within = omega arith;
    some = omega arith;
    few = omega arith;
    rest = refl;
  }

  left_by :
      (s a b f e : ℕ) → b - a ≤ s → a ≤ i → i < b → b ≤ count → f ≤ e → e ≤ keys
      → keys_found low behind s a b f e i ≡ keys_found low behind count 0 count 0 keys i
      → i < middle a b
      → Narrows low behind count keys i a (middle a b) f (nearest f e (low (middle a b)))
  left_by zero a b f e enough starts stops within some few rest less = absurd (omega arith)
  left_by (suc s) a b f e enough starts stops within some few rest less =
      let mid = middle_within a b (omega arith) in
      let lower = near_within f e (low (middle a b)) some in
      record {
        steps = s;
        enough = omega (arith, mid.1);
        starts = starts;
        stops = less;
        within = omega (arith, mid.1);
        some = lower.0;
        few = omega (arith, lower.1);
        rest = sym (goes_left low behind wide s a b f e i less) ∙ rest;
      }

  pub on_left :
      (a b f e : ℕ) → Narrows low behind count keys i a b f e → i < middle a b
      → Narrows low behind count keys i a (middle a b) f (nearest f e (low (middle a b)))
  on_left a b f e way less =
      left_by way.steps a b f e way.enough way.starts way.stops way.within way.some way.few way.rest less

  right_by :
      (s a b f e : ℕ) → b - a ≤ s → a ≤ i → i < b → b ≤ count → f ≤ e → e ≤ keys
      → keys_found low behind s a b f e i ≡ keys_found low behind count 0 count 0 keys i
      → middle a b < i
      → Narrows low behind count keys i (middle a b + 1) b (nearest f e (behind (middle a b))) e
  right_by zero a b f e enough starts stops within some few rest more = absurd (omega arith)
  right_by (suc s) a b f e enough starts stops within some few rest more =
      let mid = middle_within a b (omega arith) in
      let upper = near_within f e (behind (middle a b)) some in
      record {
        steps = s;
        enough = omega (arith, mid.0);
        starts = omega (arith, more);
        stops = stops;
        within = within;
        some = upper.1;
        few = few;
        rest = sym (goes_right low behind wide s a b f e i more) ∙ rest;
      }

  pub on_right :
      (a b f e : ℕ) → Narrows low behind count keys i a b f e → middle a b < i
      → Narrows low behind count keys i (middle a b + 1) b (nearest f e (behind (middle a b))) e
  on_right a b f e way more =
      right_by way.steps a b f e way.enough way.starts way.stops way.within way.some way.few way.rest more

  here_by :
      (s a b f e : ℕ) → b - a ≤ s → a ≤ i → i < b
      → keys_found low behind s a b f e i ≡ keys_found low behind count 0 count 0 keys i
      → middle a b ≡ i
      → (nearest f e (low (middle a b)), nearest f e (behind (middle a b))) ≡ keys_found low behind count 0 count 0 keys i
  here_by zero a b f e enough starts stops rest here = absurd (omega arith)
  here_by (suc s) a b f e enough starts stops rest here = sym (stays low behind wide s a b f e i here) ∙ rest

  pub on_it :
      (a b f e : ℕ) → Narrows low behind count keys i a b f e → middle a b ≡ i
      → (nearest f e (low (middle a b)), nearest f e (behind (middle a b))) ≡ keys_found low behind count 0 count 0 keys i
  on_it a b f e way here = here_by way.steps a b f e way.enough way.starts way.stops way.rest here
