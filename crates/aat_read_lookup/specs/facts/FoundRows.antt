-- Rows of one key each: which a bisection finds, whatever their keys are, and that it finds each of keys that rise.
use Rattle.std.proofs.Common.{◌≡◌, ℕ, zero, suc, ◌+◌, ◌-◌, ◌<◌, ◌≤◌, ◌⊎◌, inl, inr, List, [], ◌∷◌, length, get_or, map, Bool, true, false, cond, Option, Some, None, refl, sym, ap, ◌∙◌, subst, arith}
use Rattle.std.specs.Prelude.{◌==◌, find, option_map, ◌&&◌}
use Rattle.std.specs.List.{filter, range_with_len}
use Rattle.std.specs.Option.{option_map_or}
use Rattle.std.proofs.lemmas.Bool.{cases_eq, cases_lt, cond-false, cond-true, eq-eqb, eqb-true, lt-ltb, ne_eqb}
use Rattle.std.proofs.lemmas.List.FromFn.{get_or-map-range_with_len, length-map-range_with_len}
use Rattle.aat_bytes.specs.Bisection.{bisect, found_rows, is_found, middle, row_found}
use Rattle.aat_bytes.specs.facts.Bisections.{ends_there, found_has, goes_above, goes_below, middle_within, ordered}
use Rattle.aat_lookup.specs.Keys.{at_key, fall_after, first_fall}
use Rattle.aat_lookup.specs.facts.Falls.{rising}

-- whether a place is the one that was found
abbrev pub is_at : Option ℕ → ℕ → Bool
is_at o i = option_map_or (λ found. found == i) o false

pub at_some : (o : Option ℕ) (i : ℕ) → is_at o i ≡ true → o ≡ Some i
at_some None i is = absurd (let wrong : ⊥ = cc in wrong)
at_some (Some j) i is = ap Some (eqb-true j i is)

pub some_at : (o : Option ℕ) (i : ℕ) → o ≡ Some i → is_at o i ≡ true
some_at o i is = ap (λ (p : Option ℕ). is_at p i) is ∙ eq-eqb i i refl

-- the first place of a range that is the one
no_place : (a n : ℕ) → find (is_at None) (range_with_len a n) ≡ None
no_place a zero = refl
no_place a (suc n) = no_place (a + 1) n

one_place : (j a n : ℕ) → a ≤ j → j < a + n → find (is_at (Some j)) (range_with_len a n) ≡ Some j
one_place j a zero low high = absurd (omega arith)
one_place j a (suc n) low high = elim (cases_eq j a) [
  | inl here ↦
      cond-true (j == a) (Some a) (find (is_at (Some j)) (range_with_len (a + 1) n)) (eq-eqb j a here) ∙ ap Some (sym here)
  | inr other ↦
      let behind : a + 1 ≤ j = grind (arith, other) in
      cond-false (j == a) (Some a) (find (is_at (Some j)) (range_with_len (a + 1) n)) (ne_eqb j a other)
      ∙ one_place j (a + 1) n behind (omega arith)
]

pub found_place : (o : Option ℕ) (n : ℕ) → ((j : ℕ) → o ≡ Some j → j < n) → find (is_at o) (range_with_len 0 n) ≡ o
found_place None n inside = no_place 0 n
found_place (Some j) n inside = one_place j 0 n (omega arith) (omega (arith, inside j refl))

-- two tests that are passed alike
pub find_alike :
    (p q : ℕ → Bool) (a n : ℕ) → ((i : ℕ) → a ≤ i → i < a + n → p i ≡ q i)
    → find p (range_with_len a n) ≡ find q (range_with_len a n)
find_alike p q a zero each = refl
find_alike p q a (suc n) each =
    ap (λ (b : Bool). cond b (Some a) (find p (range_with_len (a + 1) n))) (each a (omega arith) (omega arith))
    ∙ ap (λ (o : Option ℕ). cond (q a) (Some a) o)
    (find_alike p q (a + 1) n (λ i from to. each i (omega arith) (omega arith)))

pub same_tests : (b d : Bool) → (b ≡ true → d ≡ true) → (d ≡ true → b ≡ true) → b ≡ d
same_tests true d to from = sym (to refl)
same_tests false true to from = from refl
same_tests false false to from = refl

-- a filter that keeps all
keeps_all : (p : ℕ → Bool) (a n : ℕ) → ((i : ℕ) → a ≤ i → i < a + n → p i ≡ true) → filter p (range_with_len a n) ≡ range_with_len a n
keeps_all p a zero each = refl
keeps_all p a (suc n) each =
    cond-true (p a) (a ∷ filter p (range_with_len (a + 1) n)) (filter p (range_with_len (a + 1) n)) (each a (omega arith) (omega arith))
    ∙ ap (λ xs. a ∷ xs) (keeps_all p (a + 1) n (λ i from to. each i (omega arith) (omega arith)))

-- and one that keeps no more than there were
few_by : (b : Bool) (x n : ℕ) (ys : List ℕ) → length ys ≤ n → length (cond b (x ∷ ys) ys) ≤ suc n
few_by true x n ys few = omega (arith, few)
few_by false x n ys few = omega (arith, few)

pub keeps_few : (p : ℕ → Bool) (xs : List ℕ) → length (filter p xs) ≤ length xs
keeps_few p [] = omega arith
keeps_few p (x ∷ xs) = few_by (p x) x (length xs) (filter p xs) (keeps_few p xs)

and_true : (b : Bool) → (b && true) ≡ b
and_true true = refl
and_true false = refl

and_false : (b : Bool) → (b && false) ≡ false
and_false true = refl
and_false false = refl

never : (b : Bool) → (b ≡ true → ⊥) → b ≡ false
never true not = absurd (not refl)
never false not = refl

-- rows of one key each
module _ {X : Type 0} (key_of : X → ℕ) (row : ℕ → X) where
  abbrev key : ℕ → ℕ
  key i = key_of (row i)

  -- a row that is found has the key, and is found by its own
  pub found_key : (count k i : ℕ) → row_found key count k ≡ Some i → (i < count) × (key i ≡ k)
  found_key count k i is =
      let has = found_has key key count 0 count k i is in (has.1, omega (arith, has.2, has.3))

  -- rows that are found rise
  found_rise :
      (count i j : ℕ) → is_found key count i ≡ true → is_found key count j ≡ true → i < j → key i < key j
  found_rise count i j one two lt =
      ordered key key count 0 count (key i) (key j) i j
      (at_some (row_found key count (key i)) i one) (at_some (row_found key count (key j)) j two) lt

  -- what passes a test falls nowhere, if it rises
  module _ (p : ℕ → Bool) (rise : (i j : ℕ) → p i ≡ true → p j ≡ true → i < j → key i < key j) where
    no_fall_by :
        (b : Bool) (t k a : ℕ) (rest : List ℕ)
        → (b ≡ true → k < key a)
        → (b ≡ true → fall_after key_of (t + 1) (key a) (map row rest) ≡ None)
        → fall_after key_of t k (map row rest) ≡ None
        → fall_after key_of t k (map row (cond b (a ∷ rest) rest)) ≡ None
    no_fall_by true t k a rest above takes skips = rw (lt-ltb k (key a) (above refl)) (takes refl)
    no_fall_by false t k a rest above takes skips = skips

    no_fall_after :
        (t k a n : ℕ) → ((i : ℕ) → a ≤ i → p i ≡ true → k < key i)
        → fall_after key_of t k (map row (filter p (range_with_len a n))) ≡ None
    no_fall_after t k a zero above = refl
    no_fall_after t k a (suc n) above =
        no_fall_by (p a) t k a (filter p (range_with_len (a + 1) n)) (above a (omega arith))
        (λ here. no_fall_after (t + 1) (key a) (a + 1) n (λ i low is. rise a i here is (omega arith)))
        (no_fall_after t k (a + 1) n (λ i low is. above i (omega arith) is))

    no_first_by :
        (b : Bool) (a : ℕ) (rest : List ℕ)
        → (b ≡ true → fall_after key_of 1 (key a) (map row rest) ≡ None)
        → first_fall key_of (map row rest) ≡ None
        → first_fall key_of (map row (cond b (a ∷ rest) rest)) ≡ None
    no_first_by true a rest takes skips = takes refl
    no_first_by false a rest takes skips = skips

    no_first_fall : (a n : ℕ) → first_fall key_of (map row (filter p (range_with_len a n))) ≡ None
    no_first_fall a zero = refl
    no_first_fall a (suc n) =
        no_first_by (p a) a (filter p (range_with_len (a + 1) n))
        (λ here. no_fall_after 1 (key a) (a + 1) n (λ i low is. rise a i here is (omega arith)))
        (no_first_fall (a + 1) n)

  -- rows that are found rise strictly
  pub found_rows_rise : (count : ℕ) → first_fall key_of (map row (found_rows key count)) ≡ None
  found_rows_rise count = no_first_fall (is_found key count) (found_rise count) 0 count

  -- the row that has a key, among those that pass a test
  here_or_later :
      (c : Bool) (a : ℕ) (found : Option X) (others : Option ℕ)
      → found ≡ option_map row others
      → cond c (Some (row a)) found ≡ option_map row (cond c (Some a) others)
  here_or_later true a found others later = refl
  here_or_later false a found others later = later

  find_by :
      (b c : Bool) (k a : ℕ) (rest : List ℕ) (others : Option ℕ)
      → (b && (key a == k)) ≡ c
      → at_key key_of (map row rest) k ≡ option_map row others
      → at_key key_of (map row (cond b (a ∷ rest) rest)) k ≡ option_map row (cond c (Some a) others)
  find_by true c k a rest others same later =
      let P : Bool → Type 0 = λ d. cond (key a == k) (Some (row a)) (at_key key_of (map row rest) k) ≡ option_map row (cond d (Some a) others) in
      subst P same (here_or_later (key a == k) a (at_key key_of (map row rest) k) others later)
  find_by false c k a rest others same later =
      let P : Bool → Type 0 = λ d. at_key key_of (map row rest) k ≡ option_map row (cond d (Some a) others) in
      subst P same later

  find_passed :
      (p : ℕ → Bool) (k : ℕ) (o : Option ℕ) → ((i : ℕ) → (p i && (key i == k)) ≡ is_at o i)
      → (a n : ℕ)
      → at_key key_of (map row (filter p (range_with_len a n))) k
      ≡ option_map row (find (is_at o) (range_with_len a n))
  find_passed p k o same a zero = refl
  find_passed p k o same a (suc n) =
      find_by (p a) (is_at o a) k a (filter p (range_with_len (a + 1) n)) (find (is_at o) (range_with_len (a + 1) n)) (same a)
      (find_passed p k o same (a + 1) n)

  -- a row passes with a key exactly where a bisection finds it for the key
  passes_with : (count k i : ℕ) → (is_found key count i && (key i == k)) ≡ is_at (row_found key count k) i
  passes_with count k i = elim (cases_eq (key i) k) [
    | inl here ↦
        ap (λ b. is_found key count i && b) (eq-eqb (key i) k here) ∙ and_true (is_found key count i)
        ∙ ap (λ (l : ℕ). is_at (row_found key count l) i) here
    | inr other ↦
        ap (λ b. is_found key count i && b) (ne_eqb (key i) k other) ∙ and_false (is_found key count i)
        ∙ sym (never (is_at (row_found key count k) i) (λ is. other (found_key count k i (at_some (row_found key count k) i is)).1))
  ]

  -- the row that has a key, among those that are found, is what a bisection over all rows finds for it
  pub found_rows_have :
      (count k : ℕ) → at_key key_of (map row (found_rows key count)) k ≡ option_map row (row_found key count k)
  found_rows_have count k =
      find_passed (is_found key count) k (row_found key count k) (passes_with count k) 0 count
      ∙ ap (option_map row) (found_place (row_found key count k) count (λ j is. (found_key count k j is).0))

  -- where rows rise a bisection finds each
  module _ (count : ℕ) (rise : (i j : ℕ) → i < j → j < count → key i < key j) where
    finds_by :
        (s a b i : ℕ) → a ≤ i → i < b → b ≤ count → b - a ≤ suc s
        → ((c d : ℕ) → c ≤ i → i < d → d ≤ count → d - c ≤ s → bisect key key s c d (key i) ≡ Some i)
        → (i < middle a b) ⊎ (middle a b ≤ i)
        → bisect key key (suc s) a b (key i) ≡ Some i
    finds_by s a b i low high inside long deeper (inl below) =
        let mid = middle_within a b (omega arith) in
        let less : key i < key (middle a b) = rise i (middle a b) below (omega (arith, mid.1)) in
        goes_below key key s a b (key i) (omega arith) less ∙ deeper a (middle a b) low below (omega (arith, mid.1)) (omega (arith, mid.1))
    finds_by s a b i low high inside long deeper (inr up) =
        let mid = middle_within a b (omega arith) in
        elim (cases_eq (middle a b) i) [
          | inl here ↦
              let same : key (middle a b) ≡ key i = ap key here in
              ends_there key key s a b (key i) (omega arith) (omega (arith, same)) (omega (arith, same)) ∙ ap Some here
          | inr other ↦
              let above : middle a b < i = grind (arith, up, other) in
              let more : key (middle a b) < key i = rise (middle a b) i above (omega arith) in
              goes_above key key s a b (key i) (omega arith) (omega (arith, more)) more
              ∙ deeper (middle a b + 1) b (omega (arith, above)) high inside (omega (arith, mid.0))
        ]

    pub finds : (s a b i : ℕ) → a ≤ i → i < b → b ≤ count → b - a ≤ s → bisect key key s a b (key i) ≡ Some i
    finds zero a b i low high inside long = absurd (omega arith)
    finds (suc s) a b i low high inside long =
        finds_by s a b i low high inside long (λ c d. finds s c d i) (cases_lt i (middle a b))

    all_are_found : found_rows key count ≡ range_with_len 0 count
    all_are_found =
        keeps_all (is_found key count) 0 count (λ i low high.
        some_at (row_found key count (key i)) i (finds count 0 count i (omega arith) (omega arith) (omega arith) (omega arith)))

  -- rows whose keys rise one by one rise
  rows_rise :
      (count : ℕ) → first_fall key_of (map row (range_with_len 0 count)) ≡ None
      → (i j : ℕ) → i < j → j < count → key i < key j
  rows_rise count none i j lt inside =
      let all : List X = map row (range_with_len 0 count) in
      let long : length all ≡ count = length-map-range_with_len row 0 count in
      let at : (i : ℕ) → i < count → (d : X) → get_or all i d ≡ row i =
      λ i lt d. get_or-map-range_with_len row 0 count i i d lt (omega arith) in
      let d : X = row 0 in
      let rises : key_of (get_or all i d) < key_of (get_or all j d) = rising key_of all none i j d lt (omega (arith, long)) in
      omega (arith, rises, ap key_of (at i (omega arith) d), ap key_of (at j inside d))

  -- so the row that is found is the one that has the key
  pub rising_found :
      (count k : ℕ) → first_fall key_of (map row (range_with_len 0 count)) ≡ None
      → row_found key count k ≡ find (λ i. key i == k) (range_with_len 0 count)
  rising_found count k none =
      let o : Option ℕ = row_found key count k in
      let alike : (i : ℕ) → 0 ≤ i → i < 0 + count → is_at (row_found key count k) i ≡ (key i == k) =
      λ i from to.
      same_tests (is_at (row_found key count k) i) (key i == k)
      (λ is. eq-eqb (key i) k (found_key count k i (at_some (row_found key count k) i is)).1)
      (λ is.
      let same : key i ≡ k = eqb-true (key i) k is in
      some_at (row_found key count k) i
      (ap (row_found key count) (sym same)
      ∙ finds count (rows_rise count none) count 0 count i (omega arith) (omega arith) (omega arith) (omega arith))) in
      sym (found_place (row_found key count k) count (λ j is. (found_key count k j is).0))
      ∙ find_alike (is_at (row_found key count k)) (λ i. key i == k) 0 count alike

  -- and rows that rise are the rows that are found
  pub rising_are_found :
      (count : ℕ) → first_fall key_of (map row (range_with_len 0 count)) ≡ None
      → map row (found_rows key count) ≡ map row (range_with_len 0 count)
  rising_are_found count none = ap (map row) (all_are_found count (rows_rise count none))
