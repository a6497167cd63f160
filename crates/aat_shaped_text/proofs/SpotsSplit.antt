-- Removal of two lines behind one another, of which no cluster of one is one of the other.
use Rattle.std.proofs.Common.{◌≡◌, ◌∙◌, sym, ap, refl, ℕ, zero, suc, ◌+◌, ◌==◌, ◌||◌, Bool, true, false, cond, List, [], ◌∷◌, ◌++◌, length, nat_lt, arith, true≢false}
use Rattle.std.proofs.lemmas.Bool.{eqb-true}
use Rattle.aat_shaped_text.proofs.Spots.{Spot, AllFront, AllRest, all_lowered, all_raised, begins_with, filled_lowered, is_filled, lefts, length_raised, lower, lower_run, lowered, merge_run, raised, some_stays, stays_raised}

-- what passes a test and what does not are two
apart : (p : ℕ → Bool) (x y : ℕ) → p x ≡ true → p y ≡ false → (y == x) ≡ false
apart p x y has lacks = by (y == x) refl
  where
    by : (t : Bool) → (y == x) ≡ t → t ≡ false
    by false e = refl
    by true e = absurd (true≢false (sym has ∙ (ap p (sym (eqb-true y x e)) ∙ lacks)))

-- a line whose first glyph fails the test, and none is in order too
abbrev pub begins_without : (ℕ → Bool) → List Spot → Type 0
begins_without p [] = Unit {0}
begins_without p (s ∷ rest) = p s.1 ≡ false

abbrev pub front_without : (ℕ → Bool) → List ℕ → Type 0
front_without p [] = Unit {0}
front_without p (x ∷ xs) = p x ≡ false

module _ (p : ℕ → Bool) where
  begins_elsewhere : (c : ℕ) (ys : List Spot) → p c ≡ true → begins_without p ys → begins_with c ys ≡ false
  begins_elsewhere c [] is without = refl
  begins_elsewhere c (s ∷ ys) is without = apart p c s.1 is without

  merge_run_split :
      (e c : ℕ) (xs ys : List Spot) → p e ≡ true → begins_without p ys
      → merge_run e c (xs ++ ys) ≡ merge_run e c xs ++ ys
  merge_run_split e c [] [] is without = refl
  merge_run_split e c [] (s ∷ ys) is without =
      ap (λ (t : Bool). cond t ((s.0, c) ∷ merge_run e c ys) (s ∷ ys)) (apart p e s.1 is without)
  merge_run_split e c (s ∷ xs) ys is without = by (merge_run_split e c xs ys is without) (s.1 == e)
    where
      by : merge_run e c (xs ++ ys) ≡ merge_run e c xs ++ ys → (t : Bool)
          → cond t ((s.0, c) ∷ merge_run e c (xs ++ ys)) (s ∷ (xs ++ ys))
          ≡ cond t ((s.0, c) ∷ merge_run e c xs) (s ∷ xs) ++ ys
      by below true = ap (λ zs. (s.0, c) ∷ zs) below
      by below false = refl

  raised_split :
      (front : List ℕ) (c : ℕ) (s : Spot) (xs ys : List Spot) → p s.1 ≡ true → begins_without p ys
      → raised front c (s ∷ (xs ++ ys)) ≡ raised front c (s ∷ xs) ++ ys
  raised_split (x ∷ front) c s xs ys is without = refl
  raised_split [] c s xs ys is without = by (nat_lt c s.1)
    where
      by : (t : Bool) → cond t (merge_run s.1 c (s ∷ (xs ++ ys))) (s ∷ (xs ++ ys))
          ≡ cond t (merge_run s.1 c (s ∷ xs)) (s ∷ xs) ++ ys
      by true = merge_run_split s.1 c (s ∷ xs) ys is without
      by false = refl

  raised_filled : (front : List ℕ) (c : ℕ) (rest : List Spot) → is_filled front ≡ true → raised front c rest ≡ rest
  raised_filled (x ∷ front) c rest filled = refl
  raised_filled [] c rest filled = absurd (true≢false (sym filled))

  -- the first line, before a second one whose first glyph fails the test that all of the first pass
  pub lefts_first :
      (n m : ℕ) (front : List ℕ) (xs ys : List Spot) → length xs ≡ n
      → AllFront p front → AllRest p xs → begins_without p ys → (is_filled front || some_stays xs) ≡ true
      → lefts (n + m) front (xs ++ ys) ≡ lefts m (lefts n front xs) ys
  lefts_first zero m front [] ys long all rest without some = ap (λ k. lefts k front ys) (omega arith)
  lefts_first zero m front (s ∷ xs) ys long all rest without some = absurd (omega (arith, long))
  lefts_first (suc n) m front [] ys long all rest without some = absurd (omega (arith, long))
  lefts_first (suc n) m front ((false, c) ∷ xs) ys long all rest without some =
      let next : suc n + m ≡ suc (n + m) = omega arith in
      ap (λ k. lefts k front ((false, c) ∷ (xs ++ ys))) next
      ∙ lefts_first n m (c ∷ front) xs ys (omega (arith, long)) (rest.0, all) rest.1 without refl
  lefts_first (suc n) m front ((true, c) ∷ []) ys long all rest without some =
      let next : suc n + m ≡ suc (n + m) = omega arith in
      let none : n ≡ 0 = omega (arith, long) in
      let filled : is_filled front ≡ true = unfilled front some in
      ap (λ k. lefts k front ((true, c) ∷ ys)) next
      ∙ (ap (λ zs. lefts (n + m) (lowered front c ys) zs) (raised_filled front c ys filled)
      ∙ (ap (λ (t : Bool). lefts (n + m) (cond t front (lower c front)) ys) (begins_elsewhere c ys rest.0 without)
      ∙ (ap (λ k. lefts (k + m) (lower c front) ys) none
      ∙ (ap (λ k. lefts k (lower c front) ys) (zero_more m)
      ∙ sym (ap (λ k. lefts m (lefts k (lower c front) (raised front c [])) ys) none)))))
    where
      unfilled : (front : List ℕ) → (is_filled front || false) ≡ true → is_filled front ≡ true
      unfilled [] e = e
      unfilled (x ∷ front) e = refl

      zero_more : (m : ℕ) → 0 + m ≡ m
      zero_more m = omega arith
  lefts_first (suc n) m front ((true, c) ∷ (s ∷ xs)) ys long all rest without some =
      let next : suc n + m ≡ suc (n + m) = omega arith in
      ap (λ k. lefts k front ((true, c) ∷ (s ∷ (xs ++ ys)))) next
      ∙ (ap (λ zs. lefts (n + m) (lowered front c (s ∷ xs)) zs) (raised_split front c s xs ys rest.1.0 without)
      ∙ lefts_first n m (lowered front c (s ∷ xs)) (raised front c (s ∷ xs)) ys
      (length_raised front c (s ∷ xs) ∙ omega (arith, long))
      (all_lowered p c front (s ∷ xs) rest.0 all)
      (all_raised p c front (s ∷ xs) rest.0 rest.1) without
      (ap (λ (t : Bool). t || some_stays (raised front c (s ∷ xs))) (filled_lowered front c (s ∷ xs))
      ∙ (ap (λ (t : Bool). is_filled front || t) (stays_raised front c (s ∷ xs)) ∙ some)))

  lower_run_split :
      (e c : ℕ) (xs ys : List ℕ) → p e ≡ true → front_without p ys
      → lower_run e c (xs ++ ys) ≡ lower_run e c xs ++ ys
  lower_run_split e c [] [] is without = refl
  lower_run_split e c [] (y ∷ ys) is without =
      ap (λ (t : Bool). cond t (c ∷ lower_run e c ys) (y ∷ ys)) (apart p e y is without)
  lower_run_split e c (x ∷ xs) ys is without = by (lower_run_split e c xs ys is without) (x == e)
    where
      by : lower_run e c (xs ++ ys) ≡ lower_run e c xs ++ ys → (t : Bool)
          → cond t (c ∷ lower_run e c (xs ++ ys)) (x ∷ (xs ++ ys)) ≡ cond t (c ∷ lower_run e c xs) (x ∷ xs) ++ ys
      by below true = ap (λ zs. c ∷ zs) below
      by below false = refl

  lowered_split :
      (xs ys : List ℕ) (c : ℕ) (rest : List Spot) → is_filled xs ≡ true → AllFront p xs → front_without p ys
      → lowered (xs ++ ys) c rest ≡ lowered xs c rest ++ ys
  lowered_split [] ys c rest filled all without = absurd (true≢false (sym filled))
  lowered_split (x ∷ xs) ys c rest filled all without = by (begins_with c rest) (nat_lt c x)
    where
      by : (t u : Bool)
          → cond t (x ∷ (xs ++ ys)) (cond u (lower_run x c (x ∷ (xs ++ ys))) (x ∷ (xs ++ ys)))
          ≡ cond t (x ∷ xs) (cond u (lower_run x c (x ∷ xs)) (x ∷ xs)) ++ ys
      by true u = refl
      by false true = lower_run_split x c (x ∷ xs) ys all.0 without
      by false false = refl

  filled_append : (xs ys : List ℕ) → is_filled xs ≡ true → is_filled (xs ++ ys) ≡ true
  filled_append [] ys filled = absurd (true≢false (sym filled))
  filled_append (x ∷ xs) ys filled = refl

  -- a second line, behind what is kept of a first one, which fails the test that all of the second pass
  pub lefts_second :
      (n : ℕ) (xs ys : List ℕ) (rest : List Spot)
      → is_filled xs ≡ true → AllFront p xs → AllRest p rest → front_without p ys
      → lefts n (xs ++ ys) rest ≡ lefts n xs rest ++ ys
  lefts_second zero xs ys rest filled all some without = refl
  lefts_second (suc n) xs ys [] filled all some without = refl
  lefts_second (suc n) xs ys ((false, c) ∷ rest) filled all some without =
      lefts_second n (c ∷ xs) ys rest refl (some.0, all) some.1 without
  lefts_second (suc n) xs ys ((true, c) ∷ rest) filled all some without =
      ap (λ zs. lefts n (lowered (xs ++ ys) c rest) zs)
      (raised_filled (xs ++ ys) c rest (filled_append xs ys filled) ∙ sym (raised_filled xs c rest filled))
      ∙ (ap (λ zs. lefts n zs (raised xs c rest)) (lowered_split xs ys c rest filled all without)
      ∙ lefts_second n (lowered xs c rest) ys (raised xs c rest) (filled_lowered xs c rest ∙ filled)
      (all_lowered p c xs rest some.0 all) (all_raised p c xs rest some.0 some.1) without)
