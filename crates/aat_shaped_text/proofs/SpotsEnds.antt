-- The first and the last cluster that removal leaves.
use Rattle.std.proofs.Common.{◌≡◌, ◌∙◌, sym, ap, refl, ℕ, zero, suc, ◌≤◌, ◌==◌, ◌||◌, Bool, true, false, cond, List, [], ◌∷◌, length, nat_lt, arith, true≢false, le_refl, le_trans}
use Rattle.std.proofs.lemmas.Bool.{eqb-true}
use Rattle.std.proofs.lemmas.Bool.Decides.{nat_tests}
use Rattle.aat_shaped_text.proofs.Spots.{Spot, begins_with, filled_lowered, is_filled, lefts, length_raised, lower, lower_run, lowered, merge_run, raised, some_stays, stays_raised}

-- the first of some numbers, 0 where there is none
abbrev pub head_of : List ℕ → ℕ
head_of [] = 0
head_of (x ∷ xs) = x

-- the last of them, d where there is none
abbrev pub last_of : ℕ → List ℕ → ℕ
last_of d [] = d
last_of d (x ∷ xs) = last_of x xs

-- the cluster of the last glyph, d where there is none
abbrev pub last_from : ℕ → List Spot → ℕ
last_from d [] = d
last_from d (s ∷ rest) = last_from s.1 rest

last_lower_run :
    (e c d d' : ℕ) (xs : List ℕ) → c ≤ e → d' ≤ d → last_of d' (lower_run e c xs) ≤ last_of d xs
last_lower_run e c d d' [] low under = under
last_lower_run e c d d' (x ∷ xs) low under = by (last_lower_run e c x c xs low) (x == e) refl
  where
    by : (c ≤ x → last_of c (lower_run e c xs) ≤ last_of x xs) → (t : Bool) → (x == e) ≡ t
        → last_of d' (cond t (c ∷ lower_run e c xs) (x ∷ xs)) ≤ last_of x xs
    by below true is = let same : x ≡ e = eqb-true x e is in below (omega (arith, low, same))
    by below false is = le_refl _

last_lower : (c : ℕ) (xs : List ℕ) → last_of 0 (lower c xs) ≤ last_of 0 xs
last_lower c [] = le_refl _
last_lower c (x ∷ xs) = by (nat_lt c x) refl
  where
    by : (t : Bool) → nat_lt c x ≡ t → last_of 0 (cond t (lower_run x c (x ∷ xs)) (x ∷ xs)) ≤ last_of x xs
    by true is = let low : c ≤ x = grind (arith, nat_tests, is) in last_lower_run x c 0 0 (x ∷ xs) low (le_refl _)
    by false is = le_refl _

last_lowered : (c : ℕ) (xs : List ℕ) (rest : List Spot) → last_of 0 (lowered xs c rest) ≤ last_of 0 xs
last_lowered c xs rest = by (begins_with c rest)
  where
    by : (t : Bool) → last_of 0 (cond t xs (lower c xs)) ≤ last_of 0 xs
    by true = le_refl _
    by false = last_lower c xs

last_more : (c : ℕ) (xs : List ℕ) → is_filled xs ≡ true → last_of 0 (c ∷ xs) ≡ last_of 0 xs
last_more c [] filled = absurd (true≢false (sym filled))
last_more c (x ∷ xs) filled = refl

last_of_lefts : (n : ℕ) (xs : List ℕ) (rest : List Spot) → is_filled xs ≡ true → last_of 0 (lefts n xs rest) ≤ last_of 0 xs
last_of_lefts zero xs rest filled = le_refl _
last_of_lefts (suc n) xs [] filled = le_refl _
last_of_lefts (suc n) xs ((false, c) ∷ rest) filled =
    let step : last_of 0 (lefts n (c ∷ xs) rest) ≤ last_of 0 (c ∷ xs) = last_of_lefts n (c ∷ xs) rest refl in
    let same : last_of 0 (c ∷ xs) ≡ last_of 0 xs = last_more c xs filled in
    omega (arith, step, same)
last_of_lefts (suc n) xs ((true, c) ∷ rest) filled =
    le_trans (last_of_lefts n (lowered xs c rest) (raised xs c rest) (filled_lowered xs c rest ∙ filled)) (last_lowered c xs rest)

-- the first glyph, which stays, is left with a cluster that is not above its own
pub first_is_low : (n c : ℕ) (rest : List Spot) → last_of 0 (lefts (suc n) [] ((false, c) ∷ rest)) ≤ c
first_is_low n c rest = last_of_lefts n (c ∷ []) rest refl

last_merge_run :
    (e c d d' : ℕ) (rest : List Spot) → c ≤ e → d' ≤ d → last_from d' (merge_run e c rest) ≤ last_from d rest
last_merge_run e c d d' [] low under = under
last_merge_run e c d d' (s ∷ rest) low under = by (last_merge_run e c s.1 c rest low) (s.1 == e) refl
  where
    by : (c ≤ s.1 → last_from c (merge_run e c rest) ≤ last_from s.1 rest) → (t : Bool) → (s.1 == e) ≡ t
        → last_from d' (cond t ((s.0, c) ∷ merge_run e c rest) (s ∷ rest)) ≤ last_from s.1 rest
    by below true is = let same : s.1 ≡ e = eqb-true s.1 e is in below (omega (arith, low, same))
    by below false is = le_refl _

last_raised : (xs : List ℕ) (c : ℕ) (rest : List Spot) → last_from 0 (raised xs c rest) ≤ last_from 0 rest
last_raised (x ∷ xs) c rest = le_refl _
last_raised [] c [] = le_refl _
last_raised [] c (s ∷ rest) = by (nat_lt c s.1) refl
  where
    by : (t : Bool) → nat_lt c s.1 ≡ t
        → last_from 0 (cond t (merge_run s.1 c (s ∷ rest)) (s ∷ rest)) ≤ last_from s.1 rest
    by true is = let low : c ≤ s.1 = grind (arith, nat_tests, is) in last_merge_run s.1 c 0 0 (s ∷ rest) low (le_refl _)
    by false is = le_refl _

head_lower : (c : ℕ) (xs : List ℕ) → is_filled xs ≡ true → head_of (lower c xs) ≤ c
head_lower c [] filled = absurd (true≢false (sym filled))
head_lower c (x ∷ xs) filled = by (nat_lt c x) refl (x == x) refl
  where
    by : (t : Bool) → nat_lt c x ≡ t → (u : Bool) → (x == x) ≡ u
        → head_of (cond t (cond u (c ∷ lower_run x c xs) (x ∷ xs)) (x ∷ xs)) ≤ c
    by true is true same = le_refl _
    by true is false other = grind (arith, nat_tests, other)
    by false is u same = grind (arith, nat_tests, is)

-- the last glyph that is left has a cluster that is not above that of the last glyph, which may have gone
pub last_is_low :
    (n l : ℕ) (front : List ℕ) (rest : List Spot) → length rest ≡ suc n → last_from 0 rest ≤ l
    → (is_filled front || some_stays rest) ≡ true → head_of (lefts (suc n) front rest) ≤ l
last_is_low zero l front [] long low some = absurd (omega (arith, long))
last_is_low zero l front ((false, c) ∷ []) long low some = low
last_is_low zero l front ((true, c) ∷ []) long low some = le_trans (head_lower c front (unfilled front some)) low
  where
    unfilled : (front : List ℕ) → (is_filled front || false) ≡ true → is_filled front ≡ true
    unfilled [] e = e
    unfilled (x ∷ front) e = refl
last_is_low zero l front (s ∷ (t ∷ rest)) long low some = absurd (omega (arith, long))
last_is_low (suc n) l front [] long low some = absurd (omega (arith, long))
last_is_low (suc n) l front (s ∷ []) long low some = absurd (omega (arith, long))
last_is_low (suc n) l front ((false, c) ∷ (t ∷ rest)) long low some =
    last_is_low n l (c ∷ front) (t ∷ rest) (omega (arith, long)) low refl
last_is_low (suc n) l front ((true, c) ∷ (t ∷ rest)) long low some =
    last_is_low n l (lowered front c (t ∷ rest)) (raised front c (t ∷ rest))
    (length_raised front c (t ∷ rest) ∙ omega (arith, long)) (le_trans (last_raised front c (t ∷ rest)) low)
    (ap (λ (u : Bool). u || some_stays (raised front c (t ∷ rest))) (filled_lowered front c (t ∷ rest))
    ∙ (ap (λ (u : Bool). is_filled front || u) (stays_raised front c (t ∷ rest)) ∙ some))
