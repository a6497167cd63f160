-- Removal, told of what it asks of a glyph alone: whether it goes, and its cluster.
use Rattle.std.proofs.Common.{◌≡◌, ap, refl, ℕ, zero, suc, ◌==◌, ◌||◌, Bool, true, false, not, cond, List, [], ◌∷◌, length, nat_lt, if◌then◌else◌}

-- whether a glyph goes, and its cluster
abbrev pub Spot : Type 0
Spot = Bool × ℕ

-- the clusters in front that are e, up to the first other one, become c
abbrev pub lower_run : ℕ → ℕ → List ℕ → List ℕ
lower_run e c [] = []
lower_run e c (x ∷ xs) = if x == e then c ∷ lower_run e c xs else x ∷ xs

-- those kept, the last one first: where its cluster is above c it becomes c, and so do those that share it
abbrev pub lower : ℕ → List ℕ → List ℕ
lower c [] = []
lower c (x ∷ xs) = if nat_lt c x then lower_run x c (x ∷ xs) else x ∷ xs

-- the first glyph has the cluster c
abbrev pub begins_with : ℕ → List Spot → Bool
begins_with c [] = false
begins_with c (s ∷ rest) = s.1 == c

-- those kept, before a glyph of cluster c goes
abbrev pub lowered : List ℕ → ℕ → List Spot → List ℕ
lowered front c rest = if begins_with c rest then front else lower c front

-- the clusters in front that are e, up to the first other one, become c
abbrev pub merge_run : ℕ → ℕ → List Spot → List Spot
merge_run e c [] = []
merge_run e c (s ∷ rest) = if s.1 == e then (s.0, c) ∷ merge_run e c rest else s ∷ rest

-- the next glyph, and those that share its cluster, are merged with one of cluster c
abbrev pub merge_next : ℕ → List Spot → List Spot
merge_next c [] = []
merge_next c (s ∷ rest) = if nat_lt c s.1 then merge_run s.1 c (s ∷ rest) else s ∷ rest

-- those to come, before a glyph of cluster c goes
abbrev pub raised : List ℕ → ℕ → List Spot → List Spot
raised [] c rest = merge_next c rest
raised (x ∷ xs) c rest = rest

-- the clusters that are left behind n glyphs, the last one first
abbrev pub lefts : ℕ → List ℕ → List Spot → List ℕ
lefts zero front rest = front
lefts (suc n) front [] = front
lefts (suc n) front ((false, c) ∷ rest) = lefts n (c ∷ front) rest
lefts (suc n) front ((true, c) ∷ rest) = lefts n (lowered front c rest) (raised front c rest)

-- all clusters pass a test
abbrev pub AllFront : (ℕ → Bool) → List ℕ → Type 0
AllFront p [] = Unit {0}
AllFront p (x ∷ xs) = (p x ≡ true) × AllFront p xs

abbrev pub AllRest : (ℕ → Bool) → List Spot → Type 0
AllRest p [] = Unit {0}
AllRest p (s ∷ rest) = (p s.1 ≡ true) × AllRest p rest

-- some glyph stays
abbrev pub some_stays : List Spot → Bool
some_stays [] = false
some_stays (s ∷ rest) = not s.0 || some_stays rest

-- the first glyph that stays has cluster c, and so have those before it
abbrev pub BeginsKept : ℕ → List Spot → Type 0
BeginsKept c [] = ⊥
BeginsKept c ((true, e) ∷ rest) = (e ≡ c) × BeginsKept c rest
BeginsKept c ((false, e) ∷ rest) = e ≡ c

-- there is one
abbrev pub is_filled : List ℕ → Bool
is_filled [] = false
is_filled (x ∷ xs) = true

module _ (p : ℕ → Bool) where
  all_lower_run : (e c : ℕ) (xs : List ℕ) → p c ≡ true → AllFront p xs → AllFront p (lower_run e c xs)
  all_lower_run e c [] is all = tt
  all_lower_run e c (x ∷ xs) is all = by (all_lower_run e c xs is all.1) (x == e)
    where
      by : AllFront p (lower_run e c xs) → (t : Bool) → AllFront p (cond t (c ∷ lower_run e c xs) (x ∷ xs))
      by below true = (is, below)
      by below false = all

  all_lower : (c : ℕ) (xs : List ℕ) → p c ≡ true → AllFront p xs → AllFront p (lower c xs)
  all_lower c [] is all = tt
  all_lower c (x ∷ xs) is all = by (nat_lt c x)
    where
      by : (t : Bool) → AllFront p (cond t (lower_run x c (x ∷ xs)) (x ∷ xs))
      by true = all_lower_run x c (x ∷ xs) is all
      by false = all

  pub all_lowered :
      (c : ℕ) (xs : List ℕ) (rest : List Spot) → p c ≡ true → AllFront p xs → AllFront p (lowered xs c rest)
  all_lowered c xs rest is all = by (begins_with c rest)
    where
      by : (t : Bool) → AllFront p (cond t xs (lower c xs))
      by true = all
      by false = all_lower c xs is all

  all_merge_run : (e c : ℕ) (rest : List Spot) → p c ≡ true → AllRest p rest → AllRest p (merge_run e c rest)
  all_merge_run e c [] is all = tt
  all_merge_run e c (s ∷ rest) is all = by (all_merge_run e c rest is all.1) (s.1 == e)
    where
      by : AllRest p (merge_run e c rest) → (t : Bool) → AllRest p (cond t ((s.0, c) ∷ merge_run e c rest) (s ∷ rest))
      by below true = (is, below)
      by below false = all

  pub all_raised :
      (c : ℕ) (xs : List ℕ) (rest : List Spot) → p c ≡ true → AllRest p rest → AllRest p (raised xs c rest)
  all_raised c (x ∷ xs) rest is all = all
  all_raised c [] [] is all = tt
  all_raised c [] (s ∷ rest) is all = by (nat_lt c s.1)
    where
      by : (t : Bool) → AllRest p (cond t (merge_run s.1 c (s ∷ rest)) (s ∷ rest))
      by true = all_merge_run s.1 c (s ∷ rest) is all
      by false = all

  -- what passes is left of what passes
  pub all_lefts : (n : ℕ) (xs : List ℕ) (rest : List Spot) → AllFront p xs → AllRest p rest → AllFront p (lefts n xs rest)
  all_lefts zero xs rest front all = front
  all_lefts (suc n) xs [] front all = front
  all_lefts (suc n) xs ((false, c) ∷ rest) front all = all_lefts n (c ∷ xs) rest (all.0, front) all.1
  all_lefts (suc n) xs ((true, c) ∷ rest) front all =
      all_lefts n (lowered xs c rest) (raised xs c rest) (all_lowered c xs rest all.0 front)
      (all_raised c xs rest all.0 all.1)

-- as many as before
length_merge_run : (e c : ℕ) (rest : List Spot) → length (merge_run e c rest) ≡ length rest
length_merge_run e c [] = refl
length_merge_run e c (s ∷ rest) = by (length_merge_run e c rest) (s.1 == e)
  where
    by : length (merge_run e c rest) ≡ length rest
        → (t : Bool) → length (cond t ((s.0, c) ∷ merge_run e c rest) (s ∷ rest)) ≡ suc (length rest)
    by below true = ap suc below
    by below false = refl

pub length_raised : (xs : List ℕ) (c : ℕ) (rest : List Spot) → length (raised xs c rest) ≡ length rest
length_raised (x ∷ xs) c rest = refl
length_raised [] c [] = refl
length_raised [] c (s ∷ rest) = by (nat_lt c s.1)
  where
    by : (t : Bool) → length (cond t (merge_run s.1 c (s ∷ rest)) (s ∷ rest)) ≡ suc (length rest)
    by true = length_merge_run s.1 c (s ∷ rest)
    by false = refl

-- merging keeps which glyphs stay
stays_merge_run : (e c : ℕ) (rest : List Spot) → some_stays (merge_run e c rest) ≡ some_stays rest
stays_merge_run e c [] = refl
stays_merge_run e c (s ∷ rest) = by (stays_merge_run e c rest) (s.1 == e)
  where
    by : some_stays (merge_run e c rest) ≡ some_stays rest
        → (t : Bool) → some_stays (cond t ((s.0, c) ∷ merge_run e c rest) (s ∷ rest)) ≡ (not s.0 || some_stays rest)
    by below true = ap (λ t. not s.0 || t) below
    by below false = refl

pub stays_raised : (xs : List ℕ) (c : ℕ) (rest : List Spot) → some_stays (raised xs c rest) ≡ some_stays rest
stays_raised (x ∷ xs) c rest = refl
stays_raised [] c [] = refl
stays_raised [] c (s ∷ rest) = by (nat_lt c s.1)
  where
    by : (t : Bool) → some_stays (cond t (merge_run s.1 c (s ∷ rest)) (s ∷ rest)) ≡ (not s.0 || some_stays rest)
    by true = stays_merge_run s.1 c (s ∷ rest)
    by false = refl

-- lowering keeps how many there are
filled_lower : (c : ℕ) (xs : List ℕ) → is_filled (lower c xs) ≡ is_filled xs
filled_lower c [] = refl
filled_lower c (x ∷ xs) = by (nat_lt c x) (x == x)
  where
    by : (t u : Bool) → is_filled (cond t (cond u (c ∷ lower_run x c xs) (x ∷ xs)) (x ∷ xs)) ≡ true
    by true true = refl
    by true false = refl
    by false u = refl

pub filled_lowered : (xs : List ℕ) (c : ℕ) (rest : List Spot) → is_filled (lowered xs c rest) ≡ is_filled xs
filled_lowered xs c rest = by (begins_with c rest)
  where
    by : (t : Bool) → is_filled (cond t xs (lower c xs)) ≡ is_filled xs
    by true = refl
    by false = filled_lower c xs
