-- Steps over a list that is changed in parts.
use Rattle.std.proofs.Common.{◌≡◌, ℕ, zero, suc, ◌+◌, ◌-◌, ◌<◌, ◌≤◌, Bool, true, false, cond, List, [], ◌∷◌, ◌++◌, length, reverse, take, drop, get_or, slice_range, refl, sym, ap, ap₂, ◌∙◌, append_assoc, append-nil, arith}
use Rattle.std.proofs.lemmas.Bool.{cond-false, cond-true}
use Rattle.std.proofs.lemmas.List.{drop_more, drop_all, take_all, take_rest}
use Rattle.std.proofs.lemmas.List.{length-append, reverse-append, reverse-reverse}
use Rattle.std.proofs.lemmas.List.Concat.{flat_map-append}
use Rattle.std.specs.List.{flat_map, fold}
use Rattle.std.specs.Prelude.{if◌then◌else◌}
use Rattle.aat_characters.specs.Parts.{last_part, parts_of, with_next}

module _ {X : Type 0} (joins : List X → X → Bool) (change : List X → List X) where
  -- what is made of a list behind the beginning of a part, where each part is changed by itself
  abbrev pub in_parts : List X → List X → List X
  in_parts part [] = change part
  in_parts part (x ∷ xs) =
      if joins part x then in_parts (part ++ x ∷ []) xs else change part ++ in_parts (x ∷ []) xs

-- one more element of the elements before a place
pub take_next : {X : Type 0} (xs : List X) (n : ℕ) (x : X) (rest : List X) → drop n xs ≡ x ∷ rest → take (n + 1) xs ≡ take n xs ++ x ∷ []
take_next [] zero x rest e = cc
take_next [] (suc n) x rest e = cc
take_next (y ∷ ys) zero x rest e = let same : y ≡ x = cc in ap (λ z. z ∷ []) same
take_next (y ∷ ys) (suc n) x rest e =
    let next : suc n + 1 ≡ suc (n + 1) = omega arith in
    ap (λ k. take k (y ∷ ys)) next ∙ ap (λ zs. y ∷ zs) (take_next ys n x rest e)

drop_drop : {X : Type 0} (xs : List X) (m n : ℕ) → drop m (drop n xs) ≡ drop (n + m) xs
drop_drop xs m zero = let e : 0 + m ≡ m = omega arith in ap (λ k. drop k xs) (sym e)
drop_drop [] zero (suc n) = let e : suc n + 0 ≡ suc n = omega arith in ap (λ k. drop k []) (sym e)
drop_drop [] (suc m) (suc n) = let e : suc n + suc m ≡ suc (n + suc m) = omega arith in ap (λ k. drop k []) (sym e)
drop_drop (x ∷ xs) m (suc n) =
    let e : suc n + m ≡ suc (n + m) = omega arith in drop_drop xs m n ∙ ap (λ k. drop k (x ∷ xs)) (sym e)

module _ {X : Type 0} (joins : List X → X → Bool) (change : List X → List X) (xs : List X) (start i : ℕ) (d : X) (le : start ≤ i) (lt : i < length xs) where
  -- the part grows by an element
  grown : slice_range xs start (i + 1) ≡ slice_range xs start i ++ get_or xs i d ∷ []
  grown =
      let count : i + 1 - start ≡ i - start + 1 = omega arith in
      let place : start + (i - start) ≡ i = omega arith in
      ap (λ n. take n (drop start xs)) count
      ∙ take_next (drop start xs) (i - start) (get_or xs i d) (drop (i + 1) xs)
      (drop_drop xs (i - start) start ∙ ap (λ k. drop k xs) place ∙ drop_more xs i d lt)

  -- a part of one element
  alone : slice_range xs i (i + 1) ≡ get_or xs i d ∷ []
  alone = let one : i + 1 - i ≡ 1 = omega arith in ap₂ (λ n ys. take n ys) one (drop_more xs i d lt)

  choice : in_parts joins change (slice_range xs start i) (drop i xs)
      ≡ cond (joins (slice_range xs start i) (get_or xs i d)) (in_parts joins change (slice_range xs start i ++ get_or xs i d ∷ []) (drop (i + 1) xs))
      (change (slice_range xs start i) ++ in_parts joins change (get_or xs i d ∷ []) (drop (i + 1) xs))
  choice = ap (in_parts joins change (slice_range xs start i)) (drop_more xs i d lt)

  pub step_joins : joins (slice_range xs start i) (get_or xs i d) ≡ true
      → in_parts joins change (slice_range xs start i) (drop i xs) ≡ in_parts joins change (slice_range xs start (i + 1)) (drop (i + 1) xs)
  step_joins j = choice ∙ cond-true _ _ _ j ∙ ap (λ part. in_parts joins change part (drop (i + 1) xs)) (sym grown)

  pub step_begins : joins (slice_range xs start i) (get_or xs i d) ≡ false
      → in_parts joins change (slice_range xs start i) (drop i xs)
      ≡ change (slice_range xs start i) ++ in_parts joins change (slice_range xs i (i + 1)) (drop (i + 1) xs)
  step_begins j = choice ∙ cond-false _ _ _ j ∙ ap (λ part. change (slice_range xs start i) ++ in_parts joins change part (drop (i + 1) xs)) (sym alone)

module _ {X : Type 0} (joins : List X → X → Bool) (change : List X → List X) (xs : List X) (start : ℕ) where
  -- no element is left
  pub parts_end : (i : ℕ) → length xs ≤ i → i ≤ length xs → in_parts joins change (slice_range xs start i) (drop i xs) ≡ change (drop start xs)
  parts_end i all within =
      ap (in_parts joins change (slice_range xs start i)) (drop_all i xs all) ∙ ap change (take_all (i - start) (drop start xs) (shorter start i xs all))
    where
      shorter : (start i : ℕ) (xs : List X) → length xs ≤ i → length (drop start xs) ≤ i - start
      shorter zero i xs all = omega (arith, all)
      shorter (suc start) i [] all = omega arith
      shorter (suc start) zero (x ∷ xs) all = absurd (omega arith)
      shorter (suc start) (suc i) (x ∷ xs) all = let deeper = shorter start i xs (omega arith) in omega (arith, deeper)

  -- what is made in the end
  pub made_end : (i : ℕ) (done now all : List X) → length xs ≤ i → i ≤ length xs → now ≡ done ++ change (take (length xs - start) (drop start xs))
      → done ++ in_parts joins change (slice_range xs start i) (drop i xs) ≡ all → now ≡ all
  made_end i done now all past within e h =
      e ∙ ap (λ part. done ++ change part) (take_rest xs start) ∙ ap (λ part. done ++ part) (sym (parts_end i past within)) ∙ h

-- ---- what is made of the parts of a list

module _ {X : Type 0} (done : List (List X)) (part : List X) where
  one_more : length (done ++ part ∷ []) - 1 ≡ length done
  one_more = let n : length (done ++ part ∷ []) ≡ length done + 1 = length-append done (part ∷ []) in omega arith

  pub last_is : last_part (done ++ part ∷ []) ≡ part
  last_is = ap (λ n. get_or (done ++ part ∷ []) n []) one_more ∙ last_at done
    where
      last_at : (ps : List (List X)) → get_or (ps ++ part ∷ []) (length ps) [] ≡ part
      last_at [] = refl
      last_at (p ∷ ps) = last_at ps

  front_is : take (length (done ++ part ∷ []) - 1) (done ++ part ∷ []) ≡ done
  front_is = ap (λ n. take n (done ++ part ∷ [])) one_more ∙ front_of done
    where
      front_of : (ps : List (List X)) → take (length ps) (ps ++ part ∷ []) ≡ ps
      front_of [] = refl
      front_of (p ∷ ps) = ap (λ rest. p ∷ rest) (front_of ps)

module _ {X : Type 0} (joins : List X → X → Bool) (change : List X → List X) where
  -- one more element is one of the part, or begins another one
  next_is : (done : List (List X)) (part : List X) (x : X)
      → with_next joins (done ++ part ∷ []) x ≡ cond (joins part x) (done ++ (part ++ x ∷ []) ∷ []) ((done ++ part ∷ []) ++ (x ∷ []) ∷ [])
  next_is done part x =
      ap₂ (λ last front. cond (joins last x) (front ++ (last ++ x ∷ []) ∷ []) ((done ++ part ∷ []) ++ (x ∷ []) ∷ []))
      (last_is done part) (front_is done part)

  made_behind : (xs : List X) (done : List (List X)) (part : List X)
      → flat_map change (fold (with_next joins) (done ++ part ∷ []) xs) ≡ flat_map change done ++ in_parts joins change part xs
  made_behind [] done part =
      flat_map-append change done (part ∷ []) ∙ ap (λ ys. flat_map change done ++ ys) (append-nil (change part))
  made_behind (x ∷ xs) done part =
      ap (λ ps. flat_map change (fold (with_next joins) ps xs)) (next_is done part x) ∙ by (made_behind xs) (joins part x)
    where
      by : ((done : List (List X)) (part : List X)
          → flat_map change (fold (with_next joins) (done ++ part ∷ []) xs) ≡ flat_map change done ++ in_parts joins change part xs)
          → (t : Bool)
          → flat_map change (fold (with_next joins) (cond t (done ++ (part ++ x ∷ []) ∷ []) ((done ++ part ∷ []) ++ (x ∷ []) ∷ [])) xs)
          ≡ flat_map change done ++ cond t (in_parts joins change (part ++ x ∷ []) xs) (change part ++ in_parts joins change (x ∷ []) xs)
      by deeper true = deeper done (part ++ x ∷ [])
      by deeper false =
          deeper (done ++ part ∷ []) (x ∷ [])
          ∙ ap (λ ys. ys ++ in_parts joins change (x ∷ []) xs)
          (flat_map-append change done (part ∷ []) ∙ ap (λ ys. flat_map change done ++ ys) (append-nil (change part)))
          ∙ append_assoc (flat_map change done) (change part) (in_parts joins change (x ∷ []) xs)

  -- nothing is made of an empty part
  pub made_of_parts : change [] ≡ [] → (xs : List X) → in_parts joins change [] xs ≡ flat_map change (parts_of joins xs)
  made_of_parts none [] = none
  made_of_parts none (x ∷ xs) = first (joins [] x) ∙ sym (ap (λ ps. flat_map change (fold (with_next joins) ps xs)) (begun (joins [] x)) ∙ made_behind xs [] (x ∷ []))
    where
      begun : (t : Bool) → cond t ((x ∷ []) ∷ []) ((x ∷ []) ∷ []) ≡ (x ∷ []) ∷ []
      begun true = refl
      begun false = refl

      first : (t : Bool) → cond t (in_parts joins change (x ∷ []) xs) (change [] ++ in_parts joins change (x ∷ []) xs) ≡ in_parts joins change (x ∷ []) xs
      first true = refl
      first false = ap (λ ys. ys ++ in_parts joins change (x ∷ []) xs) none

-- what is made, in a step that goes on with the part, and in one that begins another
pub made_on : {X : Type 0} (done now all before after : List X) → done ≡ now → before ≡ after → done ++ before ≡ all → now ++ after ≡ all
made_on done now all before after d e h = ap₂ (λ xs ys. xs ++ ys) (sym d) (sym e) ∙ h

pub made_more : {X : Type 0} (done now all part before after : List X) → now ≡ done ++ part → before ≡ part ++ after → done ++ before ≡ all → now ++ after ≡ all
made_more done now all part before after d e h =
    ap (λ xs. xs ++ after) d ∙ append_assoc done part after ∙ ap (λ xs. done ++ xs) (sym e) ∙ h

-- what is made of the last first, each from its end, is turned into what is made of them from the last to the first
pub turned_back : {P X : Type 0} (f : P → List X) (ps : List P) → reverse (flat_map (λ p. reverse (f p)) ps) ≡ flat_map f (reverse ps)
turned_back f [] = refl
turned_back f (p ∷ ps) =
    reverse-append (reverse (f p)) (flat_map (λ q. reverse (f q)) ps) ∙ ap₂ (λ xs ys. xs ++ ys) (turned_back f ps) (reverse-reverse (f p))
    ∙ sym (ap (flat_map f) (reverse-append (p ∷ []) ps) ∙ flat_map-append f (reverse ps) (p ∷ []) ∙ ap (λ xs. flat_map f (reverse ps) ++ xs) (append-nil (f p)))
