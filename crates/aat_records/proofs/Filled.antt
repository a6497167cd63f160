-- Room into which values are put one by one.
use Rattle.std.proofs.Common.{◌≡◌, ◌∙◌, ◌+◌, ◌<◌, ◌≤◌, ℕ, List, [], ◌∷◌, ◌++◌, ap, ap₂, append_assoc, arith, drop, get_or, inl, inr, length, length-append, length-drop, length-take, map, min, set, subst, sym, take}
use Rattle.std.proofs.lemmas.Bool.{cases_lt}
use Rattle.std.proofs.lemmas.List.{append-nil, drop_all, drop_min, drop_more, get_or-map, length-map, set_at, set_past, take-take, take_all, take_min, take_more}
use Rattle.aat_records.specs.Lines.{filled_from}
use Rattle.aat_records.specs.Records.{filled}

-- one more of these values
pub put_more : {X : Type 0} (xs ys room : List X) (i : ℕ) (v : X) → i < length xs → i < length room
    → ys ≡ take i xs ++ drop i room → v ≡ get_or xs i v → set ys i v ≡ take (i + 1) xs ++ drop (i + 1) room
put_more xs ys room i v below within h is =
    let front = take i xs in
    let long : length front ≡ i = length-take i xs ∙ omega arith in
    let parts : ys ≡ front ++ get_or room i v ∷ drop (i + 1) room =
    h ∙ ap (λ l. front ++ l) (drop_more room i v within)
    in
    ap (λ l. set l i v) parts ∙ set_at front _ _ v i long ∙ sym (append_assoc front (v ∷ []) _)
    ∙ ap (λ l. l ++ drop (i + 1) room) (ap (λ y. front ++ y ∷ []) is ∙ sym (take_more xs i v below))

-- as many as there is room for, and none more
pub put_all : {X : Type 0} (xs ys room : List X) (i n : ℕ) → n ≡ min (length xs) (length room) → i ≤ n → n ≤ i
    → ys ≡ take i xs ++ drop i room → ys ≡ filled xs room
put_all xs ys room i n end low high h =
    let here : i ≡ min (length xs) (length room) = omega arith in
    let there : i ≡ min (length room) (length xs) = omega arith in
    h ∙ ap₂ (λ p q. p ++ q) (ap (λ k. take k xs) there ∙ take_min (length room) xs)
    (ap (λ k. drop k room) here ∙ drop_min (length xs) room)

-- one more of values that are made of others
pub put_more_of : {X Y : Type 0} (f : X → Y) (xs : List X) (ys room : List Y) (i : ℕ) (x : X) → i < length xs
    → i < length room → ys ≡ take i (map f xs) ++ drop i room → x ≡ get_or xs i x
    → set ys i (f x) ≡ take (i + 1) (map f xs) ++ drop (i + 1) room
put_more_of f xs ys room i x below within h is =
    put_more (map f xs) ys room i (f x) (subst (λ n. i < n) (sym (length-map xs f)) below) within h
    (ap f is ∙ sym (get_or-map f xs i x (f x) below))

-- as many of these as there is room for, and none more
pub put_all_of : {X Y : Type 0} (f : X → Y) (xs : List X) (ys room : List Y) (i n : ℕ)
    → n ≡ min (length xs) (length room) → i ≤ n → n ≤ i → ys ≡ take i (map f xs) ++ drop i room
    → ys ≡ filled (map f xs) room
put_all_of f xs ys room i n end low high h =
    put_all (map f xs) ys room i n (end ∙ ap (λ k. min k (length room)) (sym (length-map xs f))) low high h

-- where there is room for each of the first of these
filled_within : {X : Type 0} (xs room : List X) (i : ℕ) → i ≤ length xs → i ≤ length room
    → filled (take i xs) room ≡ take i xs ++ drop i room
filled_within xs room i within fits =
    let long : length (take i xs) ≡ i = length-take i xs ∙ omega arith in
    ap₂ (λ p q. p ++ q) (take_all (length room) (take i xs) (omega arith)) (ap (λ k. drop k room) long)

-- where there is room for fewer than the first of these
filled_past : {X : Type 0} (xs room : List X) (i : ℕ) → i ≤ length xs → length room ≤ i
    → filled (take i xs) room ≡ take (length room) xs ++ []
filled_past xs room i within full =
    let long : length (take i xs) ≡ i = length-take i xs ∙ omega arith in
    ap₂ (λ p q. p ++ q) (take-take (length room) i xs full)
    (ap (λ k. drop k room) long ∙ drop_all i room full)

-- room keeps its length
length-filled : {X : Type 0} (xs room : List X) → length (filled xs room) ≡ length room
length-filled xs room =
    length-append (take (length room) xs) (drop (length xs) room)
    ∙ omega (arith, length-take (length room) xs, length-drop (length xs) room)

-- one more of these, where there is room for it
pub filled_more : {X : Type 0} (xs room : List X) (i : ℕ) (v : X) → i < length xs → v ≡ get_or xs i v
    → set (filled (take i xs) room) i v ≡ filled (take (i + 1) xs) room
filled_more xs room i v below is =
    elim (cases_lt i (length room)) [
      | inl fits ↦ put_more xs (filled (take i xs) room) room i v below fits
          (filled_within xs room i (omega arith) (omega arith)) is
          ∙ sym (filled_within xs room (i + 1) (omega arith) (omega arith))
      | inr full ↦
          let short : length (filled (take i xs) room) ≡ length room =
          length-filled (take i xs) room
          in
          set_past (filled (take i xs) room) i v (omega arith)
          ∙ (filled_past xs room i (omega arith) full ∙ sym (filled_past xs room (i + 1) (omega arith) (omega arith)))
    ]

-- nothing is put
empty : {X : Type 0} (room : List X) → filled [] room ≡ room
empty room = ap (λ l. l ++ room) (take_all (length room) [] (omega arith))

-- there is no room
none : {X : Type 0} (xs : List X) → filled xs [] ≡ []
none xs = drop_all (length xs) [] (omega arith)

-- there is no room behind so many places
pub past_the_room : {X : Type 0} (start : ℕ) (xs room : List X) → length room ≤ start
    → room ≡ filled_from start xs room
past_the_room start xs room past =
    sym (append-nil room) ∙ ap₂ (λ p q. p ++ q) (sym (take_all start room past))
    (sym (ap (filled xs) (drop_all start room past) ∙ none xs))

-- these behind so many others that are put
pub filled_behind : {X : Type 0} (xs ys room : List X)
    → filled_from (length xs) ys (filled xs room) ≡ filled (xs ++ ys) room
filled_behind [] ys room = ap (filled ys) (empty room)
filled_behind (x ∷ xs) ys [] =
    let short : length (filled (x ∷ xs) []) ≤ length (x ∷ xs) =
    subst (λ (r : List _). length r ≤ length (x ∷ xs)) (sym (none (x ∷ xs))) (omega arith)
    in
    sym (past_the_room (length (x ∷ xs)) ys (filled (x ∷ xs) []) short)
    ∙ (none (x ∷ xs) ∙ sym (none (x ∷ (xs ++ ys))))
filled_behind (x ∷ xs) ys (r ∷ room) = ap (λ l. x ∷ l) (filled_behind xs ys room)
