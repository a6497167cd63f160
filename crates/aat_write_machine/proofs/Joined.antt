-- Tables that are appended one after the other.
use Rattle.std.proofs.Common.{◌≡◌, ℕ, zero, suc, ◌+◌, ◌<◌, ◌≤◌, List, [], ◌∷◌, ◌++◌, length, get_or, take, drop, Result, Ok, Err, true, refl, sym, ap, ◌∙◌, append_assoc, arith}
use Rattle.std.specs.Int.{w32, to_be_bytes}
use Rattle.std.specs.declared.vec.Vec.{Vec}
use Rattle.std.proofs.lemmas.Bool.{lt-ltb}
use Rattle.std.proofs.lemmas.List.{append-nil, drop_all, length-append, map-append}
use Rattle.std.proofs.lemmas.List.Concat.{flat_map-append}
use Rattle.aat_write_machine.specs.Contextual.{are_too_long, byte_lists, joined, lookups_written, starts_from}
use Rattle.aat_write_machine.specs.Words.{long_bytes}
use Rattle.aat_write_machine.specs.MorxWriteErrors.{RefusesWithin, after_written, of_lookup}
use Rattle.aat_write_machine.specs.declared.error.MorxWriteError.{MorxWriteError}
use Rattle.aat_write_machine.specs.Lookups.{lookup_written}
use Rattle.aat_write_machine.proofs.Refused.{refuses_whole}

-- the first elements and one more
taken_more : {X : Type 0} (xs : List X) (i : ℕ) (x : X) → i < length xs → x ≡ get_or xs i x → take (suc i) xs ≡ take i xs ++ x ∷ []
taken_more [] i x below is = absurd (omega arith)
taken_more (y ∷ ys) zero x below is = ap (λ z. z ∷ []) (sym is)
taken_more (y ∷ ys) (suc i) x below is = ap (λ zs. y ∷ zs) (taken_more ys i x (omega arith) is)

-- the last elements from one on
dropped_from : {X : Type 0} (xs : List X) (i : ℕ) (x : X) → i < length xs → x ≡ get_or xs i x → drop i xs ≡ x ∷ drop (suc i) xs
dropped_from [] i x below is = absurd (omega arith)
dropped_from (y ∷ ys) zero x below is = ap (λ z. z ∷ ys) (sym is)
dropped_from (y ∷ ys) (suc i) x below is = dropped_from ys i x (omega arith) is

pub joined-append : (xs ys : List (List ℕ)) → joined (xs ++ ys) ≡ joined xs ++ joined ys
joined-append xs ys = flat_map-append (λ (t : List ℕ). t) xs ys

-- where the table behind others starts
starts_more : (at : ℕ) (xs : List (List ℕ)) (x : List ℕ) → starts_from at (xs ++ x ∷ []) ≡ starts_from at xs ++ (at + length (joined xs)) ∷ []
starts_more at [] x = let here : at ≡ at + 0 = omega arith in ap (λ n. n ∷ []) here
starts_more at (y ∷ ys) x =
    let place : at + length y + length (joined ys) ≡ at + length (joined (y ∷ ys)) = omega (arith, length-append y (joined ys)) in
    ap (λ zs. at ∷ zs) (starts_more (at + length y) ys x ∙ ap (λ n. starts_from (at + length y) ys ++ n ∷ []) place)

module _ {Z : Type 0} (tables : List (Vec ℕ Z)) (i : ℕ) (x : Vec ℕ Z) (below : i < length tables) (is : x ≡ get_or tables i x) where
  lists_more : byte_lists (take (i + 1) tables) ≡ byte_lists (take i tables) ++ x.items ∷ []
  lists_more =
      let next : i + 1 ≡ suc i = omega arith in
      ap (λ k. byte_lists (take k tables)) next
      ∙ ap byte_lists (taken_more tables i x below is)
      ∙ map-append (λ (v : Vec ℕ Z). v.items) (take i tables) (x ∷ [])

  pub length_more : length (joined (byte_lists (take (i + 1) tables))) ≡ length (joined (byte_lists (take i tables))) + length x.items
  length_more =
      ap (λ ls. length (joined ls)) lists_more
      ∙ ap length (joined-append (byte_lists (take i tables)) (x.items ∷ []))
      ∙ omega (arith, length-append (joined (byte_lists (take i tables))) (joined (x.items ∷ [])), length-append x.items [])

  pub start_is_appended :
      (at start : ℕ) (old now new : List ℕ)
      → start ≡ at + length (joined (byte_lists (take i tables)))
      → now ≡ old ++ long_bytes (starts_from at (byte_lists (take i tables)))
      → new ≡ now ++ long_bytes (start ∷ [])
      → new ≡ old ++ long_bytes (starts_from at (byte_lists (take (i + 1) tables)))
  start_is_appended at start old now new place so_far pushed =
      let lists = byte_lists (take i tables) in
      pushed
      ∙ ap (λ n. now ++ long_bytes (n ∷ [])) place
      ∙ ap (λ xs. xs ++ long_bytes ((at + length (joined lists)) ∷ [])) so_far
      ∙ append_assoc old (long_bytes (starts_from at lists)) (long_bytes ((at + length (joined lists)) ∷ []))
      ∙ ap (λ xs. old ++ xs) (sym (flat_map-append (to_be_bytes w32) (starts_from at lists) ((at + length (joined lists)) ∷ [])))
      ∙ ap (λ xs. old ++ long_bytes xs) (sym (starts_more at lists x.items))
      ∙ ap (λ ls. old ++ long_bytes (starts_from at ls)) (sym lists_more)

-- the first tables are no longer than all
taken_le : {Z : Type 0} (tables : List (Vec ℕ Z)) (k : ℕ) → length (joined (byte_lists (take k tables))) ≤ length (joined (byte_lists tables))
taken_le [] zero = omega arith
taken_le [] (suc k) = omega arith
taken_le (t ∷ tables) zero = omega arith
taken_le (t ∷ tables) (suc k) =
    omega (arith, length-append t.items (joined (byte_lists (take k tables))), length-append t.items (joined (byte_lists tables)), taken_le tables k)

pub length_within :
    {Z : Type 0} (tables : List (Vec ℕ Z)) (i : ℕ) (x : Vec ℕ Z) → i < length tables → x ≡ get_or tables i x
    → length (joined (byte_lists (take i tables))) + length x.items ≤ length (joined (byte_lists tables))
length_within tables i x below is = omega (arith, length_more tables i x below is, taken_le tables (i + 1))

pub too_long_by :
    {Z : Type 0} (tables : List (Vec ℕ Z)) (i total : ℕ) (x : Vec ℕ Z) → i < length tables → x ≡ get_or tables i x
    → total ≡ length (joined (byte_lists (take i tables))) → 268435455 < total + length x.items
    → true ≡ are_too_long (byte_lists tables)
too_long_by tables i total x below is so_far long =
    sym (lt-ltb 268435455 (length (joined (byte_lists tables))) (omega (arith, so_far, long, length_within tables i x below is)))

regrouped :
    (acc : List (List ℕ)) (table : List ℕ) (r : Result (List (List ℕ)) MorxWriteError)
    → after_written (after_written r (λ tables. Ok (table ∷ tables))) (λ rest. Ok (acc ++ rest))
    ≡ after_written r (λ rest. Ok ((acc ++ table ∷ []) ++ rest))
regrouped acc table (Ok tables) = ap Ok (sym (append_assoc acc (table ∷ []) tables))
regrouped acc table (Err e) = refl

-- one lookup more is written
pub lookup_is_pushed :
    (lookups : List (List (ℕ × ℕ))) (i : ℕ) (x : List (ℕ × ℕ)) (acc more : List (List ℕ)) (table : List ℕ)
    → i < length lookups → x ≡ get_or lookups i x
    → lookups_written lookups ≡ after_written (lookups_written (drop i lookups)) (λ rest. Ok (acc ++ rest))
    → of_lookup (lookup_written x) ≡ Ok table
    → more ≡ acc ++ table ∷ []
    → lookups_written lookups ≡ after_written (lookups_written (drop (i + 1) lookups)) (λ rest. Ok (more ++ rest))
lookup_is_pushed lookups i x acc more table below is so_far written pushed =
    let next : suc i ≡ i + 1 = omega arith in
    let rest = drop (suc i) lookups in
    so_far
    ∙ ap (λ xs. after_written (lookups_written xs) (λ r. Ok (acc ++ r))) (dropped_from lookups i x below is)
    ∙ ap (λ (r : Result (List ℕ) MorxWriteError). after_written (after_written r (λ t. after_written (lookups_written rest) (λ tables. Ok (t ∷ tables)))) (λ r. Ok (acc ++ r))) written
    ∙ regrouped acc table (lookups_written rest)
    ∙ ap (λ k. after_written (lookups_written (drop k lookups)) (λ r. Ok ((acc ++ table ∷ []) ++ r))) next
    ∙ ap (λ m. after_written (lookups_written (drop (i + 1) lookups)) (λ r. Ok (m ++ r))) (sym pushed)

-- a lookup that is refused refuses all
pub lookup_is_refused :
    (lookups : List (List (ℕ × ℕ))) (i : ℕ) (x : List (ℕ × ℕ)) (acc : List (List ℕ)) (e : MorxWriteError)
    → i < length lookups → x ≡ get_or lookups i x
    → lookups_written lookups ≡ after_written (lookups_written (drop i lookups)) (λ rest. Ok (acc ++ rest))
    → RefusesWithin (of_lookup (lookup_written x)) e → RefusesWithin (lookups_written lookups) e
lookup_is_refused lookups i x acc e below is so_far refused =
    let rest = drop (suc i) lookups in
    refuses_whole (of_lookup (lookup_written x)) (lookups_written lookups) e
    (λ f fails.
    so_far
    ∙ ap (λ xs. after_written (lookups_written xs) (λ r. Ok (acc ++ r))) (dropped_from lookups i x below is)
    ∙ ap (λ (r : Result (List ℕ) MorxWriteError). after_written (after_written r (λ t. after_written (lookups_written rest) (λ tables. Ok (t ∷ tables)))) (λ r. Ok (acc ++ r))) fails)
    refused

-- when none is left, the tables so far are all
pub lookups_are_written :
    (lookups : List (List (ℕ × ℕ))) (i : ℕ) (acc : List (List ℕ)) → length lookups ≤ i
    → lookups_written lookups ≡ after_written (lookups_written (drop i lookups)) (λ rest. Ok (acc ++ rest))
    → lookups_written lookups ≡ Ok acc
lookups_are_written lookups i acc all so_far =
    so_far
    ∙ ap (λ xs. after_written (lookups_written xs) (λ r. Ok (acc ++ r))) (drop_all i lookups all)
    ∙ ap Ok (append-nil acc)

pub lists_pushed : {Z : Type 0} (tables now : List (Vec ℕ Z)) (x : Vec ℕ Z) → now ≡ tables ++ x ∷ [] → byte_lists now ≡ byte_lists tables ++ x.items ∷ []
lists_pushed tables now x is = ap byte_lists is ∙ map-append (λ (v : Vec ℕ _). v.items) tables (x ∷ [])
