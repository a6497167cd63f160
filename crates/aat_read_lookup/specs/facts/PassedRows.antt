-- A list that a loop appends to, where the rows of a range pass a test.
use Rattle.std.proofs.Common.{◌≡◌, ℕ, ◌+◌, List, [], ◌∷◌, ◌++◌, map, Bool, true, false, cond, refl, sym, ap, ◌∙◌, zero-add}
use Rattle.std.specs.List.{filter, range_with_len}
use Rattle.std.proofs.lemmas.Bool.{cond-false, cond-true}
use Rattle.std.proofs.lemmas.List.{append-nil, map-append}
use Rattle.std.proofs.lemmas.List.FromFn.{filter_of_map_range_with_len_more}

themselves : (xs : List ℕ) → map (λ i. i) xs ≡ xs
themselves [] = refl
themselves (x ∷ xs) = ap (λ ys. x ∷ ys) (themselves xs)

module _ {X : Type 0} (f : ℕ → X) (p : ℕ → Bool) where
  -- one row further
  further :
      (n : ℕ) → filter p (range_with_len 0 (n + 1)) ≡ filter p (range_with_len 0 n) ++ cond (p n) (n ∷ []) []
  further n =
      ap (filter p) (sym (themselves (range_with_len 0 (n + 1))))
      ∙ filter_of_map_range_with_len_more p (λ i. i) 0 n n (zero-add n)
      ∙ ap (λ xs. filter p xs ++ cond (p n) (n ∷ []) []) (themselves (range_with_len 0 n))

  -- a row that passes
  pub passes_one :
      (now after : List X) (n : ℕ) (x : X)
      → now ≡ map f (filter p (range_with_len 0 n)) → p n ≡ true → x ≡ f n → after ≡ now ++ x ∷ []
      → after ≡ map f (filter p (range_with_len 0 (n + 1)))
  passes_one now after n x so_far passes same pushed =
      let before : List ℕ = filter p (range_with_len 0 n) in
      pushed
      ∙ ap (λ y. now ++ y ∷ []) same
      ∙ ap (λ xs. xs ++ f n ∷ []) so_far
      ∙ sym (map-append f before (n ∷ []))
      ∙ ap (λ xs. map f (before ++ xs)) (sym (cond-true (p n) (n ∷ []) [] passes))
      ∙ ap (map f) (sym (further n))

  -- a row that does not
  pub passes_none :
      (now : List X) (n : ℕ)
      → now ≡ map f (filter p (range_with_len 0 n)) → p n ≡ false
      → now ≡ map f (filter p (range_with_len 0 (n + 1)))
  passes_none now n so_far fails =
      let before : List ℕ = filter p (range_with_len 0 n) in
      so_far
      ∙ ap (map f) (sym (append-nil before))
      ∙ ap (λ xs. map f (before ++ xs)) (sym (cond-false (p n) (n ∷ []) [] fails))
      ∙ ap (map f) (sym (further n))
