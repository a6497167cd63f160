-- Elements that take so many words each.
use Rattle.std.proofs.Common.{◌≡◌, ℕ, zero, suc, ◌+◌, ◌*◌, ◌<◌, List, [], ◌∷◌, ◌++◌, length, get_or, All, ap, ◌∙◌, arith}
use Rattle.std.specs.List.{flat_map}
use Rattle.std.proofs.Math.ListN.{get_or-append}
use Rattle.std.proofs.lemmas.List.{get_or-append-add, length-append}
use Rattle.aat_write_machine.specs.facts.WordPlaces.{AreWords, words_joined}

module _ {X : Type 0} (f : X → List ℕ) (size : ℕ) (sized : (x : X) → length (f x) ≡ size) where
  -- the words of elements, each at its place
  pub chunk :
      (xs : List X) (i j : ℕ) (d : X) → i < length xs → j < size
      → get_or (flat_map f xs) (size * i + j) 0 ≡ get_or (f (get_or xs i d)) j 0
  chunk [] i j d below within = absurd (omega arith)
  chunk (x ∷ xs) zero j d below within =
      let place : size * zero + j ≡ j = omega arith in
      let inside : j < length (f x) = omega (arith, sized x) in
      ap (λ k. get_or (f x ++ flat_map f xs) k 0) place ∙ get_or-append (f x) (flat_map f xs) 0 j inside
  chunk (x ∷ xs) (suc i) j d below within =
      let place : size * suc i + j ≡ length (f x) + (size * i + j) = omega (arith, sized x) in
      ap (λ k. get_or (f x ++ flat_map f xs) k 0) place
      ∙ get_or-append-add (f x) (flat_map f xs) (size * i + j) 0
      ∙ chunk xs i j d (omega arith) within

  pub chunks_long : (xs : List X) → length (flat_map f xs) ≡ size * length xs
  chunks_long [] = omega arith
  chunks_long (x ∷ xs) = length-append (f x) (flat_map f xs) ∙ omega (arith, sized x, chunks_long xs)

  -- they have 16 bits each, where those of each element have
  pub chunks_are_words : (xs : List X) → All (λ x. AreWords (f x)) xs → AreWords (flat_map f xs)
  chunks_are_words [] each = tt
  chunks_are_words (x ∷ xs) each =
      words_joined (f x) (flat_map f xs) (each 0 x (omega arith))
      (chunks_are_words xs (λ k d lt. each (suc k) d (omega arith)))
