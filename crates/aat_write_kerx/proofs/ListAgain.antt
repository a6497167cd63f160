-- A list whose elements are written as numbers of 16 bits is read again.
use Rattle.std.proofs.Common.{◌≡◌, ℕ, zero, suc, ◌+◌, ◌*◌, ◌<◌, List, [], ◌∷◌, ◌++◌, length, get_or, map, All, sym, ap, ◌∙◌, append_assoc, arith}
use Rattle.std.specs.Int.{w16, to_be_bytes}
use Rattle.std.specs.List.{flat_map, range_with_len}
use Rattle.std.proofs.lemmas.Grind.{flat_map-append}
use Rattle.std.proofs.lemmas.List.{length-append}
use Rattle.std.proofs.lemmas.List.FromFn.{fill_by_all}
use Rattle.aat_bytes.specs.Numbers.{be16}
use Rattle.aat_write_machine.specs.Words.{word_bytes}
use Rattle.aat_write_machine.specs.facts.WordPlaces.{AreWords, length_words, word_at}

module _ {X : Type 0} (words_of : X → List ℕ) (stride : ℕ) (read : List ℕ → ℕ → X) (IsSmall : X → Type 0) (d : X)
    (wide : (x : X) → 2 * length (words_of x) ≡ stride)
    (are_words : (x : X) → IsSmall x → AreWords (words_of x))
    (reads : (x : X) (bytes : List ℕ) (place : ℕ) → IsSmall x
    → ((k : ℕ) → k < length (words_of x) → be16 bytes (place + 2 * k) ≡ get_or (words_of x) k 0) → read bytes place ≡ x) where
  -- the bytes of elements
  abbrev pub bytes_of : List X → List ℕ
  bytes_of xs = word_bytes (flat_map words_of xs)

  first_apart : (x : X) (xs : List X) → bytes_of (x ∷ xs) ≡ word_bytes (words_of x) ++ bytes_of xs
  first_apart x xs = flat_map-append (to_be_bytes w16) (words_of x) (flat_map words_of xs)

  pub length_bytes : (xs : List X) → length (bytes_of xs) ≡ stride * length xs
  length_bytes [] = omega arith
  length_bytes (x ∷ xs) =
      ap length (first_apart x xs)
      ∙ length-append (word_bytes (words_of x)) (bytes_of xs)
      ∙ omega (arith, length_words (words_of x), wide x, length_bytes xs)

  -- each element is read at its place
  element_at :
      (xs : List X) (front rest : List ℕ) (place i : ℕ)
      → i < length xs → All IsSmall xs → length front + stride * i ≡ place
      → read (front ++ (bytes_of xs ++ rest)) place ≡ get_or xs i d
  element_at [] front rest place i below small at = absurd (omega arith)
  element_at (x ∷ xs) front rest place zero below small at =
      let here : IsSmall x = small 0 x (omega arith) in
      let first : List ℕ = word_bytes (words_of x) in
      let split : front ++ (bytes_of (x ∷ xs) ++ rest) ≡ front ++ (first ++ (bytes_of xs ++ rest)) =
      ap (λ (ys : List ℕ). front ++ (ys ++ rest)) (first_apart x xs)
      ∙ ap (λ (ys : List ℕ). front ++ ys) (append_assoc first (bytes_of xs) rest) in
      ap (λ (ys : List ℕ). read ys place) split
      ∙ reads x (front ++ (first ++ (bytes_of xs ++ rest))) place here (λ k lt.
      word_at (words_of x) front (bytes_of xs ++ rest) (place + 2 * k) k lt (are_words x here) (omega (arith, at)))
  element_at (x ∷ xs) front rest place (suc i) below small at =
      let first : List ℕ = word_bytes (words_of x) in
      let longer : length (front ++ first) ≡ length front + stride =
      length-append front first ∙ omega (arith, length_words (words_of x), wide x) in
      let split : front ++ (bytes_of (x ∷ xs) ++ rest) ≡ (front ++ first) ++ (bytes_of xs ++ rest) =
      ap (λ (ys : List ℕ). front ++ (ys ++ rest)) (first_apart x xs)
      ∙ ap (λ (ys : List ℕ). front ++ ys) (append_assoc first (bytes_of xs) rest)
      ∙ sym (append_assoc front first (bytes_of xs ++ rest)) in
      ap (λ (ys : List ℕ). read ys place) split
      ∙ element_at xs (front ++ first) rest place i (omega arith) (λ k e lt. small (suc k) e (omega arith)) (omega (arith, at, longer))

  -- so many elements are read from the place of the first one on
  pub list_again :
      (xs : List X) (front rest : List ℕ) (place count : ℕ)
      → All IsSmall xs → length front ≡ place → length xs ≡ count
      → map (λ i. read (front ++ (bytes_of xs ++ rest)) (place + stride * i)) (range_with_len 0 count) ≡ xs
  list_again xs front rest place count small at long =
      sym (fill_by_all (λ i. read (front ++ (bytes_of xs ++ rest)) (place + stride * i)) xs count d long (λ k below.
      sym (element_at xs front rest (place + stride * k) k (omega (arith, long)) small (omega (arith, at)))))
