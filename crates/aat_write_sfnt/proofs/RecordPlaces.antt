-- Records and their parts stand where they were written.
use Rattle.std.proofs.Common.{◌≡◌, ◌∙◌, sym, ap, refl, ℕ, zero, suc, ◌+◌, ◌*◌, ◌<◌, ◌≤◌, List, [], ◌∷◌, ◌++◌, length, get_or, drop, Some, true, append_assoc, arith}
use Rattle.std.specs.List.{flat_map}
use Rattle.std.specs.Prelude.{nat_le}
use Rattle.std.proofs.lemmas.Bool.Decides.{nat_tests}
use Rattle.std.proofs.lemmas.List.{drop_at, get_or-append-add, get_or_append_left, length-append, take_at}
use Rattle.aat_bytes.specs.Numbers.{slice}
use Rattle.aat_write_sfnt.specs.Records.{records}

-- the index of the first word of a record
pub index_of : ℕ → ℕ → ℕ
index_of width zero = 0
index_of width (suc i) = width + index_of width i

pub index_8 : (i : ℕ) → index_of 8 i ≡ 8 * i
unfolding index_of
index_8 zero = refl
index_8 (suc i) = omega (arith, index_8 i)

pub index_6 : (i : ℕ) → index_of 6 i ≡ 6 * i
unfolding index_of
index_6 zero = refl
index_6 (suc i) = omega (arith, index_6 i)

module _ {X : Type 0} (part : X → List ℕ) (record_of : ℕ → X → List ℕ) where
  -- the place of a part, where the first stands at a place
  abbrev pub place_of : ℕ → List X → ℕ → ℕ
  place_of place [] i = place
  place_of place (x ∷ xs) zero = place
  place_of place (x ∷ xs) (suc i) = place_of (place + length (part x)) xs i

  -- places that count from elsewhere
  pub place_shift :
      (a b : ℕ) (xs : List X) (i : ℕ) → place_of (a + b) xs i ≡ a + place_of b xs i
  place_shift a b [] i = refl
  place_shift a b (x ∷ xs) zero = refl
  place_shift a b (x ∷ xs) (suc i) =
      let same : a + b + length (part x) ≡ a + (b + length (part x)) = omega arith in
      ap (λ (n : ℕ). place_of n xs i) same ∙ place_shift a (b + length (part x)) xs i

  -- the bytes from the place of a part on begin with it
  pub part_at :
      (front : List ℕ) (xs : List X) (i : ℕ) (d : X)
      → i < length xs
      → drop (place_of (length front) xs i) (front ++ flat_map part xs)
      ≡ part (get_or xs i d) ++ flat_map part (drop (suc i) xs)
  part_at front [] i d below = absurd (omega arith)
  part_at front (x ∷ xs) zero d below = drop_at front (part x ++ flat_map part xs) (length front) refl
  part_at front (x ∷ xs) (suc i) d below =
      let longer : length (front ++ part x) ≡ length front + length (part x) = length-append front (part x) in
      ap (λ (n : ℕ). drop (place_of n xs i) (front ++ (part x ++ flat_map part xs))) (sym longer)
      ∙ ap (drop (place_of (length (front ++ part x)) xs i)) (sym (append_assoc front (part x) (flat_map part xs)))
      ∙ part_at (front ++ part x) xs i d (omega arith)

  -- a part ends inside
  pub part_within :
      (place : ℕ) (xs : List X) (i : ℕ) (d : X)
      → i < length xs
      → place_of place xs i + length (part (get_or xs i d)) ≤ place + length (flat_map part xs)
  part_within place [] i d below = absurd (omega arith)
  part_within place (x ∷ xs) zero d below = omega (arith, length-append (part x) (flat_map part xs))
  part_within place (x ∷ xs) (suc i) d below =
      omega (arith, length-append (part x) (flat_map part xs), part_within (place + length (part x)) xs i d (omega arith))

  module _ (width : ℕ) (wide : (place : ℕ) (x : X) → length (record_of place x) ≡ width) where
    pub records_long : (place : ℕ) (xs : List X) → length (records part record_of place xs) ≡ index_of width (length xs)
    unfolding index_of
    records_long place [] = refl
    records_long place (x ∷ xs) =
        let next = place + length (part x) in
        length-append (record_of place x) (records part record_of next xs)
        ∙ omega (arith, wide place x, records_long next xs)

    -- a word of a record
    pub record_word :
        (place : ℕ) (xs : List X) (i k : ℕ) (d : X)
        → i < length xs
        → k < width
        → get_or (records part record_of place xs) (index_of width i + k) 0
        ≡ get_or (record_of (place_of place xs i) (get_or xs i d)) k 0
    unfolding index_of
    record_word place [] i k d below inside = absurd (omega arith)
    record_word place (x ∷ xs) zero k d below inside =
        let rest = records part record_of (place + length (part x)) xs in
        let start : 0 + k ≡ k = omega arith in
        ap (λ (j : ℕ). get_or (record_of place x ++ rest) j 0) start
        ∙ get_or_append_left (record_of place x) rest 0 k (omega (arith, wide place x))
    record_word place (x ∷ xs) (suc i) k d below inside =
        let rest = records part record_of (place + length (part x)) xs in
        let at : width + index_of width i + k ≡ length (record_of place x) + (index_of width i + k) =
        omega (arith, wide place x) in
        ap (λ (j : ℕ). get_or (record_of place x ++ rest) j 0) at
        ∙ get_or-append-add (record_of place x) rest (index_of width i + k) 0
        ∙ record_word (place + length (part x)) xs i k d (omega arith) inside

-- a slice that begins with some bytes
pub slice_is :
    (bytes content rest : List ℕ) (offset size : ℕ)
    → drop offset bytes ≡ content ++ rest
    → length content ≡ size
    → offset + size ≤ length bytes
    → slice bytes offset size ≡ Some content
unfolding slice
slice_is bytes content rest offset size here long within =
    let inside : nat_le (offset + size) (length bytes) ≡ true = grind (arith, nat_tests) in
    rw (inside, here) (ap Some (take_at content rest size long))
