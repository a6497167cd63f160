-- Lemmas on runs of characters.
use Rattle.std.proofs.Common.{◌≡◌, ℕ, zero, suc, List, [], ◌∷◌, length, take, refl, arith}

-- as many elements as the first n are, are the first n
pub take_length_take : {X : Type 0} (n : ℕ) (xs : List X) → take (length (take n xs)) xs ≡ take n xs
take_length_take zero xs = refl
take_length_take (suc n) [] = refl
take_length_take (suc n) (x ∷ xs) = grind (arith, take_length_take n xs)
