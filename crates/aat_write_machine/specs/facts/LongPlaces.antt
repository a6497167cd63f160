-- Numbers of 32 bits stand where they were written.
use Rattle.std.proofs.Common.{◌≡◌, ℕ, zero, suc, ◌+◌, ◌*◌, ◌<◌, ◌^◌, List, [], ◌∷◌, ◌++◌, length, get_or, take, All, refl, sym, ap, ◌∙◌, append_assoc, arith}
use Rattle.std.specs.Int.{w32, from_be_bytes, to_be_bytes}
use Rattle.std.proofs.lemmas.List.{drop_at, take_at, length-append}
use Rattle.std.proofs.lemmas.Nat.{from_be_bytes-to_be_bytes_4}
use Rattle.aat_bytes.specs.Numbers.{be32}
use Rattle.aat_write_machine.specs.Words.{long_bytes}

-- a number of 32 bits at the end of a front
long_number_at :
    (front rest : List ℕ) (place n : ℕ)
    → length front ≡ place → n < 2 ^ 32 → be32 (front ++ (to_be_bytes w32 n ++ rest)) place ≡ n
long_number_at front rest place n long small =
    let bytes = to_be_bytes w32 n in
    ap (λ xs. from_be_bytes w32 (take 4 xs)) (drop_at front (bytes ++ rest) place long)
    ∙ ap (from_be_bytes w32) (take_at bytes rest 4 refl)
    ∙ from_be_bytes-to_be_bytes_4 n small

-- each number of 32 bits stands at its place
pub long_at :
    (longs front rest : List ℕ) (place i : ℕ)
    → i < length longs → All (λ n. n < 2 ^ 32) longs → length front + 4 * i ≡ place
    → be32 (front ++ (long_bytes longs ++ rest)) place ≡ get_or longs i 0
long_at [] front rest place i below small at = absurd (omega arith)
long_at (long ∷ longs) front rest place zero below small at =
    ap (λ xs. be32 (front ++ xs) place) (append_assoc (to_be_bytes w32 long) (long_bytes longs) rest)
    ∙ long_number_at front (long_bytes longs ++ rest) place long (omega arith) (small 0 long (omega arith))
long_at (long ∷ longs) front rest place (suc i) below small at =
    let bytes = to_be_bytes w32 long in
    let longer : length (front ++ bytes) ≡ length front + 4 = length-append front bytes in
    ap (λ xs. be32 (front ++ xs) place) (append_assoc bytes (long_bytes longs) rest)
    ∙ ap (λ xs. be32 xs place) (sym (append_assoc front bytes (long_bytes longs ++ rest)))
    ∙ long_at longs (front ++ bytes) rest place i (omega arith) (λ k d lt. small (suc k) d (omega arith)) (omega arith)

-- numbers of 32 bits have four bytes each
pub length_longs : (longs : List ℕ) → length (long_bytes longs) ≡ 4 * length longs
length_longs [] = refl
length_longs (long ∷ longs) =
    length-append (to_be_bytes w32 long) (long_bytes longs) ∙ omega (arith, length_longs longs)
