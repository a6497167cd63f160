-- A vector that is lent as a slice of its length has what the slice is left with.
use Rattle.std.proofs.Common.{◌≡◌, ◌∙◌, ℕ, List, [], ◌++◌, length, take, drop, ap, arith}
use Rattle.std.proofs.lemmas.List.{append-nil, drop_all, take_all}

pub written_back : {A : Type 0} (xs ys : List A) (n : ℕ) → length xs ≡ n → length ys ≡ n → take n (xs ++ drop (length xs) ys) ≡ xs
written_back xs ys n left had =
    ap (λ zs. take n (xs ++ zs)) (drop_all (length xs) ys (omega (arith, left, had)))
    ∙ (ap (take n) (append-nil xs) ∙ take_all n xs (omega (arith, left)))
