-- The pairs of a segment, one more at a time.
use Rattle.std.proofs.Common.{◌≡◌, ℕ, ◌+◌, List, [], ◌∷◌, ◌++◌, map, sym, ap, ◌∙◌, append_assoc, zero-add}
use Rattle.std.specs.List.{range_with_len}
use Rattle.std.proofs.lemmas.List.FromFn.{map-range_with_len_more}

-- one pair more
pub one_more :
    (f : ℕ → ℕ × ℕ) (before now after : List (ℕ × ℕ)) (k : ℕ)
    → now ≡ before ++ map f (range_with_len 0 k)
    → after ≡ now ++ f k ∷ []
    → after ≡ before ++ map f (range_with_len 0 (k + 1))
one_more f before now after k so_far pushed =
    pushed
    ∙ ap (λ xs. xs ++ f k ∷ []) so_far
    ∙ append_assoc before (map f (range_with_len 0 k)) (f k ∷ [])
    ∙ ap (λ xs. before ++ xs) (sym (map-range_with_len_more f 0 k k (zero-add k)))
