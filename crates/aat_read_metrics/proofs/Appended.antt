-- Lists that a loop appends to, for one number of a range after the other.
use Rattle.std.proofs.Common.{◌≡◌, ◌∙◌, ap, sym, ℕ, ◌+◌, List, [], ◌∷◌, ◌++◌, map, append_assoc, zero-add}
use Rattle.std.specs.List.{flat_map, range_with_len}
use Rattle.std.proofs.lemmas.List.{append-nil}
use Rattle.std.proofs.lemmas.List.Concat.{flat_map-append}
use Rattle.std.proofs.lemmas.List.FromFn.{map-range_with_len_more}
use Rattle.aat_bytes.specs.facts.Ranges.{range_more}

-- one element more
pub one_more :
    {X : Type 0} (f : ℕ → X) (before now after : List X) (k : ℕ) (x : X) → x ≡ f k
    → now ≡ before ++ map f (range_with_len 0 k) → after ≡ now ++ x ∷ [] → after ≡ before ++ map f (range_with_len 0 (k + 1))
one_more f before now after k x same so_far pushed =
    pushed
    ∙ (ap (λ y. now ++ y ∷ []) same
    ∙ (ap (λ xs. xs ++ f k ∷ []) so_far
    ∙ (append_assoc before (map f (range_with_len 0 k)) (f k ∷ [])
    ∙ ap (λ xs. before ++ xs) (sym (map-range_with_len_more f 0 k k (zero-add k))))))

-- one list more
pub list_more :
    {X : Type 0} (h : ℕ → List X) (now after : List X) (k : ℕ) → now ≡ flat_map h (range_with_len 0 k)
    → after ≡ now ++ h k → after ≡ flat_map h (range_with_len 0 (k + 1))
list_more h now after k so_far pushed =
    pushed
    ∙ (ap (λ xs. xs ++ h k) so_far
    ∙ (ap (λ xs. flat_map h (range_with_len 0 k) ++ xs) (sym (append-nil (h k)))
    ∙ (sym (flat_map-append h (range_with_len 0 k) (k ∷ [])) ∙ ap (flat_map h) (sym (range_more k)))))
