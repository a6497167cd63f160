-- Lists that a loop appends to, one element of a range after the other.
use Rattle.std.proofs.Common.{◌≡◌, ℕ, ◌+◌, List, [], ◌∷◌, ◌++◌, map, sym, ap, ◌∙◌, append_assoc, zero-add}
use Rattle.std.specs.List.{flat_map, range_with_len}
use Rattle.std.proofs.lemmas.List.{append-nil}
use Rattle.std.proofs.lemmas.List.Concat.{flat_map-append}
use Rattle.std.proofs.lemmas.List.FromFn.{map-range_with_len_more}

-- one element more
pub one_more :
    {X : Type 0} (f : ℕ → X) (before now after : List X) (k : ℕ) (x : X)
    → x ≡ f k
    → now ≡ before ++ map f (range_with_len 0 k)
    → after ≡ now ++ x ∷ []
    → after ≡ before ++ map f (range_with_len 0 (k + 1))
one_more f before now after k x same so_far pushed =
    pushed
    ∙ ap (λ y. now ++ y ∷ []) same
    ∙ ap (λ xs. xs ++ f k ∷ []) so_far
    ∙ append_assoc before (map f (range_with_len 0 k)) (f k ∷ [])
    ∙ ap (λ xs. before ++ xs) (sym (map-range_with_len_more f 0 k k (zero-add k)))

-- one list more
pub list_more :
    {X Y : Type 0} (h : X → List Y) (f : ℕ → X) (before now after : List Y) (k : ℕ) (x : X)
    → x ≡ f k
    → now ≡ before ++ flat_map h (map f (range_with_len 0 k))
    → after ≡ now ++ h x
    → after ≡ before ++ flat_map h (map f (range_with_len 0 (k + 1)))
list_more h f before now after k x same so_far pushed =
    let last : flat_map h (f k ∷ []) ≡ h (f k) = append-nil (h (f k)) in
    pushed
    ∙ ap (λ y. now ++ h y) same
    ∙ ap (λ xs. xs ++ h (f k)) so_far
    ∙ append_assoc before (flat_map h (map f (range_with_len 0 k))) (h (f k))
    ∙ ap (λ xs. before ++ (flat_map h (map f (range_with_len 0 k)) ++ xs)) (sym last)
    ∙ ap (λ xs. before ++ xs) (sym (flat_map-append h (map f (range_with_len 0 k)) (f k ∷ [])))
    ∙ ap (λ xs. before ++ flat_map h xs) (sym (map-range_with_len_more f 0 k k (zero-add k)))

-- pairs of a glyph and the same value
pub same_glyph : (glyph v w : ℕ) → v ≡ w → ◌≡◌ {A = ℕ × ℕ} (glyph, v) (glyph, w)
same_glyph glyph v w same = let pair : ℕ → ℕ × ℕ = λ x. (glyph, x) in ap pair same
