-- What is appended item by item, and how much it is.
use Rattle.std.proofs.Common.{◌≡◌, ℕ, ◌+◌, ◌*◌, ◌<◌, ◌≤◌, List, [], ◌∷◌, ◌++◌, length, get_or, take, sym, ap, ◌∙◌, append_assoc, arith}
use Rattle.std.specs.Prelude.{sum_by}
use Rattle.std.specs.List.{flat_map}
use Rattle.std.proofs.lemmas.Grind.{flat_map-append}
use Rattle.std.proofs.lemmas.List.{append-nil, take_more}
use Rattle.std.proofs.lemmas.List.Sums.{sum_by-cons}

-- the bytes of one more item stand behind those of the items before it
pub appended_more :
    {X : Type 0} (f : X → List ℕ) (xs : List X) (i : ℕ) (x : X) (front here new : List ℕ)
    → i < length xs → x ≡ get_or xs i x
    → here ≡ front ++ flat_map f (take i xs) → new ≡ here ++ f x
    → new ≡ front ++ flat_map f (take (i + 1) xs)
appended_more f xs i x front here new below item so_far appended =
    let done = flat_map f (take i xs) in
    let last : flat_map f (get_or xs i x ∷ []) ≡ f x = append-nil (f (get_or xs i x)) ∙ ap f (sym item) in
    let next : flat_map f (take (i + 1) xs) ≡ done ++ f x =
    ap (flat_map f) (take_more xs i x below)
    ∙ flat_map-append f (take i xs) (get_or xs i x ∷ [])
    ∙ ap (λ (ys : List ℕ). done ++ ys) last in
    appended
    ∙ ap (λ (ys : List ℕ). ys ++ f x) so_far
    ∙ append_assoc front done (f x)
    ∙ ap (λ (ys : List ℕ). front ++ ys) (sym next)

-- items of so many bytes or more are no more than their bytes allow
pub each_takes : {X : Type 0} (f : X → ℕ) (m : ℕ) → ((x : X) → m ≤ f x) → (xs : List X) → m * length xs ≤ sum_by f xs
each_takes f m low [] = omega arith
each_takes f m low (x ∷ xs) = omega (arith, low x, each_takes f m low xs, sum_by-cons f x xs)
