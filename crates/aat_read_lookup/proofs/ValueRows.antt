-- Values of glyphs that follow one another, in a list of their own.
use Rattle.std.proofs.Common.{◌≡◌, ℕ, ◌+◌, ◌-◌, ◌*◌, ◌<◌, ◌≤◌, List, length, get_or, take, drop, map, ◌∙◌, ap, arith, zero-add}
use Rattle.std.specs.Int.{w16, from_be_bytes}
use Rattle.std.specs.List.{range_with_len}
use Rattle.std.proofs.lemmas.List.{drop-drop, drop-take, take-take}
use Rattle.std.proofs.lemmas.List.FromFn.{fill_by_all, get_or-map-range_with_len, length-map-range_with_len}
use Rattle.aat_bytes.specs.Numbers.{be16}
use Rattle.aat_lookup.specs.Listings.{pairs_from}
use Rattle.aat_read_lookup.proofs.Appended.{same_glyph}

-- the pairs of glyphs that follow one another, where their values are those of a function
pub pairs_of_values :
    (first n : ℕ) (v : ℕ → ℕ) (values : List ℕ) → values ≡ map v (range_with_len 0 n)
    → pairs_from first values ≡ map {B = ℕ × ℕ} (λ k. (first + k, v k)) (range_with_len 0 n)
pairs_of_values first n v values is =
    let long : length values ≡ n = ap length is ∙ length-map-range_with_len v 0 n in
    let pair : ℕ → ℕ × ℕ = λ k. (first + k, get_or values k 0) in
    let row : ℕ → ℕ × ℕ = λ k. (first + k, v k) in
    fill_by_all row (pairs_from first values) n (0, 0) (length-map-range_with_len pair 0 (length values) ∙ long)
    (λ k lt.
    get_or-map-range_with_len pair 0 (length values) k k (0, 0) (omega (arith, long, lt)) (zero-add k)
    ∙ same_glyph (first + k) (get_or values k 0) (v k) (ap (λ (xs : List ℕ). get_or xs k 0) is ∙ get_or-map-range_with_len v 0 n k k 0 lt (zero-add k)))

-- a number of a part of the bytes
pub word_within :
    (bytes : List ℕ) (at n place : ℕ) → place + 2 ≤ n → be16 (take n (drop at bytes)) place ≡ be16 bytes (at + place)
word_within bytes at n place inside =
    let split : n ≡ place + (n - place) = omega arith in
    ap (from_be_bytes w16)
    (ap (λ m. take 2 (drop place (take m (drop at bytes)))) split
    ∙ ap (take 2) (drop-take place (n - place) (drop at bytes))
    ∙ take-take 2 (n - place) (drop place (drop at bytes)) (omega arith)
    ∙ ap (take 2) (drop-drop place at bytes))
