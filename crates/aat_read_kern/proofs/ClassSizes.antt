-- What classes weigh of glyphs one behind the other.
use Rattle.std.proofs.Common.{◌≡◌, ℕ, zero, suc, ◌+◌, ◌-◌, ◌*◌, ◌/◌, ◌≤◌, List, length, map, true, refl, ap, ◌∙◌, zero-add, arith, ◌==◌}
use Rattle.std.proofs.Math.ListN.{get_or}
use Rattle.std.specs.List.{range_with_len}
use Rattle.std.specs.Prelude.{nat_le}
use Rattle.std.proofs.Math.Nat.{div-le_self}
use Rattle.std.proofs.lemmas.Bool.{le-leb}
use Rattle.std.proofs.lemmas.List.FromFn.{get_or-map-range_with_len, length-map-range_with_len}
use Rattle.aat_lookup.specs.Keys.{first}
use Rattle.aat_lookup.specs.GlyphSpans.{glyph_span}
use Rattle.aat_read_lookup.specs.Sizes.{cells_beside, pairs_size}
use Rattle.aat_read_lookup.proofs.ReadLayouts.{at_most}

-- as many cells stand beside pairs whose glyphs stand one behind the other, or fewer
few_cells : (n : ℕ) → cells_beside n n ≤ n
few_cells n =
    at_most (n == 0) 0 _ n (λ none. omega arith) (λ some.
    let near : nat_le (n / 32) n ≡ true = le-leb (n / 32) n (div-le_self n 32) in
    rw near (omega arith))

-- the glyphs from the first to the last of pairs
span_of :
    (ps : List (ℕ × ℕ)) (low high : ℕ)
    → (get_or ps 0 (0, 0)).0 ≡ low → (get_or ps (length ps - 1) (0, 0)).0 ≡ high
    → glyph_span first (0, 0) ps ≡ high - low + 1
span_of ps low high lowest highest = rw (lowest, highest) refl

-- the size of so many pairs from a glyph on
pub numbered_size : (start : ℕ) (pair : ℕ → ℕ × ℕ) → ((k : ℕ) → (pair k).0 ≡ start + k) → (n : ℕ)
    → pairs_size (map pair (range_with_len 0 n)) ≤ 8 * n
numbered_size start pair begins zero = omega arith
numbered_size start pair begins (suc n) =
    let ps : List (ℕ × ℕ) = map pair (range_with_len 0 (suc n)) in
    let long : length ps ≡ suc n = length-map-range_with_len pair 0 (suc n) in
    let end : length ps - 1 ≡ n = omega (arith, long) in
    let lowest : (get_or ps 0 (0, 0)).0 ≡ start + 0 =
    ap (λ (p : ℕ × ℕ). p.0) (get_or-map-range_with_len pair 0 (suc n) 0 0 (0, 0) (omega arith) (zero-add 0)) ∙ begins 0 in
    let highest : (get_or ps (length ps - 1) (0, 0)).0 ≡ start + n =
    ap (λ i. (get_or ps i (0, 0)).0) end
    ∙ ap (λ (p : ℕ × ℕ). p.0) (get_or-map-range_with_len pair 0 (suc n) n n (0, 0) (omega arith) (zero-add n))
    ∙ begins n in
    let whole : start + n - (start + 0) + 1 ≡ suc n = omega arith in
    let span : glyph_span first (0, 0) ps ≡ suc n = span_of ps (start + 0) (start + n) lowest highest ∙ whole in
    let beside : cells_beside (length ps) (glyph_span first (0, 0) ps) ≡ cells_beside (suc n) (suc n) =
    ap (λ s. cells_beside (length ps) s) span ∙ ap (λ count. cells_beside count (suc n)) long in
    let few = few_cells (suc n) in
    omega (arith, long, beside, few)

pub classes_size : (start : ℕ) (value : ℕ → ℕ) (n : ℕ)
    → pairs_size (map (λ k. (start + k, value k)) (range_with_len 0 n)) ≤ 8 * n
classes_size start value n = numbered_size start (λ k. (start + k, value k)) (λ k. refl) n
