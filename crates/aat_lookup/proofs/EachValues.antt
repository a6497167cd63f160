-- The value of a glyph among those of the glyphs from 0 on.
use Rattle.std.proofs.Common.{◌≡◌, ℕ, zero, suc, ◌+◌, ◌<◌, ◌≤◌, List, [], ◌∷◌, length, get_or, Option, Some, None, refl, sym, ap, ◌∙◌, arith}
use Rattle.std.specs.Prelude.{nat_eq, option_map}
use Rattle.std.specs.List.{enumerate_from}
use Rattle.std.proofs.lemmas.List.{ext_get_or}
use Rattle.std.proofs.lemmas.List.FromFn.{get_or-enumerate_from, get_or-map-range_with_len, length-enumerate_from, length-map-range_with_len}
use Rattle.std.proofs.lemmas.Bool.{eq-eqb, ne_eqb, cond-true, cond-false}
use Rattle.aat_lookup.specs.EachGlyph.{pairs_of_each}
use Rattle.aat_lookup.specs.Listings.{pairs_from}
use Rattle.aat_lookup.specs.Keys.{at_key, first, value_in}

-- a glyph that the first one of a list is not
passed :
    (start value : ℕ) (values : List ℕ) (k : ℕ)
    → value_in (enumerate_from start (value ∷ values)) (start + suc k) ≡ value_in (enumerate_from (start + 1) values) (start + 1 + k)
passed start value values k =
    let rest : Option (ℕ × ℕ) = at_key first (enumerate_from (start + 1) values) (start + suc k) in
    let next : start + suc k ≡ start + 1 + k = omega arith in
    ap (option_map (λ (p : ℕ × ℕ). p.1)) (cond-false (nat_eq start (start + suc k)) (Some (start, value)) rest (ne_eqb start (start + suc k) (λ e. omega arith)))
    ∙ ap (value_in (enumerate_from (start + 1) values)) next

-- the glyph at a place behind the first one has the value there
found :
    (start : ℕ) (values : List ℕ) (k : ℕ)
    → k < length values → value_in (enumerate_from start values) (start + k) ≡ Some (get_or values k 0)
found start [] k below = absurd (omega arith)
found start (v ∷ values) zero below =
    let rest : Option (ℕ × ℕ) = at_key first (enumerate_from (start + 1) values) (start + 0) in
    ap (option_map (λ (p : ℕ × ℕ). p.1)) (cond-true (nat_eq start (start + 0)) (Some (start, v)) rest (eq-eqb start (start + 0) (omega arith)))
found start (v ∷ values) (suc k) below = passed start v values k ∙ found (start + 1) values k (omega arith)

-- one behind all of them has none
behind :
    (start : ℕ) (values : List ℕ) (k : ℕ)
    → length values ≤ k → value_in (enumerate_from start values) (start + k) ≡ None
behind start [] k above = refl
behind start (v ∷ values) zero above = absurd (omega arith)
behind start (v ∷ values) (suc k) above = passed start v values k ∙ behind (start + 1) values k (omega arith)

-- so from 0 on
pub each_found : (values : List ℕ) (glyph : ℕ) → glyph < length values → value_in (pairs_of_each values) glyph ≡ Some (get_or values glyph 0)
each_found values glyph below =
    let same : glyph ≡ 0 + glyph = omega arith in ap (value_in (pairs_of_each values)) same ∙ found 0 values glyph below

pub each_behind : (values : List ℕ) (glyph : ℕ) → length values ≤ glyph → value_in (pairs_of_each values) glyph ≡ None
each_behind values glyph above =
    let same : glyph ≡ 0 + glyph = omega arith in ap (value_in (pairs_of_each values)) same ∙ behind 0 values glyph above

-- the list of the pair of each glyph is that of the glyphs from 0 on and their values
pub each_pair :
    (values : List ℕ) (pairs : List (ℕ × ℕ))
    → length pairs ≡ length values
    → ((k : ℕ) → k < length values → get_or pairs k (0, 0) ≡ (k, get_or values k 0))
    → pairs ≡ pairs_of_each values
each_pair values pairs long each =
    ext_get_or (0, 0) pairs (pairs_of_each values) (long ∙ sym (length-enumerate_from 0 values))
    (λ k lt.
    let same : 0 + k ≡ k = omega arith in
    let behind : get_or (enumerate_from 0 values) k (0, 0) ≡ (0 + k, get_or values k 0) = get_or-enumerate_from 0 values k (0, 0) (omega (arith, long)) in
    each k (omega (arith, long)) ∙ sym (rw same at behind))

-- so are those of glyphs that follow one another, from 0 on
pub each_listed : (values : List ℕ) → pairs_from 0 values ≡ pairs_of_each values
each_listed values =
    let pair : ℕ → ℕ × ℕ = λ k. (0 + k, get_or values k 0) in
    each_pair values (pairs_from 0 values) (length-map-range_with_len pair 0 (length values))
    (λ k lt.
    let same : 0 + k ≡ k = omega arith in
    get_or-map-range_with_len pair 0 (length values) k k (0, 0) lt same ∙ ap (λ (j : ℕ). (j, get_or values k 0)) same)
