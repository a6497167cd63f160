-- The bits of glyphs that follow one another, and of those of segments.
use Rattle.std.proofs.Common.{◌≡◌, ℕ, suc, ◌+◌, ◌-◌, ◌*◌, ◌%◌, ◌^◌, ◌<◌, ◌≤◌, ◌⊎◌, inl, inr, List, [], ◌∷◌, ◌++◌, length, get_or, set, bit_or, Bool, true, ◌∙◌, ap, sym, subst, refl, arith, w64, zero-add}
use Rattle.std.specs.Int.{bit_at}
use Rattle.std.proofs.lemmas.Bool.{cases_eq, cases_lt}
use Rattle.std.proofs.lemmas.List.{get_or_append_left, get_or-append_right, get_or-set_same, length-append}
use Rattle.std.proofs.lemmas.List.FromFn.{get_or-map-range_with_len, length-map-range_with_len}
use Rattle.std.proofs.lemmas.Nat.Bits.{bit_at_or, bit_at_set_same, bit_at_set_other, bit_at-lt}
use Rattle.aat_lookup.specs.Listings.{pairs_from}
use Rattle.aat_lookup.specs.Segments.{pairs_of_segment, pairs_of_segments}
use Rattle.aat_lookup.specs.declared.segments.LookupSegment.{LookupSegment}
use Rattle.aat_font.specs.Wakers.{word_of, word_place}
use Rattle.aat_font.specs.inside.MarkedWords.{ArePassed, KeepsBits}
use Rattle.aat_font.specs.declared.wakers.GlyphWords.{GlyphWords}
use Rattle.aat_font.proofs.MoreBits.{or_wider, words_wider}

-- words up to a place that have a bit, and one more
module _ (words : List ℕ) (place bit : ℕ) (small : bit < 64) (within : place < length words) where
  here : bit_at (get_or (set words place (bit_or (get_or words place 0) (1 * 2 ^ bit % 18446744073709551616))) place 0) bit ≡ 1
  here =
      rw (get_or-set_same words place (bit_or (get_or words place 0) (1 * 2 ^ bit % 18446744073709551616)) 0 within)
      (bit_at_set_same w64 (get_or words place 0) bit small)

  by_place :
      (i : ℕ) → (i < place → bit_at (get_or words i 0) bit ≡ 1) → (i < place) ⊎ (place ≤ i) → i < place + 1
      → bit_at (get_or (set words place (bit_or (get_or words place 0) (1 * 2 ^ bit % 18446744073709551616))) i 0) bit ≡ 1
  by_place i before (inl low) lt =
      let next = set words place (bit_or (get_or words place 0) (1 * 2 ^ bit % 18446744073709551616)) in
      omega (arith, before low, words_wider words place (1 * 2 ^ bit % 18446744073709551616) within i bit, bit_at-lt (get_or next i 0) bit)
  by_place i before (inr high) lt =
      let next = set words place (bit_or (get_or words place 0) (1 * 2 ^ bit % 18446744073709551616)) in
      let same : place ≡ i = omega arith in
      subst (λ (j : ℕ). bit_at (get_or next j 0) bit ≡ 1) same here

  pub set_more :
      (i : ℕ) → (i < place → bit_at (get_or words i 0) bit ≡ 1) → i < place + 1
      → bit_at (get_or (set words place (bit_or (get_or words place 0) (1 * 2 ^ bit % 18446744073709551616))) i 0) bit ≡ 1
  set_more i before lt = by_place i before (cases_lt i place) lt

-- one class more that passes a test
module _ (test : ℕ → Bool) (passed class : ℕ) (small : class < 64) (known : ArePassed test passed) (passes : test class ≡ true) where
  by_class : (k : ℕ) → (k ≡ class) ⊎ ((k ≡ class) → ⊥) → bit_at (bit_or passed (1 * 2 ^ class % 18446744073709551616)) k ≡ 1 → test k ≡ true
  by_class k (inl same) is = ap test same ∙ passes
  by_class k (inr other) is = known k (sym (bit_at_set_other w64 passed class small k other) ∙ is)

  pub passed_more : ArePassed test (bit_or passed (1 * 2 ^ class % 18446744073709551616))
  passed_more k is = by_class k (cases_eq k class) is

-- what holds of each glyph of segments and its value holds of each pair
pub of_segments :
    (P : ℕ → ℕ → Type 0) (segments : List LookupSegment)
    → ((j : ℕ) (d : LookupSegment) → j < length segments → (g : ℕ) → (get_or segments j d).first_glyph ≤ g
    → g ≤ (get_or segments j d).last_glyph → P g (get_or segments j d).value)
    → (i : ℕ) → i < length (pairs_of_segments segments)
    → P (get_or (pairs_of_segments segments) i (0, 0)).0 (get_or (pairs_of_segments segments) i (0, 0)).1
of_segments P [] all i lt = absurd (omega arith)
of_segments P (s ∷ segments) all i lt =
    let pair : ℕ → ℕ × ℕ = λ k. (s.first_glyph + k, s.value) in
    let n = s.last_glyph + 1 - s.first_glyph in
    let xs = pairs_of_segment s in
    let ys = pairs_of_segments segments in
    let long : length xs ≡ n = length-map-range_with_len pair 0 n in
    elim (cases_lt i (length xs)) [
      | inl low ↦
          let is : get_or (xs ++ ys) i (0, 0) ≡ pair i =
          get_or_append_left xs ys (0, 0) i low ∙ get_or-map-range_with_len pair 0 n i i (0, 0) (omega (arith, low, long)) (zero-add i) in
          subst (λ (p : ℕ × ℕ). P p.0 p.1) (sym is) (all 0 s (omega arith) (s.first_glyph + i) (omega arith) (omega (arith, low, long)))
      | inr high ↦
          let is : get_or (xs ++ ys) i (0, 0) ≡ get_or ys (i - length xs) (0, 0) = get_or-append_right xs ys (length xs) i (0, 0) refl high in
          subst (λ (p : ℕ × ℕ). P p.0 p.1) (sym is)
          (of_segments P segments (λ j d below. all (suc j) d (omega (arith, below))) (i - length xs) (omega (arith, lt, high, length-append xs ys)))
    ]

-- what holds of glyphs that follow one another and their values holds of each pair
pub of_values :
    (P : ℕ → ℕ → Type 0) (lowest : ℕ) (values : List ℕ) → ((k : ℕ) → k < length values → P (lowest + k) (get_or values k 0))
    → (i : ℕ) → i < length (pairs_from lowest values)
    → P (get_or (pairs_from lowest values) i (0, 0)).0 (get_or (pairs_from lowest values) i (0, 0)).1
of_values P lowest values all i lt =
    let pair : ℕ → ℕ × ℕ = λ k. (lowest + k, get_or values k 0) in
    let within : i < length values = omega (arith, lt, length-map-range_with_len pair 0 (length values)) in
    let is : get_or (pairs_from lowest values) i (0, 0) ≡ pair i =
    get_or-map-range_with_len pair 0 (length values) i i (0, 0) within (zero-add i) in
    subst (λ (p : ℕ × ℕ). P p.0 p.1) (sym is) (all i within)

module _ (w new : GlyphWords) (every : new.everywhere ≡ w.everywhere)
    (wide : (i k : ℕ) → bit_at (get_or w.words.items i 0) k ≤ bit_at (get_or new.words.items i 0) k) where
  -- words that get bits keep those of each glyph
  pub words_keep : KeepsBits w new
  words_keep g k =
      rw every (or_wider w.everywhere (get_or w.words.items (word_place g) 0) w.everywhere (get_or new.words.items (word_place g) 0) k (omega arith) (wide (word_place g) k))

-- a glyph whose own word has a bit has it
pub own_bit :
    (w : GlyphWords) (g bit : ℕ) → bit_at (get_or w.words.items (word_place g) 0) bit ≡ 1 → bit_at (word_of w g) bit ≡ 1
own_bit w g bit is =
    omega (arith, is, bit_at_or w.everywhere (get_or w.words.items (word_place g) 0) bit, bit_at-lt w.everywhere bit)

-- a bit that is set stays
pub stays_set : (old new : GlyphWords) (g bit : ℕ) → KeepsBits old new → bit_at (word_of old g) bit ≡ 1 → bit_at (word_of new g) bit ≡ 1
stays_set old new g bit kept is = omega (arith, kept g bit, is, bit_at-lt (word_of new g) bit)
