-- The value of a glyph among the pairs of segments.
use Rattle.std.proofs.Common.{◌≡◌, ℕ, zero, suc, ◌+◌, ◌-◌, ◌<◌, ◌≤◌, ◌⊎◌, inl, inr, List, [], ◌∷◌, ◌++◌, length, map, get_or, Option, Some, None, refl, sym, ap, ◌∙◌, arith}
use Rattle.std.specs.Prelude.{option_map, nat_eq}
use Rattle.std.specs.List.{range_with_len}
use Rattle.std.specs.Option.{option_or}
use Rattle.std.proofs.lemmas.Bool.{cases_eq, cases_lt, eq-eqb, ne_eqb, cond-true, cond-false}
use Rattle.std.proofs.lemmas.List.Folds.{find-append}
use Rattle.aat_lookup.specs.Keys.{IsRising, at_key, first, value_in}
use Rattle.aat_lookup.specs.Segments.{last_of, pairs_of_segment, pairs_of_segments}
use Rattle.aat_lookup.specs.declared.segments.LookupSegment.{LookupSegment}
use Rattle.aat_lookup.specs.inside.Ordered.{AreInOrder}

-- glyphs from one on, with a value
numbered : ℕ → ℕ → ℕ → ℕ → List (ℕ × ℕ)
numbered start value i n = map (λ k. (start + k, value)) (range_with_len i n)

-- a glyph among them has its pair
found :
    (start value glyph i n : ℕ)
    → start + i ≤ glyph → glyph < start + i + n
    → at_key first (numbered start value i n) glyph ≡ Some (glyph, value)
unfolding numbered
found start value glyph i zero low high = absurd (omega arith)
found start value glyph i (suc n) low high =
    let head : ℕ × ℕ = (start + i, value) in
    let rest : Option (ℕ × ℕ) = at_key first (numbered start value (i + 1) n) glyph in
    elim (cases_eq (start + i) glyph) [
      | inl here ↦ cond-true (nat_eq (start + i) glyph) (Some head) rest (eq-eqb (start + i) glyph here) ∙ rw here refl
      | inr other ↦
          cond-false (nat_eq (start + i) glyph) (Some head) rest (ne_eqb (start + i) glyph other)
          ∙ found start value glyph (i + 1) n (omega arith) (omega arith)
    ]

-- another glyph has none
not_found :
    (start value glyph i n : ℕ)
    → (glyph < start + i) ⊎ (start + i + n ≤ glyph)
    → at_key first (numbered start value i n) glyph ≡ None
unfolding numbered
not_found start value glyph i zero apart = refl
not_found start value glyph i (suc n) apart =
    let head : ℕ × ℕ = (start + i, value) in
    let rest : Option (ℕ × ℕ) = at_key first (numbered start value (i + 1) n) glyph in
    elim apart [
      | inl low ↦
          cond-false (nat_eq (start + i) glyph) (Some head) rest (ne_eqb (start + i) glyph (λ e. omega arith))
          ∙ not_found start value glyph (i + 1) n (inl (omega arith))
      | inr high ↦
          cond-false (nat_eq (start + i) glyph) (Some head) rest (ne_eqb (start + i) glyph (λ e. omega arith))
          ∙ not_found start value glyph (i + 1) n (inr (omega arith))
    ]

-- what a segment in front of pairs answers of a glyph
front :
    (s : LookupSegment) (pairs : List (ℕ × ℕ)) (glyph : ℕ) (o : Option (ℕ × ℕ))
    → at_key first (pairs_of_segment s) glyph ≡ o
    → value_in (pairs_of_segment s ++ pairs) glyph ≡ option_map (λ (p : ℕ × ℕ). p.1) (option_or o (at_key first pairs glyph))
front s pairs glyph o is =
    ap (option_map (λ (p : ℕ × ℕ). p.1))
    (find-append (λ (p : ℕ × ℕ). nat_eq p.0 glyph) (pairs_of_segment s) pairs
    ∙ ap (λ x. option_or x (at_key first pairs glyph)) is)

-- whether a glyph is apart from a segment
IsApart : LookupSegment → ℕ → Type 0
IsApart s glyph = (glyph < s.first_glyph) ⊎ (s.last_glyph < glyph)

passed :
    (s : LookupSegment) (pairs : List (ℕ × ℕ)) (glyph : ℕ)
    → s.first_glyph ≤ s.last_glyph → IsApart s glyph
    → value_in (pairs_of_segment s ++ pairs) glyph ≡ value_in pairs glyph
unfolding IsApart numbered
passed s pairs glyph whole (inl low) =
    front s pairs glyph None
    (not_found s.first_glyph s.value glyph 0 (s.last_glyph + 1 - s.first_glyph) (inl (omega arith)))
passed s pairs glyph whole (inr high) =
    front s pairs glyph None
    (not_found s.first_glyph s.value glyph 0 (s.last_glyph + 1 - s.first_glyph) (inr (omega arith)))

answered :
    (s : LookupSegment) (pairs : List (ℕ × ℕ)) (glyph : ℕ)
    → s.first_glyph ≤ glyph → glyph ≤ s.last_glyph
    → value_in (pairs_of_segment s ++ pairs) glyph ≡ Some s.value
unfolding numbered
answered s pairs glyph low high =
    front s pairs glyph (Some (glyph, s.value))
    (found s.first_glyph s.value glyph 0 (s.last_glyph + 1 - s.first_glyph) (omega arith) (omega arith))

-- a glyph that no segment has, has no value
pub value_none :
    (segments : List LookupSegment) (glyph : ℕ)
    → ((j : ℕ) (d : LookupSegment) → j < length segments
    → ((get_or segments j d).first_glyph ≤ (get_or segments j d).last_glyph)
    × ((glyph < (get_or segments j d).first_glyph) ⊎ ((get_or segments j d).last_glyph < glyph)))
    → value_in (pairs_of_segments segments) glyph ≡ None
unfolding IsApart
value_none [] glyph apart = refl
value_none (s ∷ segments) glyph apart =
    let here = apart 0 s (omega arith) in
    passed s (pairs_of_segments segments) glyph here.0 here.1
    ∙ value_none segments glyph (λ j d lt. apart (suc j) d (omega arith))

-- a glyph has the value of the first segment that has it
pub value_some :
    (segments : List LookupSegment) (glyph i : ℕ) (d : LookupSegment)
    → i < length segments
    → (get_or segments i d).first_glyph ≤ glyph → glyph ≤ (get_or segments i d).last_glyph
    → ((j : ℕ) → j < i → ((get_or segments j d).first_glyph ≤ (get_or segments j d).last_glyph)
    × ((get_or segments j d).last_glyph < glyph))
    → value_in (pairs_of_segments segments) glyph ≡ Some (get_or segments i d).value
unfolding IsApart
value_some [] glyph i d lt low high before = absurd (omega arith)
value_some (s ∷ segments) glyph zero d lt low high before = answered s (pairs_of_segments segments) glyph low high
value_some (s ∷ segments) glyph (suc i) d lt low high before =
    let here = before 0 (omega arith) in
    passed s (pairs_of_segments segments) glyph here.0 (inr here.1)
    ∙ value_some segments glyph i d (omega arith) low high (λ j below. before (suc j) (omega arith))

module _ (segments : List LookupSegment) (ordered : AreInOrder segments) where
  -- the last glyphs of segments in order rise
  pub lasts_rise : IsRising last_of segments
  lasts_rise i j d lt within = let here = ordered i j d within in omega (arith, here.0, here.1 lt)

  -- the glyph at which a segment ends has its value
  pub value_at_last :
      (glyph i : ℕ) (d : LookupSegment)
      → i < length segments → (get_or segments i d).last_glyph ≡ glyph
      → value_in (pairs_of_segments segments) glyph ≡ Some (get_or segments i d).value
  value_at_last glyph i d within is =
      let here = ordered i i d within in
      value_some segments glyph i d within (omega (arith, here.0, is)) (omega (arith, is))
      (λ j below. ((ordered j j d (omega arith)).0, omega (arith, is, here.0, (ordered j i d within).1 below)))

  -- a glyph behind the segments before a place, and before the end of that one, has its value, if it begins there
  pub value_inside :
      (glyph i : ℕ) (d : LookupSegment)
      → i < length segments → (get_or segments i d).first_glyph ≤ glyph → glyph < (get_or segments i d).last_glyph
      → value_in (pairs_of_segments segments) glyph ≡ Some (get_or segments i d).value
  value_inside glyph i d within low high =
      value_some segments glyph i d within low (omega (arith, high))
      (λ j below. ((ordered j j d (omega arith)).0, omega (arith, low, (ordered j i d within).1 below)))

  -- and it has none where it does not
  pub value_between :
      (glyph i : ℕ)
      → ((j : ℕ) (d : LookupSegment) → j < length segments → (j < i → (get_or segments j d).last_glyph < glyph))
      → ((d : LookupSegment) → i < length segments → glyph < (get_or segments i d).first_glyph)
      → value_in (pairs_of_segments segments) glyph ≡ None
  value_between glyph i before behind =
      value_none segments glyph (λ j d within. (
        (ordered j j d within).0,
        elim (cases_lt j i) [
          | inl below ↦ inr (before j d within below)
          | inr from ↦ elim (cases_eq i j) [
            | inl same ↦ inl (rw (sym same) (behind d (omega arith)))
            | inr other ↦
                let first = behind d (omega arith) in
                let here = ordered i i d (omega arith) in
                inl (omega (arith, first, here.0, (ordered i j d within).1 (omega arith)))
          ]
        ],
      ))
