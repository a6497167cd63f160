-- Segments without a fall are in order.
use Rattle.std.proofs.Common.{◌≡◌, ℕ, zero, suc, ◌+◌, ◌<◌, ◌≤◌, List, [], ◌∷◌, length, get_or, Some, None, Option, Bool, true, false, refl, arith, cond, ltb}
use Rattle.std.specs.Prelude.{◌||◌}
use Rattle.std.proofs.lemmas.Bool.Decides.{nat_tests}
use Rattle.aat_lookup.specs.Segments.{first_segment_fall, segment_fall_from}
use Rattle.aat_lookup.specs.declared.segments.LookupSegment.{LookupSegment}
use Rattle.aat_lookup.specs.inside.Ordered.{AreInOrder}

-- a choice that is none was not the first
opened : (a b : Bool) (o : Option ℕ) (n : ℕ) → cond (a || b) (Some n) o ≡ None → (a ≡ false) × (b ≡ false) × (o ≡ None)
opened true b o n h = cc
opened false true o n h = cc
opened false false o n h = (refl, refl, h)

-- where there is no fall, each segment has a glyph and begins at or behind the lowest glyph
above :
    (n lowest : ℕ) (segments : List LookupSegment)
    → segment_fall_from n lowest segments ≡ None
    → (j : ℕ) (d : LookupSegment) → j < length segments
    → (lowest ≤ (get_or segments j d).first_glyph) × ((get_or segments j d).first_glyph ≤ (get_or segments j d).last_glyph)
above n lowest [] none j d lt = absurd (omega arith)
above n lowest (s ∷ segments) none zero d lt =
    let h = opened (ltb s.first_glyph lowest) (ltb s.last_glyph s.first_glyph) _ n none in
    (grind (arith, nat_tests, h.0), grind (arith, nat_tests, h.1))
above n lowest (s ∷ segments) none (suc j) d lt =
    let h = opened (ltb s.first_glyph lowest) (ltb s.last_glyph s.first_glyph) _ n none in
    let later = above (n + 1) (s.last_glyph + 1) segments h.2 j d (omega arith) in
    (grind (arith, nat_tests, h.0, h.1, later.0), later.1)

ordered_from :
    (n lowest : ℕ) (segments : List LookupSegment)
    → segment_fall_from n lowest segments ≡ None
    → (i j : ℕ) (d : LookupSegment) → j < length segments → i < j
    → (get_or segments i d).last_glyph < (get_or segments j d).first_glyph
ordered_from n lowest [] none i j d within lt = absurd (omega arith)
ordered_from n lowest (s ∷ segments) none i zero d within lt = absurd (omega arith)
ordered_from n lowest (s ∷ segments) none zero (suc j) d within lt =
    let h = opened (ltb s.first_glyph lowest) (ltb s.last_glyph s.first_glyph) _ n none in
    let later = above (n + 1) (s.last_glyph + 1) segments h.2 j d (omega arith) in
    omega (arith, later.0)
ordered_from n lowest (s ∷ segments) none (suc i) (suc j) d within lt =
    let h = opened (ltb s.first_glyph lowest) (ltb s.last_glyph s.first_glyph) _ n none in
    ordered_from (n + 1) (s.last_glyph + 1) segments h.2 i j d (omega arith) (omega arith)

-- segments without a fall are in order
pub in_order : (segments : List LookupSegment) → first_segment_fall segments ≡ None → AreInOrder segments
in_order segments none i j d within =
    ((above 0 0 segments none j d within).1, λ lt. ordered_from 0 0 segments none i j d within lt)
