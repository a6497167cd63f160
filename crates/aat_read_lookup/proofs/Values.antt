-- The value of a glyph among the pairs of segments is that of the segment that has the glyph.
use Rattle.std.proofs.Common.{◌≡◌, ℕ, zero, suc, ◌+◌, ◌-◌, ◌<◌, ◌≤◌, ◌⊎◌, inl, inr, List, [], ◌∷◌, ◌++◌, map, Option, Some, None, Bool, false, cond, Result, Ok, Err, find, refl, sym, ap, ◌∙◌, arith}
use Rattle.std.specs.Prelude.{option_map, nat_eq, nat_le, nat_lt, ◌&&◌}
use Rattle.std.specs.List.{flat_map, range_with_len}
use Rattle.std.specs.Option.{option_or}
use Rattle.std.proofs.lemmas.Bool.{cases_eq, cases_lt, eq-eqb, ne_eqb, le-leb, lt-ltb, le-ltb, lt-leb, and_from, and_left, and_right, cond-true, cond-false}
use Rattle.std.proofs.lemmas.List.Folds.{find-append}
use Rattle.aat_bytes.specs.Faults.{after}
use Rattle.aat_bytes.specs.declared.error.Fault.{Fault}
use Rattle.aat_lookup.specs.Keys.{at_key, first, value_in}
use Rattle.aat_read_lookup.specs.Layouts.{layout_at, segments_of}
use Rattle.aat_read_lookup.specs.LookupLaws.{ValuesAreThoseOfSegments}
use Rattle.aat_read_lookup.specs.Lookups.{pairs_of}
use Rattle.aat_read_lookup.specs.Segments.{end_of, has_glyph, segment_pairs, value_at, value_in_segments}
use Rattle.aat_read_lookup.specs.declared.layout.Layout.{Layout}
use Rattle.aat_read_lookup.specs.declared.segment.Segment.{Segment}
use Rattle.aat_read_lookup.specs.declared.segment.ValueKind.TheVariants.{Word}

-- the pairs of glyphs from one on
numbered : ℕ → (ℕ → ℕ) → ℕ → ℕ → List (ℕ × ℕ)
numbered start value i n = map (λ k. (start + k, value k)) (range_with_len i n)

-- a glyph among them has its pair
found :
    (start : ℕ) (value : ℕ → ℕ) (glyph i n : ℕ)
    → start + i ≤ glyph → glyph < start + i + n
    → at_key first (numbered start value i n) glyph ≡ Some (glyph, value (glyph - start))
unfolding numbered
found start value glyph i zero low high = absurd (omega arith)
found start value glyph i (suc n) low high =
    let head : ℕ × ℕ = (start + i, value i) in
    let rest : Option (ℕ × ℕ) = at_key first (numbered start value (i + 1) n) glyph in
    elim (cases_eq (start + i) glyph) [
      | inl here ↦
          let k : glyph - start ≡ i = omega arith in
          cond-true (nat_eq (start + i) glyph) (Some head) rest (eq-eqb (start + i) glyph here) ∙ rw (here, k) refl
      | inr other ↦
          cond-false (nat_eq (start + i) glyph) (Some head) rest (ne_eqb (start + i) glyph other)
          ∙ found start value glyph (i + 1) n (omega arith) (omega arith)
    ]

-- another glyph has none
not_found :
    (start : ℕ) (value : ℕ → ℕ) (glyph i n : ℕ)
    → (glyph < start + i) ⊎ (start + i + n ≤ glyph)
    → at_key first (numbered start value i n) glyph ≡ None
unfolding numbered
not_found start value glyph i zero apart = refl
not_found start value glyph i (suc n) apart =
    let head : ℕ × ℕ = (start + i, value i) in
    let rest : Option (ℕ × ℕ) = at_key first (numbered start value (i + 1) n) glyph in
    elim apart [
      | inl low ↦
          cond-false (nat_eq (start + i) glyph) (Some head) rest (ne_eqb (start + i) glyph (λ e. omega arith))
          ∙ not_found start value glyph (i + 1) n (inl (omega arith))
      | inr high ↦
          cond-false (nat_eq (start + i) glyph) (Some head) rest (ne_eqb (start + i) glyph (λ e. omega arith))
          ∙ not_found start value glyph (i + 1) n (inr (omega arith))
    ]

-- what a segment in front of pairs answers of a glyph
front : (bytes : List ℕ) (segment : Segment) (pairs : List (ℕ × ℕ)) (glyph : ℕ)
    → at_key first (segment_pairs bytes segment ++ pairs) glyph
    ≡ option_or (at_key first (segment_pairs bytes segment) glyph) (at_key first pairs glyph)
front bytes segment pairs glyph = find-append (λ (p : ℕ × ℕ). nat_eq p.0 glyph) (segment_pairs bytes segment) pairs

-- the value of a glyph among the pairs of segments
pub value_among :
    (bytes : List ℕ) (segments : List Segment) (glyph : ℕ)
    → value_in (flat_map (segment_pairs bytes) segments) glyph ≡ value_in_segments bytes segments glyph
unfolding numbered
value_among bytes [] glyph = refl
value_among bytes (segment ∷ segments) glyph =
    let value : ℕ → ℕ = value_at bytes segment.values in
    let pairs : List (ℕ × ℕ) = flat_map (segment_pairs bytes) segments in
    let later : Option Segment = find (has_glyph glyph) segments in
    let answer : Segment → ℕ = λ s. value_at bytes s.values (glyph - s.first) in
    let low : Bool = nat_le segment.first glyph in
    let high : Bool = nat_lt glyph (end_of segment) in
    let in_front : value_in (segment_pairs bytes segment ++ pairs) glyph ≡ option_map (λ (p : ℕ × ℕ). p.1) (option_or (at_key first (segment_pairs bytes segment) glyph) (at_key first pairs glyph)) =
    ap (option_map (λ (p : ℕ × ℕ). p.1)) (front bytes segment pairs glyph) in
    let passed : at_key first (segment_pairs bytes segment) glyph ≡ None → (low && high) ≡ false → value_in (segment_pairs bytes segment ++ pairs) glyph ≡ option_map answer (cond (low && high) (Some segment) later) =
    λ none not_here. in_front
    ∙ ap (λ o. option_map (λ (p : ℕ × ℕ). p.1) (option_or o (at_key first pairs glyph))) none
    ∙ value_among bytes segments glyph
    ∙ ap (option_map answer) (sym (cond-false (low && high) (Some segment) later not_here)) in
    elim (cases_lt glyph segment.first) [
      | inl before ↦
          passed (not_found segment.first value glyph 0 segment.count (inl (omega arith))) (and_left low high (lt-leb segment.first glyph before))
      | inr from ↦ elim (cases_lt glyph (end_of segment)) [
        | inl inside ↦
            in_front
            ∙ ap (λ o. option_map (λ (p : ℕ × ℕ). p.1) (option_or o (at_key first pairs glyph))) (found segment.first value glyph 0 segment.count (omega arith) (omega arith))
            ∙ ap (option_map answer) (sym (cond-true (low && high) (Some segment) later (and_from low high (le-leb segment.first glyph from) (lt-ltb glyph (end_of segment) inside))))
        | inr behind ↦
            passed (not_found segment.first value glyph 0 segment.count (inr (omega arith))) (and_right low high (le-ltb glyph (end_of segment) behind))
      ]
    ]

-- the same of what is read
values_read :
    (bytes : List ℕ) (read : Result Layout Fault) (pairs : List (ℕ × ℕ)) (glyph : ℕ)
    → after read (λ layout. Ok (pairs_of bytes layout)) ≡ Ok pairs
    → value_in pairs glyph ≡ elim read [ Err fault ↦ None | Ok layout ↦ value_in_segments bytes (segments_of bytes layout) glyph ]
values_read bytes (Err fault) pairs glyph is = cc
values_read bytes (Ok layout) pairs glyph is =
    let same : pairs ≡ pairs_of bytes layout = cc in
    ap (λ ps. value_in ps glyph) same ∙ value_among bytes (segments_of bytes layout) glyph

-- the law
pub values_are_those_of_segments : ValuesAreThoseOfSegments
values_are_those_of_segments table bytes place glyph_count pairs glyph is =
    values_read bytes (layout_at table bytes place glyph_count Word) pairs glyph is
