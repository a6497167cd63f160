-- The value of a glyph by units is that of the unit that a bisection finds for it.
use Rattle.std.proofs.Common.{◌≡◌, ℕ, ◌+◌, ◌-◌, ◌*◌, ◌<◌, ◌≤◌, List, [], ◌∷◌, map, min, Option, Some, None, Bool, true, false, cond, Result, Ok, find, refl, sym, ap, ◌∙◌, arith}
use Rattle.std.specs.Prelude.{option_map, nat_le, nat_lt, ◌&&◌, slice_index}
use Rattle.std.specs.List.{range_with_len}
use Rattle.std.proofs.lemmas.Bool.{and_from, le-leb, leb-true, lt-ltb, ltb-true}
use Rattle.aat_bytes.specs.Faults.{after}
use Rattle.aat_bytes.specs.Numbers.{be16}
use Rattle.aat_bytes.specs.declared.error.Fault.{Fault}
use Rattle.aat_bytes.specs.facts.Bisections.{found_has}
use Rattle.aat_bytes.specs.facts.FoundKeys.{finds_key, has_key}
use Rattle.aat_bytes.specs.facts.Parts.{ok_parts}
use Rattle.aat_lookup.specs.Keys.{value_in}
use Rattle.aat_read_lookup.specs.Layouts.{glyphs_found, layout_at, segment_at, segment_of, unit_at, unit_place, unit_segments}
use Rattle.aat_read_lookup.specs.LookupLaws.{ValuesAreThoseFound, unit_found, value_in_unit}
use Rattle.aat_read_lookup.specs.Lookups.{pairs_of}
use Rattle.aat_read_lookup.specs.Segments.{end_of, has_glyph, value_at, values_behind}
use Rattle.aat_read_lookup.specs.declared.layout.Layout.{Layout}
use Rattle.aat_read_lookup.specs.declared.layout.Layout.TheVariants.{Searched}
use Rattle.aat_read_lookup.specs.declared.segment.Segment.{Segment}
use Rattle.aat_read_lookup.specs.declared.segment.ValueKind.{ValueKind}
use Rattle.aat_read_lookup.specs.declared.segment.ValueKind.TheVariants.{Word, Long}
use Rattle.aat_read_lookup.specs.declared.segment.Values.{Values}
use Rattle.aat_read_lookup.specs.declared.segment.Values.TheVariants.{Shared, Each, Bytes}
use Rattle.aat_read_lookup.specs.declared.units.UnitKind.{UnitKind}
use Rattle.aat_read_lookup.specs.declared.units.UnitKind.TheVariants.{SegmentSingle, SegmentArray, Single}
use Rattle.aat_read_lookup.specs.declared.units.Units.{Units}
use Rattle.aat_read_lookup.specs.facts.FoundRows.{at_some, find_alike, found_place, is_at, same_tests, some_at}
use Rattle.aat_read_lookup.proofs.SoundUnits.{behind, glyphs_own, low, segment_ends, wide}
use Rattle.aat_read_lookup.proofs.Values.{value_among}

-- what is found among elements of a list is found by its place
one_mapped :
    {X : Type 0} (f : ℕ → X) (b : Bool) (i : ℕ) (found : Option X) (place : Option ℕ)
    → found ≡ option_map f place → cond b (Some (f i)) found ≡ option_map f (cond b (Some i) place)
one_mapped f true i found place later = refl
one_mapped f false i found place later = later

find_mapped :
    {X : Type 0} (p : X → Bool) (f : ℕ → X) (xs : List ℕ) → find p (map f xs) ≡ option_map f (find (λ i. p (f i)) xs)
find_mapped p f [] = refl
find_mapped p f (i ∷ xs) = one_mapped f (p (f i)) i (find p (map f xs)) (find (λ k. p (f k)) xs) (find_mapped p f xs)

both : (b d : Bool) → (b && d) ≡ true → (b ≡ true) × (d ≡ true)
both true d is = (refl, is)
both false d is = cc

-- a value behind others
value_behind :
    (bytes : List ℕ) (values : Values) (skipped k : ℕ)
    → value_at bytes (values_behind values skipped) k ≡ value_at bytes values (skipped + k)
value_behind bytes (Shared kind at) skipped k = refl
value_behind bytes (Each Word at) skipped k =
    let place : at + 2 * skipped + 2 * k ≡ at + 2 * (skipped + k) = omega arith in ap (be16 bytes) place
value_behind bytes (Each Long at) skipped k =
    let place : at + 4 * skipped + 4 * k ≡ at + 4 * (skipped + k) = omega arith in ap (be16 bytes) place
value_behind bytes (Bytes at) skipped k =
    let place : at + skipped + k ≡ at + (skipped + k) = omega arith in ap (slice_index bytes) place

module _ (bytes : List ℕ) (units : Units) where
  abbrev high : ℕ → ℕ
  high i = be16 bytes (unit_place units i)

  ends_by :
      (unit : UnitKind) (kind : ValueKind) (start at : ℕ)
      → end_of (segment_at bytes unit kind start at)
      ≡ (segment_at bytes unit kind start at).first + (be16 bytes at + 1 - (segment_at bytes unit kind start at).first)
  ends_by SegmentSingle kind start at = refl
  ends_by SegmentArray kind start at = refl
  ends_by Single kind start at = omega arith

  ends : (i : ℕ) → behind bytes units i ≡ low bytes units i + (high i + 1 - low bytes units i)
  ends i = ends_by units.kind units.values units.start (unit_place units i)

  module _ (glyph : ℕ) (few : glyph < 65536) where
    -- a unit that is found has the glyph
    found_has_glyph :
        (i : ℕ) → unit_found bytes units glyph ≡ Some i
        → ((glyphs_found bytes units i).0 ≤ glyph) × (glyph < (glyphs_found bytes units i).1)
    found_has_glyph i is =
        has_key (low bytes units) (behind bytes units) (wide bytes units) high ends units.count 0 units.count 0 65536 glyph i
        (omega arith) few is

    -- just the unit that is found has the glyph
    has_alike :
        (i : ℕ) → i < units.count
        → has_glyph glyph (segment_of bytes units i) ≡ is_at (unit_found bytes units glyph) i
    has_alike i below =
        same_tests (has_glyph glyph (segment_of bytes units i)) (is_at (unit_found bytes units glyph) i)
        (λ has.
        let tests = both (nat_le (glyphs_found bytes units i).0 glyph) (nat_lt glyph (end_of (segment_of bytes units i))) has in
        let start = leb-true (glyphs_found bytes units i).0 glyph tests.0 in
        let stop = ltb-true glyph (end_of (segment_of bytes units i)) tests.1 in
        some_at (unit_found bytes units glyph) i
        (finds_key (low bytes units) (behind bytes units) (wide bytes units) high ends units.count 0 units.count 0 65536 glyph i
        (omega arith) (omega arith) below (omega arith) (start, omega (arith, stop, segment_ends bytes units i))))
        (λ is.
        let has = found_has_glyph i (at_some (unit_found bytes units glyph) i is) in
        and_from _ _ (le-leb (glyphs_found bytes units i).0 glyph has.0)
        (lt-ltb glyph (end_of (segment_of bytes units i)) (omega (arith, has.1, segment_ends bytes units i))))

    inside : (i : ℕ) → unit_found bytes units glyph ≡ Some i → i < units.count
    inside i is = (found_has (low bytes units) high units.count 0 units.count glyph i is).1

    segment_found :
        find (has_glyph glyph) (unit_segments bytes units)
        ≡ option_map (segment_of bytes units) (unit_found bytes units glyph)
    segment_found =
        find_mapped (has_glyph glyph) (segment_of bytes units) (range_with_len 0 units.count)
        ∙ ap (option_map (segment_of bytes units))
        (find_alike (λ i. has_glyph glyph (segment_of bytes units i)) (is_at (unit_found bytes units glyph)) 0 units.count
        (λ i from to. has_alike i (omega arith))
        ∙ found_place (unit_found bytes units glyph) units.count inside)

    -- its value in the segment is that in the unit
    abbrev answer : Segment → ℕ
    answer s = value_at bytes s.values (glyph - s.first)

    one_value : (i : ℕ) → unit_found bytes units glyph ≡ Some i → answer (segment_of bytes units i) ≡ value_in_unit bytes units glyph i
    one_value i is =
        let has = found_has_glyph i is in
        let own = glyphs_own bytes units i (inside i is) (omega (arith, has)) in
        let start : ℕ = (glyphs_found bytes units i).0 in
        let skipped : ℕ = min (start - low bytes units i) (unit_at bytes units i).count in
        let same : min ((glyphs_found bytes units i).0 - low bytes units i) (unit_at bytes units i).count + (glyph - (glyphs_found bytes units i).0)
        ≡ glyph - low bytes units i = omega (arith, has, own) in
        value_behind bytes (unit_at bytes units i).values skipped (glyph - start)
        ∙ ap (value_at bytes (unit_at bytes units i).values) same

    each_value :
        (o : Option ℕ) → unit_found bytes units glyph ≡ o
        → option_map answer (option_map (segment_of bytes units) o) ≡ option_map (value_in_unit bytes units glyph) o
    each_value None is = refl
    each_value (Some i) is = ap Some (one_value i is)

    pub units_answer :
        value_in (pairs_of bytes (Searched units)) glyph
        ≡ option_map (value_in_unit bytes units glyph) (unit_found bytes units glyph)
    units_answer =
        value_among bytes (unit_segments bytes units) glyph
        ∙ ap (option_map answer) segment_found
        ∙ each_value (unit_found bytes units glyph) refl

-- the law
pub values_are_those_found : ValuesAreThoseFound
values_are_those_found table bytes place glyph_count units pairs glyph few layout is =
    let read : after (layout_at table bytes place glyph_count Word) (λ l. Ok (pairs_of bytes l)) ≡ Ok (pairs_of bytes (Searched units)) =
    ap (λ (r : Result Layout Fault). after r (λ l. Ok (pairs_of bytes l))) layout in
    let same : pairs_of bytes (Searched units) ≡ pairs = ok_parts (pairs_of bytes (Searched units)) pairs (sym read ∙ is) in
    ap (λ ps. value_in ps glyph) (sym same) ∙ units_answer bytes units glyph few
