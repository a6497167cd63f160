-- A lookup is read from no more bytes than its format and its numbers ask for.
use Rattle.std.proofs.Common.{◌≡◌, ℕ, zero, suc, ◌+◌, ◌-◌, ◌*◌, ◌<◌, ◌≤◌, ◌⊎◌, inl, inr, List, length, min, Bool, true, false, cond, Option, None, Some, Result, Ok, Err, refl, sym, ap, ◌∙◌, subst, arith}
use Rattle.std.specs.List.{range_with_len}
use Rattle.std.specs.Prelude.{nat_lt, nat_le, sum_by, unwrap_or, ◌==◌, if◌then◌else◌}
use Rattle.std.proofs.Math.Nat.{mul-le-mul_left}
use Rattle.std.proofs.lemmas.Bool.{ltb-false}
use Rattle.std.proofs.lemmas.Bool.Decides.{nat_tests}
use Rattle.std.proofs.lemmas.List.FromFn.{sum_by-map-range_with_len_more}
use Rattle.aat_bytes.specs.Faults.{after, fault_at}
use Rattle.aat_bytes.specs.Numbers.{be16, u16_at}
use Rattle.aat_bytes.specs.declared.error.Fault.{Fault}
use Rattle.aat_bytes.specs.declared.error.FaultKind.TheVariants.{UnknownFormat}
use Rattle.aat_bytes.specs.declared.tag.Tag.{Tag}
use Rattle.aat_bytes.specs.facts.Parts.{ok_parts, parts, passes}
use Rattle.aat_bytes.specs.facts.Ranges.{sum_more}
use Rattle.aat_read_lookup.specs.Layouts.{are_crowded, array_of, checked_units, named_glyphs, is_terminator, layout_at, record_size, searched_at, unit_at, sized_array_at, trimmed_array_at, unit_place, units_at, units_fault, unless_fault, without_terminator}
use Rattle.aat_read_lookup.specs.Segments.{values_end, values_size}
use Rattle.aat_read_lookup.specs.Sizes.{bytes_of, lookup_bytes_at, lookup_size_at}
use Rattle.aat_read_lookup.specs.declared.layout.Layout.{Layout}
use Rattle.aat_read_lookup.specs.declared.layout.Layout.TheVariants.{Array, Searched}
use Rattle.aat_read_lookup.specs.declared.segment.Segment.{Segment}
use Rattle.aat_read_lookup.specs.declared.segment.Values.{Values}
use Rattle.aat_read_lookup.specs.declared.segment.ValueKind.TheVariants.{Word, Long}
use Rattle.aat_read_lookup.specs.declared.segment.Values.TheVariants.{Shared, Each, Bytes}
use Rattle.aat_read_lookup.specs.declared.units.UnitKind.{UnitKind}
use Rattle.aat_read_lookup.specs.declared.units.UnitKind.TheVariants.{SegmentSingle, SegmentArray, Single}
use Rattle.aat_read_lookup.specs.declared.units.Units.{Units}

-- the number of 16 bits at a place, and 0 where it is not there
abbrev pub number_at : List ℕ → ℕ → ℕ
number_at bytes place = unwrap_or (u16_at bytes place) 0

-- how many bytes a unit of format 4 asks for
abbrev pub unit_extent : List ℕ → ℕ → ℕ
unit_extent bytes place = 6 + 2 * (number_at bytes place + 1 - number_at bytes (place + 2))

-- how many bytes a lookup asks for
abbrev pub extent : List ℕ → ℕ → ℕ → ℕ
extent bytes place glyph_count =
    let format = number_at bytes place in
    let count = number_at bytes (place + 4) in
    if format == 0 then 2 + 2 * glyph_count else
    if format == 2 then 12 + 6 * count else
    if format == 4 then
    12 + sum_by (λ i. unit_extent bytes (place + 12 + number_at bytes (place + 2) * i)) (range_with_len 0 count) else
    if format == 6 then 12 + 4 * count else
    if format == 8 then 6 + 2 * count else
    8 + number_at bytes (place + 2) * number_at bytes (place + 6)

-- a number that stands inside
inside_test : (a b : ℕ) → a ≤ b → nat_le a b ≡ true
inside_test a b le = grind (arith, nat_tests)

pub number_is : (bytes : List ℕ) (place : ℕ) → place + 2 ≤ length bytes → number_at bytes place ≡ be16 bytes place
unfolding u16_at
number_is bytes place inside =
    ap (λ (b : Bool). unwrap_or (cond b (Some (be16 bytes place)) None) 0) (inside_test (place + 2) (length bytes) inside)

-- one of two lookups is read from no more than one of two numbers
chosen : (bytes : List ℕ) (b : Bool) (r s : Result Layout Fault) (x y : ℕ) (layout : Layout)
    → (r ≡ Ok layout → bytes_of bytes layout ≤ x) → (s ≡ Ok layout → bytes_of bytes layout ≤ y)
    → cond b r s ≡ Ok layout → bytes_of bytes layout ≤ cond b x y
chosen bytes true r s x y layout one other is = one is
chosen bytes false r s x y layout one other is = other is

-- a value that has no fault
unless_ok : {X : Type 0} (fault : Option Fault) (x y : X) → unless_fault fault x ≡ Ok y → x ≡ y
unless_ok None x y is = ok_parts x y is
unless_ok (Some fault) x y is = cc

-- one of two ways
one_of : {X : Type 0} (b : Bool) (r s : Result X Fault) (x : X)
    → cond b r s ≡ Ok x → ((b ≡ true) × (r ≡ Ok x)) ⊎ ((b ≡ false) × (s ≡ Ok x))
one_of true r s x is = inl (refl, is)
one_of false r s x is = inr (refl, is)

no_zero : (n : ℕ) → n ≡ 0 → (n == 0) ≡ false → ⊥
no_zero n zero_is other = grind (arith, nat_tests)

same_number : (a b : ℕ) → (a == b) ≡ true → a ≡ b
same_number a b same = grind (arith, nat_tests)

module _ (table : Tag) (bytes : List ℕ) where
  -- fewer values are no more bytes
  fewer : (values : Values) (count n : ℕ) → values_size values (min count n) ≤ 2 + values_size values count
  fewer (Shared kind at) count n = omega arith
  fewer (Each Word at) count n = omega arith
  fewer (Each Long at) count n = omega arith
  fewer (Bytes at) count n = omega arith

  array_bytes : (segment : Segment) (layout : Layout) → array_of table bytes segment ≡ Ok layout
      → bytes_of bytes layout ≤ 2 + values_size segment.values segment.count
  unfolding array_of
  array_bytes segment layout is =
      let inside = passes (nat_lt (length bytes) (values_end segment)) _ _ layout is in
      let shorter : Segment = record segment { count = min segment.count (65536 - segment.first) } in
      let same : Array shorter ≡ layout = ok_parts (Array shorter) layout inside.1 in
      subst (λ (l : Layout). bytes_of bytes l ≤ 2 + values_size segment.values segment.count) same
      (fewer segment.values segment.count (65536 - segment.first))

  -- units without their terminator are units of another count that is no greater
  cut_by : (u : Units) (b d : Bool)
      → (c : ℕ) × (c ≤ u.count) × (cond b u (cond d (record u { count = u.count - 1 }) u) ≡ record u { count = c })
  cut_by u true d = (u.count, omega arith, refl)
  cut_by u false true = (u.count - 1, omega arith, refl)
  cut_by u false false = (u.count, omega arith, refl)

  -- units that are read
  record Read (place : ℕ) (kind : UnitKind) (units : Units) : Type 0 where
    count : ℕ
    is : units ≡ record { kind = kind; values = Word; start = place; size = be16 bytes (place + 2); count = count }
    few : count ≤ be16 bytes (place + 4)
    header : place + 12 ≤ length bytes
    inside : place + 12 + be16 bytes (place + 2) * be16 bytes (place + 4) ≤ length bytes
    wide : record_size kind Word ≤ be16 bytes (place + 2)

  units_read : (place : ℕ) (kind : UnitKind) (units : Units) → units_at table bytes place kind Word ≡ Ok units → Read place kind units
  unfolding units_at
  units_read place kind units is =
      let size = be16 bytes (place + 2) in
      let count = be16 bytes (place + 4) in
      let header = passes (nat_lt (length bytes) (place + 12)) _ _ units is in
      let wide = passes (nat_lt size (record_size kind Word)) _ _ units header.1 in
      let inside = passes (nat_lt (length bytes) (place + 12 + size * count)) _ _ units wide.1 in
      let raw : Units = record { kind = kind; values = Word; start = place; size = size; count = count } in
      let cut = cut_by raw (raw.count == 0) (is_terminator bytes raw.kind (unit_place raw (raw.count - 1))) in
      let same : without_terminator bytes raw ≡ units = ok_parts (without_terminator bytes raw) units inside.1 in
      record {
        count = cut.0;
        is = sym same ∙ cut.2;
        few = cut.1;
        header = ltb-false (length bytes) (place + 12) header.0;
        inside = ltb-false (length bytes) (place + 12 + size * count) inside.0;
        wide = ltb-false size (record_size kind Word) wide.0;
      }

  searched_read : (place : ℕ) (kind : UnitKind) (layout : Layout) → searched_at table bytes place kind Word ≡ Ok layout
      → (units : Units) × (Searched units ≡ layout) × Read place kind units
  unfolding searched_at checked_units
  searched_read place kind layout is =
      let checked = parts (checked_units table bytes place kind Word) _ layout is in
      let read = parts (units_at table bytes place kind Word) _ checked.0 checked.1 in
      let same = unless_ok (units_fault table bytes read.0) read.0 checked.0 read.2 in
      let roomy = passes (are_crowded bytes checked.0) _ _ layout checked.2 in (
        checked.0,
        ok_parts (Searched checked.0) layout roomy.1,
        subst (Read place kind) same (units_read place kind read.0 read.1),
      )

  single_bytes : (place : ℕ) (layout : Layout) → searched_at table bytes place SegmentSingle Word ≡ Ok layout
      → bytes_of bytes layout ≤ 12 + 6 * be16 bytes (place + 4)
  single_bytes place layout is =
      let read = searched_read place SegmentSingle layout is in
      let whole = ap (λ (u : Units). Searched u) (read.2.is) in
      let few = read.2.few in
      subst (λ (l : Layout). bytes_of bytes l ≤ 12 + 6 * be16 bytes (place + 4)) (sym whole ∙ read.1) (omega (arith, few))

  glyph_bytes : (place : ℕ) (layout : Layout) → searched_at table bytes place Single Word ≡ Ok layout
      → bytes_of bytes layout ≤ 12 + 4 * be16 bytes (place + 4)
  glyph_bytes place layout is =
      let read = searched_read place Single layout is in
      let whole = ap (λ (u : Units). Searched u) (read.2.is) in
      let few = read.2.few in
      subst (λ (l : Layout). bytes_of bytes l ≤ 12 + 4 * be16 bytes (place + 4)) (sym whole ∙ read.1) (omega (arith, few))

  -- units of format 4 are read from no more than they ask for
  module _ (place size count : ℕ) (wide : 6 ≤ size) (inside : place + 12 + size * count ≤ length bytes) where
    abbrev units : ℕ → Units
    units c = record { kind = SegmentArray; values = Word; start = place; size = size; count = c }

    unit_bytes : (i : ℕ) → i < count
        → 6 + 2 * (unit_at bytes (units count) i).count ≡ unit_extent bytes (place + 12 + size * i)
    unit_bytes i below =
        let at = place + 12 + size * i in
        let more : size * (i + 1) ≤ size * count = mul-le-mul_left size (omega arith) in
        let step : size * (i + 1) ≡ size * i + size = omega arith in
        let last = number_is bytes at (omega (arith, more, step)) in
        let first = number_is bytes (at + 2) (omega (arith, more, step)) in
        let glyphs : (unit_at bytes (units count) i).count ≡ be16 bytes at + 1 - be16 bytes (at + 2) = refl in
        omega (arith, glyphs, last, first)

    units_bytes : (c : ℕ) → c ≤ count
        → 6 * c + 2 * named_glyphs bytes (units c)
        ≡ sum_by (λ i. unit_extent bytes (place + 12 + size * i)) (range_with_len 0 c)
    units_bytes zero few = omega arith
    units_bytes (suc c) few =
        let same : c + 1 ≡ suc c = omega arith in
        let before = units_bytes c (omega arith) in
        let here = unit_bytes c (omega arith) in
        let glyphs : named_glyphs bytes (units (c + 1)) ≡ named_glyphs bytes (units c) + (unit_at bytes (units count) c).count =
        sum_by-map-range_with_len_more (λ (s : Segment). s.count) (unit_at bytes (units count)) 0 c c (omega arith) in
        let extents = sum_more (λ i. unit_extent bytes (place + 12 + size * i)) c in
        subst (λ (n : ℕ). 6 * n + 2 * named_glyphs bytes (units n)
        ≡ sum_by (λ i. unit_extent bytes (place + 12 + size * i)) (range_with_len 0 n)) same
        (omega (arith, before, here, glyphs, extents))

    fewer_units : (c more : ℕ)
        → sum_by (λ i. unit_extent bytes (place + 12 + size * i)) (range_with_len 0 c)
        ≤ sum_by (λ i. unit_extent bytes (place + 12 + size * i)) (range_with_len 0 (c + more))
    fewer_units c zero = let same : c ≡ c + 0 = omega arith in
        subst (λ (n : ℕ). sum_by (λ i. unit_extent bytes (place + 12 + size * i)) (range_with_len 0 c)
        ≤ sum_by (λ i. unit_extent bytes (place + 12 + size * i)) (range_with_len 0 n)) same (omega arith)
    fewer_units c (suc more) =
        let same : c + more + 1 ≡ c + suc more = omega arith in
        let before = fewer_units c more in
        let extents = sum_more (λ i. unit_extent bytes (place + 12 + size * i)) (c + more) in
        subst (λ (n : ℕ). sum_by (λ i. unit_extent bytes (place + 12 + size * i)) (range_with_len 0 c)
        ≤ sum_by (λ i. unit_extent bytes (place + 12 + size * i)) (range_with_len 0 n)) same
        (omega (arith, before, extents))

    array_units : (c : ℕ) → c ≤ count
        → 6 * c + 2 * named_glyphs bytes (units c)
        ≤ sum_by (λ i. unit_extent bytes (place + 12 + size * i)) (range_with_len 0 count)
    array_units c few =
        let all : c + (count - c) ≡ count = omega arith in
        let fewer = fewer_units c (count - c) in
        let whole = subst (λ (n : ℕ). sum_by (λ i. unit_extent bytes (place + 12 + size * i)) (range_with_len 0 c)
        ≤ sum_by (λ i. unit_extent bytes (place + 12 + size * i)) (range_with_len 0 n)) all fewer in
        let read = units_bytes c few in
        omega (arith, read, whole)

  values_bytes : (place : ℕ) (layout : Layout) → searched_at table bytes place SegmentArray Word ≡ Ok layout
      → bytes_of bytes layout
      ≤ 12 + sum_by (λ i. unit_extent bytes (place + 12 + be16 bytes (place + 2) * i)) (range_with_len 0 (be16 bytes (place + 4)))
  values_bytes place layout is =
      let read = searched_read place SegmentArray layout is in
      let facts = read.2 in
      let size = be16 bytes (place + 2) in
      let count = be16 bytes (place + 4) in
      let whole = ap (λ (u : Units). Searched u) facts.is in
      let within = array_units place size count facts.wide facts.inside facts.count facts.few in
      let all = sum_by (λ i. unit_extent bytes (place + 12 + size * i)) (range_with_len 0 count) in
      subst (λ (l : Layout). bytes_of bytes l ≤ 12 + all) (sym whole ∙ read.1) (omega (arith, within))

  trimmed_bytes : (place : ℕ) (layout : Layout) → trimmed_array_at table bytes place Word ≡ Ok layout
      → bytes_of bytes layout ≤ 6 + 2 * be16 bytes (place + 4)
  unfolding trimmed_array_at
  trimmed_bytes place layout is =
      let header = passes (nat_lt (length bytes) (place + 6)) _ _ layout is in
      let segment : Segment = record { first = be16 bytes (place + 2); count = be16 bytes (place + 4); values = Each Word (place + 6) } in
      let read = array_bytes segment layout header.1 in
      omega (arith, read)

  sized_bytes : (place : ℕ) (layout : Layout) → sized_array_at table bytes place Word ≡ Ok layout
      → (place + 8 ≤ length bytes) × (bytes_of bytes layout ≤ 2 + be16 bytes (place + 2) * be16 bytes (place + 6))
  unfolding sized_array_at
  sized_bytes place layout is =
      let size = be16 bytes (place + 2) in
      let first = be16 bytes (place + 4) in
      let count = be16 bytes (place + 6) in
      let header = passes (nat_lt (length bytes) (place + 8)) _ _ layout is in (
        ltb-false (length bytes) (place + 8) header.0,
        elim (one_of (size == 1) _ _ layout header.1) [
          | inl one ↦
              let read = array_bytes (record { first = first; count = count; values = Bytes (place + 8) }) layout one.1 in
              let is_one : size ≡ 1 = same_number size 1 one.0 in
              let product : size * count ≡ 1 * count = ap (λ k. k * count) is_one in
              omega (arith, read, product)
          | inr other ↦ elim (one_of (size == 2) _ _ layout other.1) [
            | inl two ↦
                let read = array_bytes (record { first = first; count = count; values = Each Word (place + 8) }) layout two.1 in
                let is_two : size ≡ 2 = same_number size 2 two.0 in
                let product : size * count ≡ 2 * count = ap (λ k. k * count) is_two in
                omega (arith, read, product)
            | inr none ↦ absurd (cc)
          ]
        ],
      )

  -- in the numbers of what is asked for
  single_asked : (place : ℕ) (layout : Layout) → searched_at table bytes place SegmentSingle Word ≡ Ok layout
      → bytes_of bytes layout ≤ 12 + 6 * number_at bytes (place + 4)
  single_asked place layout is =
      let read = single_bytes place layout is in
      let header = (searched_read place SegmentSingle layout is).2.header in
      let count = number_is bytes (place + 4) (omega (arith, header)) in
      omega (arith, read, count)

  glyph_asked : (place : ℕ) (layout : Layout) → searched_at table bytes place Single Word ≡ Ok layout
      → bytes_of bytes layout ≤ 12 + 4 * number_at bytes (place + 4)
  glyph_asked place layout is =
      let read = glyph_bytes place layout is in
      let header = (searched_read place Single layout is).2.header in
      let count = number_is bytes (place + 4) (omega (arith, header)) in
      omega (arith, read, count)

  values_asked : (place : ℕ) (layout : Layout) → searched_at table bytes place SegmentArray Word ≡ Ok layout
      → bytes_of bytes layout
      ≤ 12 + sum_by (λ i. unit_extent bytes (place + 12 + number_at bytes (place + 2) * i)) (range_with_len 0 (number_at bytes (place + 4)))
  values_asked place layout is =
      let read = values_bytes place layout is in
      let header = (searched_read place SegmentArray layout is).2.header in
      let size = number_is bytes (place + 2) (omega (arith, header)) in
      let count = number_is bytes (place + 4) (omega (arith, header)) in
      subst (λ (k : ℕ). bytes_of bytes layout
      ≤ 12 + sum_by (λ i. unit_extent bytes (place + 12 + k * i)) (range_with_len 0 (number_at bytes (place + 4)))) (sym size)
      (subst (λ (n : ℕ). bytes_of bytes layout
      ≤ 12 + sum_by (λ i. unit_extent bytes (place + 12 + be16 bytes (place + 2) * i)) (range_with_len 0 n)) (sym count) read)

  trimmed_asked : (place : ℕ) (layout : Layout) → trimmed_array_at table bytes place Word ≡ Ok layout
      → bytes_of bytes layout ≤ 6 + 2 * number_at bytes (place + 4)
  unfolding trimmed_array_at
  trimmed_asked place layout is =
      let read = trimmed_bytes place layout is in
      let header = passes (nat_lt (length bytes) (place + 6)) _ _ layout is in
      let there = ltb-false (length bytes) (place + 6) header.0 in
      let count = number_is bytes (place + 4) (omega (arith, there)) in
      omega (arith, read, count)

  sized_asked : (place : ℕ) (layout : Layout) (format : ℕ)
      → cond (format == 10) (sized_array_at table bytes place Word) (Err (fault_at table UnknownFormat place)) ≡ Ok layout
      → bytes_of bytes layout ≤ 8 + number_at bytes (place + 2) * number_at bytes (place + 6)
  sized_asked place layout format is = elim (one_of (format == 10) _ _ layout is) [
    | inl ten ↦
        let read = sized_bytes place layout ten.1 in
        let there = read.0 in
        let few = read.1 in
        let size = number_is bytes (place + 2) (omega (arith, there)) in
        let count = number_is bytes (place + 6) (omega (arith, there)) in
        let product : number_at bytes (place + 2) * number_at bytes (place + 6) ≡ be16 bytes (place + 2) * be16 bytes (place + 6) =
        ap (λ k. k * number_at bytes (place + 6)) size ∙ ap (λ k. be16 bytes (place + 2) * k) count in
        omega (arith, few, product)
    | inr none ↦ absurd (cc)
  ]

  -- a layout is read from no more than it asks for
  layout_bytes : (place glyph_count : ℕ) (layout : Layout) → layout_at table bytes place glyph_count Word ≡ Ok layout
      → bytes_of bytes layout ≤ extent bytes place glyph_count
  unfolding layout_at
  layout_bytes place glyph_count layout is =
      let format = be16 bytes place in
      let header = passes (nat_lt (length bytes) (place + 2)) _ _ layout is in
      let there = number_is bytes place (ltb-false (length bytes) (place + 2) header.0) in
      let count = number_at bytes (place + 4) in
      let units = sum_by (λ i. unit_extent bytes (place + 12 + number_at bytes (place + 2) * i)) (range_with_len 0 count) in
      let sized = number_at bytes (place + 2) * number_at bytes (place + 6) in
      let by_format : bytes_of bytes layout
      ≤ cond (format == 0) (2 + 2 * glyph_count)
      (cond (format == 2) (12 + 6 * count)
      (cond (format == 4) (12 + units)
      (cond (format == 6) (12 + 4 * count)
      (cond (format == 8) (6 + 2 * count) (8 + sized))))) =
      chosen bytes (format == 0) _ _ _ _ layout
      (λ read. array_bytes (record { first = 0; count = glyph_count; values = Each Word (place + 2) }) layout read)
      (chosen bytes (format == 2) _ _ _ _ layout (λ read. single_asked place layout read)
      (chosen bytes (format == 4) _ _ _ _ layout (λ read. values_asked place layout read)
      (chosen bytes (format == 6) _ _ _ _ layout (λ read. glyph_asked place layout read)
      (chosen bytes (format == 8) _ _ _ _ layout (λ read. trimmed_asked place layout read)
      (λ rest. sized_asked place layout format rest)))))
      header.1
      in
      subst (λ (n : ℕ). bytes_of bytes layout
      ≤ cond (n == 0) (2 + 2 * glyph_count)
      (cond (n == 2) (12 + 6 * count)
      (cond (n == 4) (12 + units)
      (cond (n == 6) (12 + 4 * count)
      (cond (n == 8) (6 + 2 * count) (8 + sized)))))) (sym there) by_format

-- a lookup is read from no more bytes than it asks for
pub bytes_within : (table : Tag) (bytes : List ℕ) (place glyph_count n : ℕ)
    → lookup_bytes_at table bytes place glyph_count ≡ Ok n → n ≤ extent bytes place glyph_count
bytes_within table bytes place glyph_count n is =
    let layout = parts (layout_at table bytes place glyph_count Word) _ n is in
    let same : bytes_of bytes layout.0 ≡ n = ok_parts (bytes_of bytes layout.0) n layout.2 in
    let within = layout_bytes table bytes place glyph_count layout.0 layout.1 in
    omega (arith, same, within)

-- a lookup that has a size is read from some bytes
pub sizes_have_bytes : (table : Tag) (bytes : List ℕ) (place glyph_count size : ℕ)
    → lookup_size_at table bytes place glyph_count ≡ Ok size
    → (n : ℕ) × (lookup_bytes_at table bytes place glyph_count ≡ Ok n)
sizes_have_bytes table bytes place glyph_count size is =
    let layout = parts (layout_at table bytes place glyph_count Word) _ size is in
    let read : lookup_bytes_at table bytes place glyph_count ≡ Ok (bytes_of bytes layout.0) =
    ap (λ (r : Result Layout Fault). after r (λ l. Ok (bytes_of bytes l))) layout.1
    in
    (bytes_of bytes layout.0, read)

-- a lookup of format 0 is read from bytes behind its format
first_array : (table : Tag) (bytes : List ℕ) (place glyph_count : ℕ) (layout : Layout) → be16 bytes place ≡ 0
    → layout_at table bytes place glyph_count Word ≡ Ok layout → bytes_of bytes layout ≤ length bytes - place - 2
unfolding layout_at array_of
first_array table bytes place glyph_count layout format is =
    let segment : Segment = record { first = 0; count = glyph_count; values = Each Word (place + 2) } in
    let header = passes (nat_lt (length bytes) (place + 2)) _ _ layout is in
    elim (one_of (be16 bytes place == 0) _ _ layout header.1) [
      | inl zero_format ↦
          let inside = passes (nat_lt (length bytes) (values_end segment)) _ _ layout zero_format.1 in
          let within = ltb-false (length bytes) (values_end segment) inside.0 in
          let shorter : Segment = record segment { count = min segment.count (65536 - segment.first) } in
          let same : Array shorter ≡ layout = ok_parts (Array shorter) layout inside.1 in
          subst (λ (l : Layout). bytes_of bytes l ≤ length bytes - place - 2) same (omega (arith, within))
      | inr other ↦ absurd (no_zero (be16 bytes place) format other.0)
    ]

pub array_within : (table : Tag) (bytes : List ℕ) (place glyph_count n : ℕ) → be16 bytes place ≡ 0
    → lookup_bytes_at table bytes place glyph_count ≡ Ok n → n ≤ length bytes - place - 2
array_within table bytes place glyph_count n format is =
    let layout = parts (layout_at table bytes place glyph_count Word) _ n is in
    let same : bytes_of bytes layout.0 ≡ n = ok_parts (bytes_of bytes layout.0) n layout.2 in
    let within = first_array table bytes place glyph_count layout.0 format layout.1 in
    omega (arith, same, within)
