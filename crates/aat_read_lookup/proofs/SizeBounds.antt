-- The laws of lookups that are read, and of their sizes.
use Rattle.std.proofs.Common.{◌≡◌, ℕ, ◌+◌, ◌-◌, ◌*◌, ◌/◌, ◌≤◌, List, [], ◌∷◌, length, Result, Ok, Err, None, Bool, true, false, min, refl, subst, arith}
use Rattle.std.specs.List.{flat_map}
use Rattle.std.specs.Prelude.{nat_lt, nat_le, nat_eq, if◌then◌else◌}
use Rattle.std.proofs.Math.Nat.{mul-le-mul_right}
use Rattle.std.proofs.lemmas.Bool.{le-leb, ltb-false}
use Rattle.aat_bytes.specs.Faults.{after}
use Rattle.aat_bytes.specs.declared.error.Fault.{Fault}
use Rattle.aat_bytes.specs.declared.tag.Tag.{Tag}
use Rattle.aat_lookup.specs.Keys.{first, first_fall}
use Rattle.aat_lookup.specs.GlyphSpans.{glyph_span}
use Rattle.aat_read_lookup.specs.Kept.{layout_segments}
use Rattle.aat_read_lookup.specs.Layouts.{has_offset, layout_at, named_glyphs, record_size, segments_of, unit_bytes}
use Rattle.aat_read_lookup.specs.LongLaws as long
use Rattle.aat_read_lookup.specs.LongLookups.{long_pairs_of}
use Rattle.aat_read_lookup.specs.LongSizes.{long_size_at}
use Rattle.aat_read_lookup.specs.Lookups.{pairs_of}
use Rattle.aat_read_lookup.specs.Segments.{is_shared, long_value_at, numbers_size, pairs_by, value_at}
use Rattle.aat_read_lookup.specs.SizeLaws.{ArraysAreCounted, BytesAreInside, LookupsAreBounded, PairsRise}
use Rattle.aat_read_lookup.specs.Sizes.{bytes_of, cells_beside, is_spread, layout_size, pairs_size}
use Rattle.aat_read_lookup.specs.declared.kept.Keep.{Keep}
use Rattle.aat_read_lookup.specs.declared.kept.Keep.TheVariants.{Value, LongRow}
use Rattle.aat_read_lookup.specs.declared.layout.Layout.{Layout}
use Rattle.aat_read_lookup.specs.declared.layout.Layout.TheVariants.{Array, Searched}
use Rattle.aat_read_lookup.specs.declared.segment.ValueKind.{ValueKind}
use Rattle.aat_read_lookup.specs.declared.segment.ValueKind.TheVariants.{Word, Long}
use Rattle.aat_read_lookup.specs.declared.segment.Values.{Values}
use Rattle.aat_read_lookup.specs.declared.units.UnitKind.{UnitKind}
use Rattle.aat_read_lookup.specs.declared.units.UnitKind.TheVariants.{SegmentSingle, SegmentArray, Single}
use Rattle.aat_read_lookup.specs.declared.units.Units.{Units}
use Rattle.aat_read_lookup.proofs.KeptCounts.{array_counted, glyphs_count, units_count}
use Rattle.aat_read_lookup.proofs.LayoutsRise.{unit_pairs_rise}
use Rattle.aat_read_lookup.proofs.ReadLayouts.{Holds, IsRead, at_most, layout_read, not_below, sized_by, taken}
use Rattle.aat_read_lookup.proofs.Rises.{pairs_rise}

-- pairs of a layout that is read rise
layout_rises :
    (table : Tag) (bytes : List ℕ) (place : ℕ) (kind : ValueKind) (value : Values → ℕ → ℕ) (layout : Layout)
    → IsRead table bytes place kind layout → first_fall first (flat_map (pairs_by value) (segments_of bytes layout)) ≡ None
layout_rises table bytes place kind value (Array segment) read = pairs_rise value 0 (segment ∷ []) (omega arith, tt)
layout_rises table bytes place kind value (Searched units) read = unit_pairs_rise bytes units value

pub read_pairs_rise : PairsRise
read_pairs_rise table bytes place glyph_count pairs is =
    taken (IsRead table bytes place Word) (λ ps. first_fall first ps ≡ None) (layout_at table bytes place glyph_count Word) (pairs_of bytes) pairs
    (layout_read table bytes place Word glyph_count) (layout_rises table bytes place Word (value_at bytes)) is

pub long_pairs_rise : long.PairsRise
long_pairs_rise table bytes place glyph_count pairs is =
    taken (IsRead table bytes place Long) (λ ps. first_fall first ps ≡ None) (layout_at table bytes place glyph_count Long) (long_pairs_of bytes) pairs
    (layout_read table bytes place Long glyph_count) (layout_rises table bytes place Long (long_value_at bytes)) is

-- a record has at least four bytes
wide_record : (unit : UnitKind) (kind : ValueKind) → 4 ≤ record_size unit kind
wide_record SegmentSingle kind = omega arith
wide_record SegmentArray kind = omega arith
wide_record Single Word = omega arith
wide_record Single Long = omega arith

-- the segments of an array are no more than its glyphs
array_few : (count : ℕ) (shared : Bool) → (if shared then min count 1 else count) ≤ count
array_few count true = omega arith
array_few count false = omega arith

module _ (bytes : List ℕ) (keep : Keep) where
  -- the segments of units, by whether they have offsets
  unit_segments_few :
      (units : Units) (b : Bool) → has_offset units.kind ≡ b
      → length (layout_segments bytes keep (Searched units)) ≤ unit_bytes bytes units
  unit_segments_few units true many =
      let count = glyphs_count bytes keep units in
      let of_bytes : unit_bytes bytes units
      ≡ record_size units.kind units.values * units.count + numbers_size units.values (named_glyphs bytes units) = rw many refl in
      let wide = sized_by units.values (named_glyphs bytes units) in
      omega (arith, count, of_bytes, wide)
  unit_segments_few units false one =
      let count = units_count bytes keep units one in
      let of_bytes : unit_bytes bytes units ≡ record_size units.kind units.values * units.count + 0 = rw one refl in
      let wide : 4 * units.count ≤ record_size units.kind units.values * units.count =
      mul-le-mul_right units.count (wide_record units.kind units.values) in
      omega (arith, count, of_bytes, wide)

  -- a layout that is read is kept as no more segments than it is read from bytes
  segments_few :
      (table : Tag) (place : ℕ) (kind : ValueKind) (layout : Layout)
      → IsRead table bytes place kind layout → length (layout_segments bytes keep layout) ≤ bytes_of bytes layout
  segments_few table place kind (Array segment) read =
      let count = array_counted bytes keep segment in
      let few = array_few segment.count (is_shared segment.values) in
      omega (arith, count, few, read.0)
  segments_few table place kind (Searched units) read = unit_segments_few units (has_offset units.kind) refl

-- the size of a layout that is read
layout_bounded :
    (table : Tag) (bytes : List ℕ) (place : ℕ) (layout : Layout)
    → IsRead table bytes place Word layout → layout_size bytes layout ≤ 7 * bytes_of bytes layout
layout_bounded table bytes place layout read =
    at_most (is_spread bytes layout) (6 * length (layout_segments bytes Value layout)) (pairs_size (pairs_of bytes layout)) (7 * bytes_of bytes layout)
    (λ spread. let few = segments_few bytes Value table place Word layout read in omega (arith, few))
    (λ close. not_below (7 * bytes_of bytes layout) (pairs_size (pairs_of bytes layout)) close)

both_read :
    (P : Layout → Type 0) (bytes : List ℕ) (times : ℕ) (size_of : Layout → ℕ) (read : Result Layout Fault) (count size : ℕ)
    → Holds P read
    → ((layout : Layout) → P layout → size_of layout ≤ times * bytes_of bytes layout)
    → after read (λ layout. Ok (bytes_of bytes layout)) ≡ Ok count
    → after read (λ layout. Ok (size_of layout)) ≡ Ok size
    → size ≤ times * count
both_read P bytes times size_of (Err fault) count size here each is sized = cc
both_read P bytes times size_of (Ok layout) count size here each is sized =
    let same : bytes_of bytes layout ≡ count = cc in
    let as_large : size_of layout ≡ size = cc in
    subst (λ (n : ℕ). size ≤ times * n) same
    (subst (λ (n : ℕ). n ≤ times * bytes_of bytes layout) as_large (each layout here))

pub lookups_are_bounded : LookupsAreBounded
lookups_are_bounded table bytes place glyph_count count size is sized =
    both_read (IsRead table bytes place Word) bytes 7 (layout_size bytes) (layout_at table bytes place glyph_count Word) count size
    (layout_read table bytes place Word glyph_count) (layout_bounded table bytes place) is sized

pub long_lookups_are_bounded : long.LookupsAreBounded
long_lookups_are_bounded table bytes place glyph_count width count size is sized =
    both_read (IsRead table bytes place Long) bytes 6 (λ layout. 6 * length (layout_segments bytes (LongRow width) layout))
    (layout_at table bytes place glyph_count Long) count size (layout_read table bytes place Long glyph_count)
    (λ layout read. let few = segments_few bytes (LongRow width) table place Long layout read in omega (arith, few)) is sized

layout_inside :
    (table : Tag) (bytes : List ℕ) (place : ℕ) (kind : ValueKind) (layout : Layout)
    → IsRead table bytes place kind layout → bytes_of bytes layout ≤ length bytes - place
layout_inside table bytes place kind (Array segment) read = read.1
layout_inside table bytes place kind (Searched units) read = read.1

pub bytes_are_inside : BytesAreInside
bytes_are_inside table bytes place glyph_count count is =
    taken (IsRead table bytes place Word) (λ n. n ≤ length bytes - place) (layout_at table bytes place glyph_count Word) (bytes_of bytes) count
    (layout_read table bytes place Word glyph_count) (layout_inside table bytes place Word) is

pub long_bytes_are_inside : long.BytesAreInside
long_bytes_are_inside table bytes place glyph_count count is =
    taken (IsRead table bytes place Long) (λ n. n ≤ length bytes - place) (layout_at table bytes place glyph_count Long) (bytes_of bytes) count
    (layout_read table bytes place Long glyph_count) (layout_inside table bytes place Long) is

-- rows take at most 6 bytes of memory for each byte from the place of their lookup on
pub rows_are_inside :
    (table : Tag) (bytes : List ℕ) (place glyph_count width size : ℕ)
    → long_size_at table bytes place glyph_count width ≡ Ok size → size ≤ 6 * (length bytes - place)
rows_are_inside table bytes place glyph_count width size is =
    taken (IsRead table bytes place Long) (λ n. n ≤ 6 * (length bytes - place)) (layout_at table bytes place glyph_count Long)
    (λ layout. 6 * length (layout_segments bytes (LongRow width) layout)) size (layout_read table bytes place Long glyph_count)
    (λ layout read.
    let few = segments_few bytes (LongRow width) table place Long layout read in
    let within = layout_inside table bytes place Long layout read in
    omega (arith, few, within)) is

-- the cells of an array are among those that are counted
array_within : (count span : ℕ) → (if nat_eq count 0 then 0 else if nat_lt count (span / 32) then 0 else span) ≤ cells_beside count span
array_within count span =
    at_most (nat_eq count 0) 0 _ _ (λ none. omega arith) (λ some.
    at_most (nat_lt count (span / 32)) 0 span _ (λ far. omega arith) (λ close.
    let near : nat_le (span / 32) count ≡ true = le-leb (span / 32) count (ltb-false count (span / 32) close) in
    rw (some, near) (omega arith)))

pub arrays_are_counted : ArraysAreCounted
arrays_are_counted pairs =
    let within = array_within (length pairs) (glyph_span first (0, 0) pairs) in
    omega (arith, within)
