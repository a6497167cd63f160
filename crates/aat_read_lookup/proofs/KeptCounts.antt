-- How many segments a layout is kept as.
use Rattle.std.proofs.Common.{◌≡◌, ℕ, zero, suc, ◌+◌, ◌≤◌, Bool, true, false, List, [], ◌∷◌, ◌++◌, length, map, min, refl, sym, ap, ◌∙◌, arith, ◌==◌}
use Rattle.std.specs.Prelude.{if◌then◌else◌}
use Rattle.std.specs.List.{flat_map, range_with_len, sum_by}
use Rattle.std.proofs.lemmas.Bool.Decides.{nat_tests}
use Rattle.std.proofs.lemmas.List.{append-nil, length-append}
use Rattle.std.proofs.lemmas.List.FromFn.{length-map-range_with_len}
use Rattle.std.proofs.lemmas.List.Sums.{sum_by-cons}
use Rattle.aat_lookup.specs.declared.segments.LookupSegment.{LookupSegment}
use Rattle.aat_read_lookup.specs.Kept.{kept_count, kept_segments, kept_value, layout_segments, single_segment, whole_segment}
use Rattle.aat_read_lookup.specs.Layouts.{glyphs_found, has_offset, named_glyphs, segment_at, segment_of, unit_at, unit_place}
use Rattle.aat_read_lookup.specs.Segments.{is_shared, part_of}
use Rattle.aat_read_lookup.specs.declared.kept.Keep.{Keep}
use Rattle.aat_read_lookup.specs.declared.layout.Layout.TheVariants.{Array, Searched}
use Rattle.aat_read_lookup.specs.declared.segment.Segment.{Segment}
use Rattle.aat_read_lookup.specs.declared.segment.ValueKind.{ValueKind}
use Rattle.aat_read_lookup.specs.declared.units.UnitKind.{UnitKind}
use Rattle.aat_read_lookup.specs.declared.units.UnitKind.TheVariants.{SegmentSingle, SegmentArray, Single}
use Rattle.aat_read_lookup.specs.declared.units.Units.{Units}
use Rattle.aat_read_lookup.proofs.Appended.{list_more}
use Rattle.aat_read_lookup.proofs.SoundUnits.{part_few}

few_by : (count : ℕ) (shared : Bool) → (if shared then min count 1 else count) ≤ count
few_by count true = omega arith
few_by count false = omega arith

module _ (bytes : List ℕ) (keep : Keep) where
  one_count :
      (s : Segment) (none : Bool) → (s.count == 0) ≡ none
      → length (if none then [] else whole_segment bytes keep s ∷ []) ≡ min s.count 1
  one_count s true is = grind (arith, nat_tests)
  one_count s false is = grind (arith, nat_tests)

  count_by :
      (s : Segment) (shared : Bool)
      → length (if shared then (if s.count == 0 then [] else whole_segment bytes keep s ∷ []) else
      map (single_segment bytes keep s) (range_with_len 0 s.count))
      ≡ (if shared then min s.count 1 else s.count)
  count_by s true = one_count s (s.count == 0) refl
  count_by s false = length-map-range_with_len (single_segment bytes keep s) 0 s.count

  -- the segments of a segment
  pub segment_counted : (s : Segment) → length (kept_segments bytes keep s) ≡ kept_count s
  segment_counted s = count_by s (is_shared s.values)

  pub array_counted : (s : Segment) → length (layout_segments bytes keep (Array s)) ≡ kept_count s
  array_counted s = ap length (append-nil (kept_segments bytes keep s)) ∙ segment_counted s

  -- a segment is kept as no more segments than it has glyphs
  pub count_few : (s : Segment) → kept_count s ≤ s.count
  count_few s = few_by s.count (is_shared s.values)

  -- as one where its glyphs have one value
  one_of_unit :
      (unit : UnitKind) (kind : ValueKind) (start at : ℕ) (glyphs : ℕ × ℕ) → has_offset unit ≡ false
      → kept_count (part_of (segment_at bytes unit kind start at) glyphs) ≤ 1
  one_of_unit SegmentSingle kind start at glyphs one = omega arith
  one_of_unit SegmentArray kind start at glyphs one = cc
  one_of_unit Single kind start at glyphs one = omega arith

  module _ (units : Units) where
    -- one unit more
    pub kept_more :
        (i : ℕ)
        → length (flat_map (kept_segments bytes keep) (map (segment_of bytes units) (range_with_len 0 (i + 1))))
        ≡ length (flat_map (kept_segments bytes keep) (map (segment_of bytes units) (range_with_len 0 i)))
        + kept_count (segment_of bytes units i)
    kept_more i =
        let so_far : List LookupSegment = flat_map (kept_segments bytes keep) (map (segment_of bytes units) (range_with_len 0 i)) in
        let here : List LookupSegment = kept_segments bytes keep (segment_of bytes units i) in
        let more = list_more (kept_segments bytes keep) (segment_of bytes units) [] so_far (so_far ++ here) i (segment_of bytes units i) refl refl refl in
        ap length (sym more) ∙ length-append so_far here ∙ ap (λ n. length so_far + n) (segment_counted (segment_of bytes units i))

    many_few :
        (a n : ℕ) → a + n ≤ units.count
        → length (flat_map (kept_segments bytes keep) (map (segment_of bytes units) (range_with_len a n)))
        ≤ sum_by (λ unit. unit.count) (map (unit_at bytes units) (range_with_len a n))
    many_few a zero within = omega arith
    many_few a (suc n) within =
        let s : Segment = segment_of bytes units a in
        let rest : List Segment = map (segment_of bytes units) (range_with_len (a + 1) n) in
        let others : List Segment = map (unit_at bytes units) (range_with_len (a + 1) n) in
        let both = length-append (kept_segments bytes keep s) (flat_map (kept_segments bytes keep) rest) in
        let here = segment_counted s in
        let few = count_few s in
        let part = part_few bytes units a (omega arith) in
        let sum = sum_by-cons (λ (unit : Segment). unit.count) (unit_at bytes units a) others in
        let after = many_few (a + 1) n (omega arith) in
        omega (arith, both, here, few, part, sum, after)

    one_few :
        (a n : ℕ) → has_offset units.kind ≡ false
        → length (flat_map (kept_segments bytes keep) (map (segment_of bytes units) (range_with_len a n))) ≤ n
    one_few a zero one = omega arith
    one_few a (suc n) one =
        let s : Segment = segment_of bytes units a in
        let rest : List Segment = map (segment_of bytes units) (range_with_len (a + 1) n) in
        let both = length-append (kept_segments bytes keep s) (flat_map (kept_segments bytes keep) rest) in
        let here = segment_counted s in
        let single = one_of_unit units.kind units.values units.start (unit_place units a) (glyphs_found bytes units a) one in
        let after = one_few (a + 1) n one in
        omega (arith, both, here, single, after)

    -- at most a segment for each glyph of units of format 4
    pub glyphs_count : length (layout_segments bytes keep (Searched units)) ≤ named_glyphs bytes units
    glyphs_count = many_few 0 units.count (omega arith)

    -- at most a segment for each other unit
    pub units_count :
        has_offset units.kind ≡ false → length (layout_segments bytes keep (Searched units)) ≤ units.count
    units_count one = one_few 0 units.count one

  -- a segment that is made of a glyph and what is kept of its value
  pub single_made :
      (s : Segment) (k value : ℕ) (made : LookupSegment)
      → made ≡ record { first_glyph = s.first + k; last_glyph = s.first + k; value = value }
      → value ≡ kept_value bytes keep s.values k
      → made ≡ single_segment bytes keep s k
  single_made s k value made is same =
      let of_value : ℕ → LookupSegment = λ v. record { first_glyph = s.first + k; last_glyph = s.first + k; value = v } in
      is ∙ ap of_value same
