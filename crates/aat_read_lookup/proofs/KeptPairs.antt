-- The pairs of the segments that a layout is kept as are those of the layout, and rows are those of its values.
use Rattle.std.proofs.Common.{◌≡◌, ℕ, zero, suc, ◌+◌, ◌-◌, ◌/◌, Bool, true, false, List, [], ◌∷◌, ◌++◌, map, refl, sym, ap, ◌∙◌, subst, arith, add-zero, ◌==◌}
use Rattle.std.specs.List.{flat_map, range_with_len}
use Rattle.std.specs.Prelude.{if◌then◌else◌}
use Rattle.std.proofs.lemmas.Bool.Decides.{nat_tests}
use Rattle.std.proofs.lemmas.List.{append-nil, map-append}
use Rattle.std.proofs.lemmas.List.Concat.{flat_map-append}
use Rattle.aat_lookup.specs.Segments.{pairs_of_segment, pairs_of_segments}
use Rattle.aat_read_lookup.specs.Kept.{kept_pairs, kept_segments, kept_value, layout_segments, row_of, single_segment, whole_segment}
use Rattle.aat_read_lookup.specs.Layouts.{segments_of}
use Rattle.aat_read_lookup.specs.LongLookups.{in_long_row, long_pairs_of}
use Rattle.aat_read_lookup.specs.Lookups.{pairs_of}
use Rattle.aat_read_lookup.specs.Rows.{in_row}
use Rattle.aat_read_lookup.specs.Segments.{end_of, is_shared, long_value_at, pairs_by, value_at}
use Rattle.aat_read_lookup.specs.declared.kept.Keep.{Keep}
use Rattle.aat_read_lookup.specs.declared.kept.Keep.TheVariants.{Value, Row, LongRow}
use Rattle.aat_read_lookup.specs.declared.layout.Layout.{Layout}
use Rattle.aat_read_lookup.specs.declared.segment.Segment.{Segment}
use Rattle.aat_read_lookup.specs.declared.segment.ValueKind.{ValueKind}
use Rattle.aat_read_lookup.specs.declared.segment.Values.{Values}
use Rattle.aat_read_lookup.specs.declared.segment.Values.TheVariants.{Shared, Each, Bytes}
use Rattle.aat_read_lookup.proofs.Rises.{not_zero}

-- a number that is found to be 0
is_zero : (n : ℕ) → (n == 0) ≡ true → n ≡ 0
is_zero n same = grind (arith, nat_tests)

-- the pairs of a glyph that is a segment of its own
alone : (glyph value : ℕ) → pairs_of_segment (record { first_glyph = glyph; last_glyph = glyph; value = value }) ≡ (glyph, value) ∷ []
alone glyph value =
    let one : glyph + 1 - glyph ≡ 1 = omega arith in
    let pairs : ℕ → List (ℕ × ℕ) = λ n. map (λ k. (glyph + k, value)) (range_with_len 0 n) in
    let pair : ℕ → List (ℕ × ℕ) = λ g. (g, value) ∷ [] in
    ap pairs one ∙ ap pair (add-zero glyph)

-- what is kept of a value that all glyphs have
one_value :
    (bytes : List ℕ) (keep : Keep) (kind : ValueKind) (at start count : ℕ)
    → map {B = ℕ × ℕ} (λ k. (start + k, kept_value bytes keep (Shared kind at) 0)) (range_with_len 0 count)
    ≡ map {B = ℕ × ℕ} (λ k. (start + k, kept_value bytes keep (Shared kind at) k)) (range_with_len 0 count)
one_value bytes Value kind at start count = refl
one_value bytes (Row width) kind at start count = refl
one_value bytes (LongRow width) kind at start count = refl

module _ (bytes : List ℕ) (keep : Keep) where
  -- glyphs that are segments of their own
  singles_alike :
      (s : Segment) (a n : ℕ)
      → pairs_of_segments (map (single_segment bytes keep s) (range_with_len a n))
      ≡ map (λ k. (s.first + k, kept_value bytes keep s.values k)) (range_with_len a n)
  singles_alike s a zero = refl
  singles_alike s a (suc n) =
      let pair : ℕ × ℕ = (s.first + a, kept_value bytes keep s.values a) in
      ap (λ ps. ps ++ pairs_of_segments (map (single_segment bytes keep s) (range_with_len (a + 1) n)))
      (alone (s.first + a) (kept_value bytes keep s.values a))
      ∙ ap (λ ps. pair ∷ ps) (singles_alike s (a + 1) n)

  -- glyphs with one value
  whole_alike :
      (s : Segment) (kind : ValueKind) (at : ℕ) (none : Bool) → s.values ≡ Shared kind at → (s.count == 0) ≡ none
      → pairs_of_segments (if none then [] else whole_segment bytes keep s ∷ []) ≡ pairs_by (kept_value bytes keep) s
  whole_alike s kind at true shared is =
      let zero_is : 0 ≡ s.count = sym (is_zero s.count is) in
      let pairs : ℕ → List (ℕ × ℕ) = λ n. map (λ k. (s.first + k, kept_value bytes keep s.values k)) (range_with_len 0 n) in
      ap pairs zero_is
  whole_alike s kind at false shared is =
      let some = not_zero s.count is in
      let count : end_of s - 1 + 1 - s.first ≡ s.count = omega (arith, some) in
      let pairs : ℕ → List (ℕ × ℕ) = λ n. map (λ k. (s.first + k, kept_value bytes keep s.values 0)) (range_with_len 0 n) in
      let one : Values → List (ℕ × ℕ) = λ v. map (λ k. (s.first + k, kept_value bytes keep v 0)) (range_with_len 0 s.count) in
      let each : Values → List (ℕ × ℕ) = λ v. map (λ k. (s.first + k, kept_value bytes keep v k)) (range_with_len 0 s.count) in
      let same : one s.values ≡ each s.values =
      subst (λ (v : Values). one v ≡ each v) (sym shared) (one_value bytes keep kind at s.first s.count) in
      append-nil (pairs_of_segment (whole_segment bytes keep s)) ∙ ap pairs count ∙ same

  -- a segment
  one_kept :
      (s : Segment) (values : Values) → s.values ≡ values
      → pairs_of_segments
      (if is_shared values then (if s.count == 0 then [] else whole_segment bytes keep s ∷ []) else
      map (single_segment bytes keep s) (range_with_len 0 s.count))
      ≡ pairs_by (kept_value bytes keep) s
  one_kept s (Shared kind at) is = whole_alike s kind at (s.count == 0) is refl
  one_kept s (Each kind at) is = singles_alike s 0 s.count
  one_kept s (Bytes at) is = singles_alike s 0 s.count

  -- segments
  all_kept :
      (segments : List Segment)
      → pairs_of_segments (flat_map (kept_segments bytes keep) segments) ≡ flat_map (pairs_by (kept_value bytes keep)) segments
  all_kept [] = refl
  all_kept (s ∷ segments) =
      flat_map-append pairs_of_segment (kept_segments bytes keep s) (flat_map (kept_segments bytes keep) segments)
      ∙ ap (λ ps. ps ++ pairs_of_segments (flat_map (kept_segments bytes keep) segments)) (one_kept s s.values refl)
      ∙ ap (λ ps. pairs_by (kept_value bytes keep) s ++ ps) (all_kept segments)

  -- the pairs of a layout
  pub spread_pairs : (layout : Layout) → pairs_of_segments (layout_segments bytes keep layout) ≡ kept_pairs bytes keep layout
  spread_pairs layout = all_kept (segments_of bytes layout)

module _ (row : ℕ → ℕ) (value : Values → ℕ → ℕ) where
  -- pairs with the rows of their values
  rows_from :
      (s : Segment) (a n : ℕ)
      → map {B = ℕ × ℕ} (λ k. (s.first + k, row (value s.values k))) (range_with_len a n)
      ≡ map {B = ℕ × ℕ} (λ (p : ℕ × ℕ). (p.0, row p.1))
      (map {B = ℕ × ℕ} (λ k. (s.first + k, value s.values k)) (range_with_len a n))
  rows_from s a zero = refl
  rows_from s a (suc n) =
      let pair : ℕ × ℕ = (s.first + a, row (value s.values a)) in ap (λ ps. pair ∷ ps) (rows_from s (a + 1) n)

  rows_of :
      (segments : List Segment)
      → flat_map (pairs_by (λ values k. row (value values k))) segments
      ≡ map {B = ℕ × ℕ} (λ (p : ℕ × ℕ). (p.0, row p.1)) (flat_map (pairs_by value) segments)
  rows_of [] = refl
  rows_of (s ∷ segments) =
      ap (λ ps. ps ++ flat_map (pairs_by (λ values k. row (value values k))) segments) (rows_from s 0 s.count)
      ∙ ap (λ ps. map {B = ℕ × ℕ} (λ (p : ℕ × ℕ). (p.0, row p.1)) (pairs_by value s) ++ ps) (rows_of segments)
      ∙ sym (map-append {B = ℕ × ℕ} (λ (p : ℕ × ℕ). (p.0, row p.1)) (pairs_by value s) (flat_map (pairs_by value) segments))

-- rows of values of 16 bits
pub rows_are : (bytes : List ℕ) (width : ℕ) (layout : Layout) → kept_pairs bytes (Row width) layout ≡ map (in_row width) (pairs_of bytes layout)
rows_are bytes width layout = rows_of (λ v. v / width) (value_at bytes) (segments_of bytes layout)

-- rows of values of up to 32 bits
pub long_rows_are :
    (bytes : List ℕ) (width : ℕ) (layout : Layout)
    → kept_pairs bytes (LongRow width) layout ≡ map (in_long_row width) (long_pairs_of bytes layout)
long_rows_are bytes width layout = rows_of (row_of width) (long_value_at bytes) (segments_of bytes layout)
