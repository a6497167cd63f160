-- The glyphs from the first to the last of the pairs of segments, and their number.
use Rattle.std.proofs.Common.{◌≡◌, ℕ, zero, suc, ◌+◌, ◌-◌, ◌*◌, ◌<◌, ◌≤◌, ◌⊎◌, inl, inr, Bool, true, false, List, [], ◌∷◌, ◌++◌, length, get_or, map, refl, sym, ap, ◌∙◌, subst, arith, add-zero, zero-add}
use Rattle.std.specs.Prelude.{◌==◌, if◌then◌else◌}
use Rattle.std.specs.List.{flat_map, range_with_len, sum_by}
use Rattle.std.proofs.lemmas.Bool.{eq-eqb, eqb-true, ne_eqb}
use Rattle.std.proofs.lemmas.List.{append-nil, get_or-append-add, length-append}
use Rattle.std.proofs.lemmas.List.Sums.{sum_by-cons}
use Rattle.std.proofs.lemmas.List.FromFn.{get_or-map-range_with_len, length-map-range_with_len}
use Rattle.aat_lookup.specs.Keys.{first}
use Rattle.aat_lookup.specs.GlyphSpans.{glyph_span}
use Rattle.aat_read_lookup.specs.Layouts.{glyphs_of, segment_of, unit_segments}
use Rattle.aat_read_lookup.specs.Lookups.{pairs_of}
use Rattle.aat_read_lookup.specs.Segments.{end_of, segment_pairs, value_at}
use Rattle.aat_read_lookup.specs.Sizes.{cells_beside, pairs_size}
use Rattle.aat_read_lookup.specs.declared.layout.Layout.TheVariants.{Searched}
use Rattle.aat_read_lookup.specs.declared.segment.Segment.{Segment}
use Rattle.aat_read_lookup.specs.declared.units.Units.{Units}
use Rattle.aat_read_lookup.specs.inside.Ends.{ends_with}
use Rattle.aat_read_lookup.proofs.Appended.{list_more}
use Rattle.aat_read_lookup.proofs.Rises.{not_zero}

-- so many pairs from a glyph on
numbered : ℕ → (ℕ → ℕ) → ℕ → List (ℕ × ℕ)
numbered start value n = map (λ k. (start + k, value k)) (range_with_len 0 n)

first_of : (start : ℕ) (value : ℕ → ℕ) (n : ℕ) (rest : List (ℕ × ℕ)) → (get_or (numbered start value (suc n) ++ rest) 0 (0, 0)).0 ≡ start
unfolding numbered
first_of start value n rest = add-zero start

last_of :
    (start : ℕ) (value : ℕ → ℕ) (n : ℕ) (before : List (ℕ × ℕ))
    → (get_or (before ++ numbered start value (suc n)) (length (before ++ numbered start value (suc n)) - 1) (0, 0)).0 ≡ start + n
unfolding numbered
last_of start value n before =
    let pair : ℕ → ℕ × ℕ = λ k. (start + k, value k) in
    let xs : List (ℕ × ℕ) = map pair (range_with_len 0 (suc n)) in
    let long : length xs ≡ suc n = length-map-range_with_len pair 0 (suc n) in
    let all : length (before ++ xs) ≡ length before + length xs = length-append before xs in
    let at : length (before ++ xs) - 1 ≡ length before + n = omega (arith, all, long) in
    ap (λ i. (get_or (before ++ xs) i (0, 0)).0) at
    ∙ ap (λ (p : ℕ × ℕ). p.0) (get_or-append-add before xs n (0, 0))
    ∙ ap (λ (p : ℕ × ℕ). p.0) (get_or-map-range_with_len pair 0 (suc n) n n (0, 0) (omega arith) (zero-add n))

-- the number of pairs of a segment
pairs_long : (bytes : List ℕ) (s : Segment) → length (segment_pairs bytes s) ≡ s.count
pairs_long bytes s = length-map-range_with_len (λ k. (s.first + k, value_at bytes s.values k)) 0 s.count

-- the same of a segment that has a glyph
first_in : (bytes : List ℕ) (s : Segment) (rest : List (ℕ × ℕ)) → 0 < s.count → (get_or (segment_pairs bytes s ++ rest) 0 (0, 0)).0 ≡ s.first
unfolding numbered
first_in bytes s rest some =
    let more : suc (s.count - 1) ≡ s.count = omega (arith, some) in
    let value : ℕ → ℕ = value_at bytes s.values in
    subst (λ (n : ℕ). (get_or (numbered s.first value n ++ rest) 0 (0, 0)).0 ≡ s.first) more (first_of s.first value (s.count - 1) rest)

last_in :
    (bytes : List ℕ) (s : Segment) (before : List (ℕ × ℕ)) → 0 < s.count
    → (get_or (before ++ segment_pairs bytes s) (length (before ++ segment_pairs bytes s) - 1) (0, 0)).0 ≡ s.first + (s.count - 1)
unfolding numbered
last_in bytes s before some =
    let more : suc (s.count - 1) ≡ s.count = omega (arith, some) in
    let value : ℕ → ℕ = value_at bytes s.values in
    subst (λ (n : ℕ). (get_or (before ++ numbered s.first value n) (length (before ++ numbered s.first value n) - 1) (0, 0)).0 ≡ s.first + (s.count - 1)) more (last_of s.first value (s.count - 1) before)

-- the glyphs from the first to the last of pairs
span_of :
    (ps : List (ℕ × ℕ)) (low high : ℕ)
    → (get_or ps 0 (0, 0)).0 ≡ low → (get_or ps (length ps - 1) (0, 0)).0 ≡ high
    → glyph_span first (0, 0) ps ≡ high - low + 1
span_of ps low high lowest highest = rw (lowest, highest) refl

-- the size of so many pairs from a glyph on
numbered_size : (start : ℕ) (value : ℕ → ℕ) (n : ℕ) → pairs_size (numbered start value n) ≡ 4 * n + 4 * cells_beside n n
unfolding numbered
numbered_size start value zero = refl
numbered_size start value (suc n) =
    let pair : ℕ → ℕ × ℕ = λ k. (start + k, value k) in
    let ps : List (ℕ × ℕ) = numbered start value (suc n) in
    let long : length ps ≡ suc n = length-map-range_with_len pair 0 (suc n) in
    let lowest : (get_or ps 0 (0, 0)).0 ≡ start = add-zero start in
    let whole : start + n - start + 1 ≡ suc n = omega arith in
    let span : glyph_span first (0, 0) ps ≡ suc n = span_of ps start (start + n) lowest (last_of start value n []) ∙ whole in
    let size : ℕ → ℕ → ℕ = λ count glyphs. 4 * count + 4 * cells_beside count glyphs in
    ap (size (length ps)) span ∙ ap (λ count. size count (suc n)) long

-- the size of the pairs of an array
pub array_size : (bytes : List ℕ) (s : Segment) → pairs_size (segment_pairs bytes s ++ []) ≡ 4 * s.count + 4 * cells_beside s.count s.count
unfolding numbered
array_size bytes s = ap pairs_size (append-nil (segment_pairs bytes s)) ∙ numbered_size s.first (value_at bytes s.values) s.count

-- the pairs of units are as many as their glyphs
pub pairs_are_glyphs : (bytes : List ℕ) (segments : List Segment) → length (flat_map (segment_pairs bytes) segments) ≡ sum_by (λ segment. segment.count) segments
pairs_are_glyphs bytes [] = refl
pairs_are_glyphs bytes (s ∷ segments) =
    length-append (segment_pairs bytes s) (flat_map (segment_pairs bytes) segments)
    ∙ ap (λ n. n + length (flat_map (segment_pairs bytes) segments)) (length-map-range_with_len (λ k. (s.first + k, value_at bytes s.values k)) 0 s.count)
    ∙ ap (λ n. s.count + n) (pairs_are_glyphs bytes segments)
    ∙ sym (sum_by-cons (λ segment. segment.count) s segments)

-- the ends of the glyphs of pairs
abbrev pub HasEnds : List (ℕ × ℕ) → ℕ × ℕ → Type 0
HasEnds ps ends =
    ((length ps ≡ 0) × (ends.1 ≡ 0))
    ⊎ ((0 < length ps) × ((get_or ps 0 (0, 0)).0 ≡ ends.0) × ((get_or ps (length ps - 1) (0, 0)).0 + 1 ≡ ends.1))

some_behind :
    (bytes : List ℕ) (ps : List (ℕ × ℕ)) (low high : ℕ) (s : Segment) → HasEnds ps (low, high) → 0 < s.count
    → HasEnds (ps ++ segment_pairs bytes s) (if high == 0 then s.first else low, end_of s)
some_behind bytes [] low high s (inl none) some =
    let first = first_in bytes s [] some in
    let last = last_in bytes s [] some in
    let all = pairs_long bytes s in
    let empty : (high == 0) ≡ true = eq-eqb high 0 none.1 in
    let same : segment_pairs bytes s ++ [] ≡ segment_pairs bytes s = append-nil (segment_pairs bytes s) in
    let first_is : (get_or (segment_pairs bytes s) 0 (0, 0)).0 ≡ s.first = ap (λ (ps : List (ℕ × ℕ)). (get_or ps 0 (0, 0)).0) (sym same) ∙ first in
    rw empty (inr (omega (arith, all, some), first_is, omega (arith, last, some)))
some_behind bytes [] low high s (inr there) some = absurd (omega (arith, there.0))
some_behind bytes (p ∷ ps) low high s (inl none) some = absurd (omega (arith, none.0))
some_behind bytes (p ∷ ps) low high s (inr there) some =
    let last = last_in bytes s (p ∷ ps) some in
    let full : (high == 0) ≡ false = ne_eqb high 0 (λ e. omega (arith, e, there.2)) in
    rw full (inr (omega arith, there.1, omega (arith, last, some)))

by_count :
    (bytes : List ℕ) (ps : List (ℕ × ℕ)) (low high : ℕ) (s : Segment) (none : Bool) → (s.count == 0) ≡ none
    → HasEnds ps (low, high)
    → HasEnds (ps ++ segment_pairs bytes s) (if none then (low, high) else (if high == 0 then s.first else low, end_of s))
by_count bytes ps low high s true is has =
    let count : s.count ≡ 0 = eqb-true s.count 0 is in
    let pairs : ℕ → List (ℕ × ℕ) = λ n. map (λ k. (s.first + k, value_at bytes s.values k)) (range_with_len 0 n) in
    let empty : segment_pairs bytes s ≡ [] = ap pairs count in
    let same : ps ++ segment_pairs bytes s ≡ ps = ap (λ xs. ps ++ xs) empty ∙ append-nil ps in
    subst (λ (xs : List (ℕ × ℕ)). HasEnds xs (low, high)) (sym same) has
by_count bytes ps low high s false is has = some_behind bytes ps low high s has (not_zero s.count is)

few_by : (b : Bool) (x y : ℕ × ℕ) → x.1 ≤ 65536 → y.1 ≤ 65536 → (if b then x else y).1 ≤ 65536
few_by true x y one other = one
few_by false x y one other = other

-- with those of a segment behind them
pub ends_behind :
    (bytes : List ℕ) (ps : List (ℕ × ℕ)) (ends : ℕ × ℕ) (s : Segment) → HasEnds ps ends
    → HasEnds (ps ++ segment_pairs bytes s) (ends_with ends s)
ends_behind bytes ps ends s has = by_count bytes ps ends.0 ends.1 s (s.count == 0) refl has

-- they are no more than those of 16 bits
pub ends_few : (ends : ℕ × ℕ) (s : Segment) → ends.1 ≤ 65536 → end_of s ≤ 65536 → (ends_with ends s).1 ≤ 65536
ends_few ends s few fits = few_by (s.count == 0) ends (if ends.1 == 0 then s.first else ends.0, end_of s) few fits

-- the glyphs from the first to the last
pub span_of_ends :
    (ps : List (ℕ × ℕ)) (ends : ℕ × ℕ) → 0 < length ps → HasEnds ps ends
    → (0 < ends.1) × (glyph_span first (0, 0) ps ≡ ends.1 - 1 - ends.0 + 1)
span_of_ends ps ends some (inl none) = absurd (omega (arith, some, none.0))
span_of_ends ps ends some (inr there) =
    let highest : (get_or ps (length ps - 1) (0, 0)).0 ≡ ends.1 - 1 = omega (arith, there.2) in
    (omega (arith, there.2), span_of ps ends.0 (ends.1 - 1) there.1 highest)

module _ (bytes : List ℕ) (units : Units) where
  abbrev pub pairs_to : ℕ → List (ℕ × ℕ)
  pairs_to n = flat_map (segment_pairs bytes) (map (segment_of bytes units) (range_with_len 0 n))

  last_apart : (n : ℕ) → pairs_to n ++ segment_pairs bytes (segment_of bytes units n) ≡ pairs_to (n + 1)
  last_apart n = list_more (segment_pairs bytes) (segment_of bytes units) [] (pairs_to n) (pairs_to n ++ segment_pairs bytes (segment_of bytes units n)) n (segment_of bytes units n) refl refl refl

  -- one unit more
  pub ends_more :
      (n : ℕ) (ends : ℕ × ℕ) → HasEnds (pairs_to n) ends
      → HasEnds (pairs_to (n + 1)) (ends_with ends (segment_of bytes units n))
  ends_more n ends has =
      subst (λ (ps : List (ℕ × ℕ)). HasEnds ps (ends_with ends (segment_of bytes units n))) (last_apart n)
      (ends_behind bytes (pairs_to n) ends (segment_of bytes units n) has)

  -- the glyphs from the first to the last of units that are found by some
  pub span_is :
      (ends : ℕ × ℕ) → 0 < glyphs_of bytes units → HasEnds (pairs_to units.count) ends
      → (0 < ends.1) × (glyph_span first (0, 0) (pairs_of bytes (Searched units)) ≡ ends.1 - 1 - ends.0 + 1)
  span_is ends some has =
      let count = pairs_are_glyphs bytes (unit_segments bytes units) in
      span_of_ends (pairs_to units.count) ends (omega (arith, some, count)) has

  -- the size of the pairs of units
  pub units_size :
      pairs_size (pairs_of bytes (Searched units))
      ≡ 4 * glyphs_of bytes units + 4 * cells_beside (glyphs_of bytes units) (glyph_span first (0, 0) (pairs_of bytes (Searched units)))
  units_size =
      let span : ℕ = glyph_span first (0, 0) (pairs_of bytes (Searched units)) in
      let size : ℕ → ℕ = λ count. 4 * count + 4 * cells_beside count span in
      ap size (pairs_are_glyphs bytes (unit_segments bytes units))

  -- which is 0 where no glyph finds one
  pub no_size : glyphs_of bytes units ≡ 0 → pairs_size (pairs_of bytes (Searched units)) ≡ 0
  no_size none =
      let span : ℕ = glyph_span first (0, 0) (pairs_of bytes (Searched units)) in
      let size : ℕ → ℕ = λ count. 4 * count + 4 * cells_beside count span in
      units_size ∙ ap size none
