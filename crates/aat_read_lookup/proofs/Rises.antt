-- The pairs of segments rise strictly where each segment begins behind the one before it.
use Rattle.std.proofs.Common.{◌≡◌, ℕ, zero, suc, ◌+◌, ◌-◌, ◌<◌, ◌≤◌, List, [], ◌∷◌, ◌++◌, map, Some, None, Bool, true, false, refl, ◌∙◌, arith, ◌==◌}
use Rattle.std.specs.Prelude.{nat_lt, if◌then◌else◌}
use Rattle.std.specs.List.{flat_map, range_with_len}
use Rattle.std.proofs.lemmas.Bool.{lt-ltb, le-ltb, cond-true}
use Rattle.std.proofs.lemmas.Bool.Decides.{nat_tests}
use Rattle.aat_lookup.specs.Keys.{fall_after, first, first_fall}
use Rattle.aat_lookup.specs.Segments.{first_segment_fall, segment_fall_from}
use Rattle.aat_lookup.specs.declared.segments.LookupSegment.{LookupSegment}
use Rattle.aat_read_lookup.specs.Segments.{end_of, is_shared, pairs_by}
use Rattle.aat_read_lookup.specs.Kept.{kept_segments, single_segment, whole_segment}
use Rattle.aat_read_lookup.specs.declared.kept.Keep.{Keep}
use Rattle.aat_read_lookup.specs.declared.segment.Segment.{Segment}
use Rattle.aat_read_lookup.specs.declared.segment.Values.{Values}

-- each segment begins at or behind a glyph, and at or behind the end of the one before it
abbrev pub RiseFrom : ℕ → List Segment → Type 0
RiseFrom lowest [] = Unit
RiseFrom lowest (s ∷ segments) = (lowest ≤ s.first) × RiseFrom (end_of s) segments

-- the pairs of glyphs from one on, and others behind them
numbered : ℕ → (ℕ → ℕ) → ℕ → ℕ → List (ℕ × ℕ) → List (ℕ × ℕ)
numbered start value i n rest = map (λ k. (start + k, value k)) (range_with_len i n) ++ rest

-- they do not fall behind a glyph below them, if the others do not
no_fall_behind :
    (start : ℕ) (value : ℕ → ℕ) (rest : List (ℕ × ℕ)) (i n m k : ℕ)
    → k < start + i
    → ((m' k' : ℕ) → k' < start + i + n → fall_after first m' k' rest ≡ None)
    → fall_after first m k (numbered start value i n rest) ≡ None
unfolding numbered
no_fall_behind start value rest i zero m k below others = others m k (omega arith)
no_fall_behind start value rest i (suc n) m k below others =
    cond-true (nat_lt k (start + i)) (fall_after first (m + 1) (start + i) (numbered start value (i + 1) n rest)) (Some m) (lt-ltb k (start + i) below)
    ∙ no_fall_behind start value rest (i + 1) n (m + 1) (start + i) (omega arith) (λ m' k' lt. others m' k' (omega arith))

-- pairs of segments do not fall behind a glyph below them
pairs_behind :
    (value : Values → ℕ → ℕ) (lowest : ℕ) (segments : List Segment)
    → RiseFrom lowest segments
    → (m k : ℕ) → k < lowest → fall_after first m k (flat_map (pairs_by value) segments) ≡ None
unfolding numbered
pairs_behind value lowest [] rise m k below = refl
pairs_behind value lowest (s ∷ segments) rise m k below =
    no_fall_behind s.first (value s.values) (flat_map (pairs_by value) segments) 0 s.count m k (omega (arith, rise.0))
    (λ m' k' lt. pairs_behind value (end_of s) segments rise.1 m' k' (omega arith))

-- the first of them has none before it
first_of :
    (start : ℕ) (value : ℕ → ℕ) (rest : List (ℕ × ℕ)) (n : ℕ)
    → first_fall first rest ≡ None
    → ((m k : ℕ) → k < start + n → fall_after first m k rest ≡ None)
    → first_fall first (numbered start value 0 n rest) ≡ None
unfolding numbered
first_of start value rest zero alone others = alone
first_of start value rest (suc n) alone others =
    no_fall_behind start value rest 1 n 1 (start + 0) (omega arith) (λ m k lt. others m k (omega arith))

-- the pairs of segments rise
pub pairs_rise :
    (value : Values → ℕ → ℕ) (lowest : ℕ) (segments : List Segment)
    → RiseFrom lowest segments → first_fall first (flat_map (pairs_by value) segments) ≡ None
unfolding numbered
pairs_rise value lowest [] rise = refl
pairs_rise value lowest (s ∷ segments) rise =
    first_of s.first (value s.values) (flat_map (pairs_by value) segments) s.count
    (pairs_rise value (end_of s) segments rise.1)
    (λ m k lt. pairs_behind value (end_of s) segments rise.1 m k lt)

-- glyphs that are segments of their own do not fall, if the segments behind them do not
singles_fall :
    (bytes : List ℕ) (keep : Keep) (s : Segment) (rest : List LookupSegment) (i k n low : ℕ)
    → low ≤ s.first + k
    → ((j l : ℕ) → l ≤ s.first + k + n → segment_fall_from j l rest ≡ None)
    → segment_fall_from i low (map (single_segment bytes keep s) (range_with_len k n) ++ rest) ≡ None
singles_fall bytes keep s rest i k zero low behind others = others i low (omega arith)
singles_fall bytes keep s rest i k (suc n) low behind others =
    let begins : nat_lt (s.first + k) low ≡ false = le-ltb (s.first + k) low behind in
    let ends : nat_lt (s.first + k) (s.first + k) ≡ false = le-ltb (s.first + k) (s.first + k) (omega arith) in
    rw (begins, ends)
    (singles_fall bytes keep s rest (i + 1) (k + 1) n (s.first + k + 1) (omega arith) (λ j l le. others j l (omega arith)))

-- a number that is not found to be 0
pub not_zero : (n : ℕ) → (n == 0) ≡ false → 0 < n
not_zero n other = grind (arith, nat_tests)

-- a segment of one value does not fall, if the segments behind it do not
whole_falls :
    (bytes : List ℕ) (keep : Keep) (s : Segment) (rest : List LookupSegment) (i low : ℕ) (none : Bool)
    → (s.count == 0) ≡ none → low ≤ s.first
    → ((j l : ℕ) → l ≤ end_of s → segment_fall_from j l rest ≡ None)
    → segment_fall_from i low ((if none then [] else whole_segment bytes keep s ∷ []) ++ rest) ≡ None
whole_falls bytes keep s rest i low true is behind others = others i low (omega (arith, behind))
whole_falls bytes keep s rest i low false is behind others =
    let some = not_zero s.count is in
    let begins : nat_lt s.first low ≡ false = le-ltb s.first low behind in
    let ends : nat_lt (end_of s - 1) s.first ≡ false = le-ltb (end_of s - 1) s.first (omega (arith, some)) in
    let next : end_of s - 1 + 1 ≡ end_of s = omega (arith, some) in
    rw (begins, ends, next) (others (i + 1) (end_of s) (omega arith))

-- a segment as it is kept does not fall, if the segments behind it do not
one_falls :
    (bytes : List ℕ) (keep : Keep) (s : Segment) (rest : List LookupSegment) (i low : ℕ) (shared : Bool)
    → low ≤ s.first
    → ((j l : ℕ) → l ≤ end_of s → segment_fall_from j l rest ≡ None)
    → segment_fall_from i low
    ((if shared then (if s.count == 0 then [] else whole_segment bytes keep s ∷ []) else
    map (single_segment bytes keep s) (range_with_len 0 s.count)) ++ rest) ≡ None
one_falls bytes keep s rest i low true behind others =
    whole_falls bytes keep s rest i low (s.count == 0) refl behind others
one_falls bytes keep s rest i low false behind others =
    singles_fall bytes keep s rest i 0 s.count low (omega (arith, behind)) (λ j l le. others j l (omega (arith, le)))

kept_behind :
    (bytes : List ℕ) (keep : Keep) (i low lowest : ℕ) (segments : List Segment)
    → RiseFrom lowest segments → low ≤ lowest
    → segment_fall_from i low (flat_map (kept_segments bytes keep) segments) ≡ None
kept_behind bytes keep i low lowest [] rise le = refl
kept_behind bytes keep i low lowest (s ∷ segments) rise le =
    one_falls bytes keep s (flat_map (kept_segments bytes keep) segments) i low (is_shared s.values) (omega (arith, rise.0, le))
    (λ j l below. kept_behind bytes keep j l (end_of s) segments rise.1 below)

-- segments rise as they are kept
pub kept_rise :
    (bytes : List ℕ) (keep : Keep) (segments : List Segment)
    → RiseFrom 0 segments → first_segment_fall (flat_map (kept_segments bytes keep) segments) ≡ None
kept_rise bytes keep segments rise = kept_behind bytes keep 0 0 0 segments rise (omega arith)
