-- What the marks and the merges leave in a line.
use Rattle.std.specs.Prelude.{ℕ, Bool, ◌+◌, ◌==◌, ◌++◌, List, min, map, fold, bit_or, bit_and, ◌&&◌, not, nat_lt, ◌-◌, reverse, take_while, length, take, drop, slice_range, Option, unwrap_or, nat_le, if◌then◌else◌}
pub use Rattle.aat_buffer.specs.Buffer.{with_line}
use Rattle.aat_buffer.specs.Buffer.{Buffer, glyph_at}
use Rattle.aat_glyph.specs.declared.glyph.hb_glyph_info_t.{hb_glyph_info_t}
use Rattle.aat_glyph.specs.declared.flags.BufferFlags.{BufferFlags}

-- f of the span from place i up to place j, and the glyphs round it as they were
abbrev pub on_span :
    (List hb_glyph_info_t → List hb_glyph_info_t) → ℕ → ℕ → List hb_glyph_info_t → List hb_glyph_info_t
on_span f i j gs = take i gs ++ (f (slice_range gs i j) ++ drop j gs)

-- the same where the span has two glyphs or more; a shorter one stays
abbrev pub on_long_span :
    (List hb_glyph_info_t → List hb_glyph_info_t) → ℕ → ℕ → List hb_glyph_info_t → List hb_glyph_info_t
on_long_span f i j gs = if nat_le (i + 2) j then on_span f i j gs else gs

-- the same of the line of a buffer
abbrev pub on_line_span : (List hb_glyph_info_t → List hb_glyph_info_t) → ℕ → ℕ → Buffer → Buffer
on_line_span f i j b = with_line b (on_span f i j b.line)

-- the cluster of the glyph at place i
abbrev pub cluster_at : List hb_glyph_info_t → ℕ → ℕ
cluster_at gs i = (glyph_at gs i).cluster

-- the least cluster of the glyphs of a span
abbrev pub least_of : List hb_glyph_info_t → ℕ
least_of gs = fold (λ m g. min m g.cluster) (cluster_at gs 0) gs

-- Marks

-- a glyph gets these bits besides its own
abbrev pub with_mask_bits : ℕ → hb_glyph_info_t → hb_glyph_info_t
with_mask_bits bits g = record g { mask = bit_or g.mask bits }

-- a glyph gets these bits where its cluster is not the least
abbrev pub marked_above : ℕ → ℕ → hb_glyph_info_t → hb_glyph_info_t
marked_above least bits g = if g.cluster == least then g else with_mask_bits bits g

-- UNSAFE_TO_BREAK (1) and UNSAFE_TO_CONCAT (2) on each glyph whose cluster is not the least of them all
abbrev pub break_marked : List hb_glyph_info_t → List hb_glyph_info_t
break_marked gs = map (marked_above (least_of gs) 3) gs

-- UNSAFE_TO_CONCAT (2) on each glyph
abbrev pub concat_marked : List hb_glyph_info_t → List hb_glyph_info_t
concat_marked gs = map (with_mask_bits 2) gs

-- a span that is given no start begins at the first glyph
abbrev pub start_place : Option ℕ → ℕ
start_place start = unwrap_or start 0

-- a span that is given no end, or one past the line of n glyphs, ends with the line
abbrev pub end_place : Option ℕ → ℕ → ℕ
end_place end n = min (unwrap_or end n) n

-- a span of two glyphs or more gets the break marks
abbrev pub unsafe_to_break : Buffer → Option ℕ → Option ℕ → Buffer
unsafe_to_break b start end =
    with_line b (on_long_span break_marked (start_place start) (end_place end (length b.line)) b.line)

-- whether the caller asks for the concat marks: PRODUCE_UNSAFE_TO_CONCAT (64)
abbrev pub produces_concat : BufferFlags → Bool
produces_concat flags = bit_and flags.0 64 == 64

-- where they are asked for, a span gets the concat marks, however short it is
abbrev pub unsafe_to_concat : Buffer → Option ℕ → Option ℕ → Buffer
unsafe_to_concat b start end =
    let i = start_place start in
    let j = end_place end (length b.line) in
    with_line b (if produces_concat b.flags && nat_lt i j then on_span concat_marked i j b.line else b.line)

-- Merges

-- setting a cluster: where it changes, the DEFINED flags (7) are cleared
abbrev pub with_cluster : ℕ → hb_glyph_info_t → hb_glyph_info_t
with_cluster c g = if g.cluster == c then g else record g { cluster = c; mask = bit_and g.mask 0xFFFFFFF8 }

-- how many glyphs in front have the cluster c
abbrev pub run_of : ℕ → List hb_glyph_info_t → ℕ
run_of c gs = length (take_while (λ g. g.cluster == c) gs)

-- how many glyphs from place j on have the cluster c
abbrev pub run_after : List hb_glyph_info_t → ℕ → ℕ → ℕ
run_after gs j c = run_of c (drop j gs)

-- how many glyphs before place i, but none before place p, have the cluster c
abbrev pub run_before : List hb_glyph_info_t → ℕ → ℕ → ℕ → ℕ
run_before gs p i c = run_of c (reverse (slice_range gs p i))

-- where a span up to j ends once it has taken in what shares the cluster of its last glyph, if that is not m
abbrev pub merge_end : List hb_glyph_info_t → ℕ → ℕ → ℕ
merge_end gs j m = if not (cluster_at gs (j - 1) == m) then j + run_after gs j (cluster_at gs (j - 1)) else j

-- where a span from i begins once it has taken in what shares the cluster of its first glyph, if that is not m,
-- but nothing before p
abbrev pub merge_start : List hb_glyph_info_t → ℕ → ℕ → ℕ → ℕ
merge_start gs p i m = if not (cluster_at gs i == m) && nat_lt p i then i - run_before gs p i (cluster_at gs i) else i

-- whether clusters stay apart at a cluster level: at CHARACTERS (2) alone
abbrev pub clusters_stay_apart : ℕ → Bool
clusters_stay_apart level = level == 2

-- the span from i up to j, grown at both ends but not over the cursor p, gets its least cluster
unfoldable pub merged : List hb_glyph_info_t → ℕ → ℕ → ℕ → List hb_glyph_info_t
merged gs p i j =
    let m = least_of (slice_range gs i j) in
    on_span (map (with_cluster m)) (merge_start gs p i m) (merge_end gs j m) gs

-- the span from i up to j, grown through all that shares its end glyphs' clusters, gets its least cluster
unfoldable pub merged_out : List hb_glyph_info_t → ℕ → ℕ → List hb_glyph_info_t
merged_out gs i j =
    let m = least_of (slice_range gs i j) in
    let from = i - run_before gs 0 i (cluster_at gs i) in
    let to = j + run_after gs j (cluster_at gs (j - 1)) in
    on_span (map (with_cluster m)) from to gs

-- a line at a cluster level with the cursor p: a span of two glyphs or more is merged, or at the level
-- CHARACTERS (2) gets the break marks
abbrev pub merged_line : ℕ → ℕ → ℕ → ℕ → List hb_glyph_info_t → List hb_glyph_info_t
merged_line level p start end gs =
    let j = min end (length gs) in
    if nat_le (start + 2) j
    then (if clusters_stay_apart level then on_span break_marked start j gs else merged gs p start j)
    else gs

-- the span from start up to end is merged at the level of the buffer, and its end is at most that of the line
abbrev pub merge_clusters : Buffer → ℕ → ℕ → Buffer
merge_clusters b start end = with_line b (merged_line b.cluster_level b.cursor start end b.line)

-- a span of two glyphs or more is merged on both sides of the cursor; at the level CHARACTERS (2) it stays
abbrev pub merge_out_clusters : Buffer → ℕ → ℕ → Buffer
merge_out_clusters b start end =
    let j = min end (length b.line) in
    let merges = nat_le (start + 2) j && not (clusters_stay_apart b.cluster_level) in
    with_line b (if merges then merged_out b.line start j else b.line)
