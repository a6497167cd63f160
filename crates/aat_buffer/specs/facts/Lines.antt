-- What edits of a line keep.
use Rattle.std.proofs.Common.{◌≡◌, ◌∙◌, ℕ, ◌+◌, ◌-◌, ◌<◌, ◌≤◌, ◌&&◌, ◌==◌, not, cond, List, ◌++◌, length, take, drop, get_or, map, min, Option, refl, arith, length-append, length-take, length-drop, nat_le, nat_lt}
use Rattle.std.proofs.lemmas.Bool.Decides.{nat_tests}
use Rattle.std.proofs.lemmas.List.{length-map, get_or-drop, get_or-take}
use Rattle.std.specs.Prelude.{slice_range}
use Rattle.std.specs.List.{prefix_len}
use Rattle.aat_buffer.specs.Buffer.{Buffer}
use Rattle.aat_buffer.specs.Marks.{clusters_stay_apart, on_span, on_long_span, break_marked, unsafe_to_break, start_place, end_place, with_cluster, merged, merged_out, merge_start, merge_end, run_of, run_after, run_before, least_of, cluster_at, merge_clusters, merge_out_clusters, unsafe_to_concat, produces_concat, concat_marked}
use Rattle.aat_glyph.specs.declared.glyph.hb_glyph_info_t.{hb_glyph_info_t}
use Rattle.aat_buffer.specs.facts.Cases.{chosen}

pub length_slice : {X : Type 0} (i j : ℕ) (xs : List X) → i ≤ j → j ≤ length xs → length (slice_range xs i j) ≡ j - i
length_slice i j xs low high = rw (length-take (j - i) (drop i xs), length-drop i xs) (omega arith)

-- an element of a span
pub range_at : {X : Type 0} (xs : List X) (s e i : ℕ) (d : X) → i < e - s → get_or (slice_range xs s e) i d ≡ get_or xs (s + i) d
range_at xs s e i d low = get_or-take (e - s) (drop s xs) i d low ∙ get_or-drop s xs i d

pub length_of_span : (f : List hb_glyph_info_t → List hb_glyph_info_t) (i j : ℕ) (gs : List hb_glyph_info_t) → length (f (slice_range gs i j)) ≡ length (slice_range gs i j) → i ≤ j → j ≤ length gs → length (on_span f i j gs) ≡ length gs
length_of_span f i j gs same low high =
    rw (length-append (take i gs) (f (slice_range gs i j) ++ drop j gs), length-append (f (slice_range gs i j)) (drop j gs), same, length_slice i j gs low high, length-take i gs, length-drop j gs) (omega arith)

pub length_on_span : (f : List hb_glyph_info_t → List hb_glyph_info_t) (i j : ℕ) (gs : List hb_glyph_info_t) → ((xs : List hb_glyph_info_t) → length (f xs) ≡ length xs) → i ≤ j → j ≤ length gs → length (on_span f i j gs) ≡ length gs
length_on_span f i j gs same low high = length_of_span f i j gs (same (slice_range gs i j)) low high

pub length_on_long_span : (f : List hb_glyph_info_t → List hb_glyph_info_t) (i j : ℕ) (gs : List hb_glyph_info_t) → ((xs : List hb_glyph_info_t) → length (f xs) ≡ length xs) → j ≤ length gs → length (on_long_span f i j gs) ≡ length gs
length_on_long_span f i j gs same high =
    chosen (λ xs. length xs ≡ length gs) (nat_le (i + 2) j) (on_span f i j gs) gs (λ long. let low : i ≤ j = grind (arith, nat_tests, long) in length_on_span f i j gs same low high) (λ _. refl)

pub length_unsafe : (b : Buffer) (start end : Option ℕ) → length (unsafe_to_break b start end).line ≡ length b.line
length_unsafe b start end = length_on_long_span break_marked (start_place start) (end_place end (length b.line)) b.line (λ xs. length-map xs _) (omega arith)

-- how many glyphs of one cluster stand in front is at most how many stand there
pub run_of_within : (c : ℕ) (gs : List hb_glyph_info_t) → run_of c gs ≤ length gs
run_of_within c gs = omega (arith, length-take (prefix_len (λ g. g.cluster == c) gs) gs)

pub merge_end_low : (gs : List hb_glyph_info_t) (j m : ℕ) → j ≤ merge_end gs j m
merge_end_low gs j m = chosen (λ n. j ≤ n) (not (cluster_at gs (j - 1) == m)) (j + run_after gs j (cluster_at gs (j - 1))) j (λ _. omega arith) (λ _. omega arith)

pub merge_end_high : (gs : List hb_glyph_info_t) (j m : ℕ) → j ≤ length gs → merge_end gs j m ≤ length gs
merge_end_high gs j m high =
    chosen (λ n. n ≤ length gs) (not (cluster_at gs (j - 1) == m)) (j + run_after gs j (cluster_at gs (j - 1))) j
    (λ _. omega (arith, run_of_within (cluster_at gs (j - 1)) (drop j gs), length-drop j gs)) (λ _. high)

pub merge_start_low : (gs : List hb_glyph_info_t) (p i m : ℕ) → merge_start gs p i m ≤ i
merge_start_low gs p i m = chosen (λ n. n ≤ i) (not (cluster_at gs i == m) && nat_lt p i) (i - run_before gs p i (cluster_at gs i)) i (λ _. omega arith) (λ _. omega arith)

pub length_merged : (gs : List hb_glyph_info_t) (p i j : ℕ) → i ≤ j → j ≤ length gs → length (merged gs p i j) ≡ length gs
unfolding merged
length_merged gs p i j low high =
    let m = least_of (slice_range gs i j) in
    length_on_span (map (with_cluster m)) (merge_start gs p i m) (merge_end gs j m) gs (λ xs. length-map xs _)
    (omega (arith, low, merge_start_low gs p i m, merge_end_low gs j m)) (merge_end_high gs j m high)

pub length_merged_out : (gs : List hb_glyph_info_t) (i j : ℕ) → i ≤ j → j ≤ length gs → length (merged_out gs i j) ≡ length gs
unfolding merged_out
length_merged_out gs i j low high =
    length_on_span (map (with_cluster (least_of (slice_range gs i j)))) (i - run_before gs 0 i (cluster_at gs i)) (j + run_after gs j (cluster_at gs (j - 1))) gs (λ xs. length-map xs _)
    (omega (arith, low)) (omega (arith, high, run_of_within (cluster_at gs (j - 1)) (drop j gs), length-drop j gs))

-- a merge changes the line alone
pub of_merge : {A : Type 0} (f : Buffer → A) (b : Buffer) (i j : ℕ) → ((gs : List hb_glyph_info_t) → f (record b { line = gs }) ≡ f b) → f (merge_clusters b i j) ≡ f b
of_merge f b i j same = same _

pub length_merge : (b : Buffer) (i j : ℕ) → length (merge_clusters b i j).line ≡ length b.line
length_merge b i j =
    let e = min j (length b.line) in
    chosen (λ (gs : List hb_glyph_info_t). length gs ≡ length b.line) (nat_le (i + 2) e) (cond (clusters_stay_apart b.cluster_level) (on_span break_marked i e b.line) (merged b.line b.cursor i e)) b.line
    (λ long.
    let low : i ≤ e = grind (arith, nat_tests, long) in
    let high : e ≤ length b.line = omega arith in
    chosen (λ (gs : List hb_glyph_info_t). length gs ≡ length b.line) (clusters_stay_apart b.cluster_level) (on_span break_marked i e b.line) (merged b.line b.cursor i e)
    (λ _. length_on_span break_marked i e b.line (λ xs. length-map xs _) low high) (λ _. length_merged b.line b.cursor i e low high))
    (λ _. refl)

pub of_merge_out : {A : Type 0} (f : Buffer → A) (b : Buffer) (i j : ℕ) → ((gs : List hb_glyph_info_t) → f (record b { line = gs }) ≡ f b) → f (merge_out_clusters b i j) ≡ f b
of_merge_out f b i j same = same _

pub length_merge_out : (b : Buffer) (i j : ℕ) → length (merge_out_clusters b i j).line ≡ length b.line
length_merge_out b i j =
    let e = min j (length b.line) in
    chosen (λ (gs : List hb_glyph_info_t). length gs ≡ length b.line) (nat_le (i + 2) e && not (clusters_stay_apart b.cluster_level)) (merged_out b.line i e) b.line
    (λ long. let low : i ≤ e = grind (arith, nat_tests, long) in length_merged_out b.line i e low (omega arith)) (λ _. refl)

-- marking the whole line changes the masks alone
pub of_concat : {A : Type 0} (f : Buffer → A) (b : Buffer) (start end : Option ℕ) → ((gs : List hb_glyph_info_t) → f (record b { line = gs }) ≡ f b) → f (unsafe_to_concat b start end) ≡ f b
of_concat f b start end same = same _

pub length_concat : (b : Buffer) (start end : Option ℕ) → length (unsafe_to_concat b start end).line ≡ length b.line
length_concat b start end =
    let i = start_place start in
    let j = end_place end (length b.line) in
    chosen (λ (gs : List hb_glyph_info_t). length gs ≡ length b.line) (produces_concat b.flags && nat_lt i j) (on_span concat_marked i j b.line) b.line
    (λ yes. let low : i ≤ j = grind (arith, nat_tests, yes) in length_on_span concat_marked i j b.line (λ xs. length-map xs _) low (omega arith)) (λ _. refl)
