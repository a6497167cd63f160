-- A span that was merged is merged again: nothing changes.
use Rattle.std.proofs.Common.{◌≡◌, ◌∙◌, ap, sym, refl, ℕ, suc, ◌<◌, ◌≤◌, ◌+◌, ◌-◌, ◌&&◌, ◌==◌, not, cond, min, List, [], ◌∷◌, ◌++◌, take, drop, length, map, get_or, arith, nat_le, nat_lt}
use Rattle.std.proofs.lemmas.Bool.Decides.{nat_tests}
use Rattle.std.specs.Prelude.{Bool, slice_range, true, false}
use Rattle.aat_buffer.specs.Buffer.{Buffer, no_glyph, with_line}
use Rattle.aat_buffer.specs.Marks.{clusters_stay_apart, on_span, break_marked, with_cluster, merged, merge_start, merge_end, run_after, run_before, least_of, cluster_at, merge_clusters, merged_line}
use Rattle.aat_buffer.specs.facts.Cases.{chosen}
use Rattle.aat_buffer.specs.facts.Clusters.{three_parts, cluster_set, get_inside, least_within}
use Rattle.aat_buffer.specs.facts.Lines.{length_slice, range_at, length_merged, merge_end_low, merge_end_high, merge_start_low}
use Rattle.aat_glyph.specs.declared.glyph.hb_glyph_info_t.{hb_glyph_info_t}

-- what leaves each element leaves the list
all_stay : {X : Type 0} (f : X → X) (xs : List X) (d : X) → ((k : ℕ) → k < length xs → f (get_or xs k d) ≡ get_or xs k d) → map f xs ≡ xs
all_stay f [] d stays = refl
all_stay f (x ∷ xs) d stays = ap (λ y. y ∷ map f xs) (stays 0 (omega arith)) ∙ ap (λ ys. x ∷ ys) (all_stay f xs d (λ k low. stays (suc k) (omega (arith, low))))

-- and each of a span, the span
span_stays : (f : hb_glyph_info_t → hb_glyph_info_t) (i j : ℕ) (hs : List hb_glyph_info_t) → i ≤ j → j ≤ length hs
    → ((k : ℕ) → i ≤ k → k < j → f (get_or hs k no_glyph) ≡ get_or hs k no_glyph) → on_span (map f) i j hs ≡ hs
span_stays f i j hs low high stays =
    let long : length (slice_range hs i j) ≡ j - i = length_slice i j hs low high in
    let each : (k : ℕ) → k < length (slice_range hs i j) → f (get_or (slice_range hs i j) k no_glyph) ≡ get_or (slice_range hs i j) k no_glyph =
    λ k below.
    (let read : get_or (slice_range hs i j) k no_glyph ≡ get_or hs (i + k) no_glyph = range_at hs i j k no_glyph (omega (arith, long, below)) in
    ap f read ∙ (stays (i + k) (omega arith) (omega (arith, long, below, low)) ∙ sym read)) in
    ap (λ t. take i hs ++ (t ++ drop j hs)) (all_stay f (slice_range hs i j) no_glyph each) ∙ three_parts i j hs low

-- a glyph of the cluster keeps it
keeps : (m : ℕ) (g : hb_glyph_info_t) → g.cluster ≡ m → with_cluster m g ≡ g
keeps m g same = chosen (λ (x : hb_glyph_info_t). x ≡ g) (g.cluster == m) g _ (λ _. refl) (λ other. absurd (grind (arith, nat_tests, other, same)))

-- a span of one cluster is merged
one_cluster : (hs : List hb_glyph_info_t) (p i j m : ℕ) → i < j → j ≤ length hs → ((k : ℕ) → i ≤ k → k < j → cluster_at hs k ≡ m) → merged hs p i j ≡ hs
unfolding merged
one_cluster hs p i j m some high at =
    let least : ℕ = least_of (slice_range hs i j) in
    let w = least_within hs i j some high in
    let same : least_of (slice_range hs i j) ≡ m = w.is ∙ at w.place w.from w.to in
    let first : cluster_at hs i ≡ m = at i (omega arith) some in
    let last : cluster_at hs (j - 1) ≡ m = at (j - 1) (omega (arith, some)) (omega (arith, some)) in
    let start : merge_start hs p i m ≡ i =
    chosen (λ (n : ℕ). n ≡ i) (not (cluster_at hs i == m) && nat_lt p i) (i - run_before hs p i (cluster_at hs i)) i (λ yes. absurd (grind (arith, nat_tests, yes, first))) (λ _. refl) in
    let end : merge_end hs j m ≡ j =
    chosen (λ (n : ℕ). n ≡ j) (not (cluster_at hs (j - 1) == m)) (j + run_after hs j (cluster_at hs (j - 1))) j (λ yes. absurd (grind (arith, nat_tests, yes, last))) (λ _. refl) in
    ap (λ c. on_span (map (with_cluster c)) (merge_start hs p i c) (merge_end hs j c) hs) same
    ∙ (ap (λ s. on_span (map (with_cluster m)) s (merge_end hs j m) hs) start
    ∙ (ap (λ e. on_span (map (with_cluster m)) i e hs) end
    ∙ span_stays (with_cluster m) i j hs (omega (arith, some)) high (λ k from to. keeps m (get_or hs k no_glyph) (at k from to))))

merged_stays : (gs : List hb_glyph_info_t) (p i j : ℕ) → i < j → j ≤ length gs → merged (merged gs p i j) p i j ≡ merged gs p i j
unfolding merged
merged_stays gs p i j some high =
    let m : ℕ = least_of (slice_range gs i j) in
    let s : ℕ = merge_start gs p i m in
    let e : ℕ = merge_end gs j m in
    let from : s ≤ i = merge_start_low gs p i m in
    let to : j ≤ e = merge_end_low gs j m in
    let within : e ≤ length gs = merge_end_high gs j m high in
    one_cluster (merged gs p i j) p i j m some (let n = length_merged gs p i j (omega (arith, some)) high in omega (arith, n, high))
    (λ k low below. ap (λ (g : hb_glyph_info_t). g.cluster) (get_inside (with_cluster m) s e gs (omega (arith, from, to, some)) within k no_glyph (omega (arith, from, low)) (omega (arith, to, below))) ∙ cluster_set m (get_or gs k no_glyph))

-- a line of which the span up to place j is merged, where it is long enough and where not
module _ (gs : List hb_glyph_info_t) (level p i j : ℕ) (high : j ≤ length gs) where
  within : min j (length gs) ≡ j
  within = omega (arith, high)

  line_of : merged_line level p i j gs ≡ cond (nat_le (i + 2) j) (cond (clusters_stay_apart level) (on_span break_marked i j gs) (merged gs p i j)) gs
  line_of = ap (λ n. cond (nat_le (i + 2) n) (cond (clusters_stay_apart level) (on_span break_marked i n gs) (merged gs p i n)) gs) within

  long_line : nat_le (i + 2) j ≡ true → clusters_stay_apart level ≡ false → merged_line level p i j gs ≡ merged gs p i j
  long_line long merges =
      line_of ∙ (ap (λ t. cond t (cond (clusters_stay_apart level) (on_span break_marked i j gs) (merged gs p i j)) gs) long
      ∙ ap (λ t. cond t (on_span break_marked i j gs) (merged gs p i j)) merges)

  short_line : nat_le (i + 2) j ≡ false → merged_line level p i j gs ≡ gs
  short_line short = line_of ∙ ap (λ t. cond t (cond (clusters_stay_apart level) (on_span break_marked i j gs) (merged gs p i j)) gs) short

line_stays : (t : Bool) (gs : List hb_glyph_info_t) (level p i j : ℕ) → nat_le (i + 2) j ≡ t → i < j → j ≤ length gs → clusters_stay_apart level ≡ false
    → merged_line level p i j gs ≡ merged_line level p i j (merged_line level p i j gs)
line_stays true gs level p i j long some high merges =
    let once : merged_line level p i j gs ≡ merged gs p i j = long_line gs level p i j high long merges in
    let n : length (merged gs p i j) ≡ length gs = length_merged gs p i j (omega (arith, some)) high in
    once ∙ (sym (merged_stays gs p i j some high)
    ∙ (sym (long_line (merged gs p i j) level p i j (omega (arith, n, high)) long merges) ∙ ap (merged_line level p i j) (sym once)))
line_stays false gs level p i j short some high merges = ap (merged_line level p i j) (sym (short_line gs level p i j high short))

-- a merge up to place e, where that is the end of the span, stands for two
pub merged_again : (b : Buffer) (i e j : ℕ) → i < j → j ≤ length b.line → e ≡ j → clusters_stay_apart b.cluster_level ≡ false
    → merge_clusters b i (min e (length b.line)) ≡ merge_clusters (merge_clusters b i (min e (length b.line))) i j
merged_again b i e j some high same merges =
    let place : min e (length b.line) ≡ j = omega (arith, same, high) in
    ap (merge_clusters b i) place
    ∙ (ap (with_line b) (line_stays (nat_le (i + 2) j) b.line b.cluster_level b.cursor i j refl some high merges)
    ∙ ap (λ n. merge_clusters (merge_clusters b i n) i j) (sym place))
