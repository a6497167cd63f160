-- Merges in a line that glyphs of other clusters stand behind, or before.
use Rattle.std.proofs.Common.{◌≡◌, ◌∙◌, ◌⊎◌, inl, inr, ℕ, ◌+◌, ◌-◌, ◌<◌, ◌≤◌, ◌==◌, ◌&&◌, not, Bool, true, false, ℤ, List, [], ◌∷◌, ◌++◌, length, take, drop, map, cond, min, nat_le, nat_lt, refl, ap, sym, arith, append_assoc, length-append, length-drop, length-take}
use Rattle.std.proofs.Math.Seq.{drop-append-add, take-append-add}
use Rattle.std.proofs.lemmas.Bool.{cases_lt}
use Rattle.std.proofs.lemmas.Bool.Decides.{nat_tests}
use Rattle.std.proofs.lemmas.List.{drop-append-le, get_or-append-add, get_or_append_left, length-reverse, reverse-append, take-append-le}
use Rattle.std.proofs.lemmas.List.Folds.{length-prefix_len, prefix_len-append}
use Rattle.std.proofs.lemmas.List.Sorted.{All-permutation, IsPermutation-reverse}
use Rattle.std.specs.List.{prefix_len}
use Rattle.std.specs.Prelude.{All, reverse, slice_range}
use Rattle.aat_buffer.specs.Buffer.{Buffer, no_glyph, with_line}
use Rattle.aat_buffer.specs.Marks.{break_marked, cluster_at, clusters_stay_apart, least_of, merge_clusters, merge_end, merge_out_clusters, merge_start, merged, merged_out, on_span, run_after, run_before, run_of, with_cluster}
use Rattle.aat_buffer.specs.facts.Cases.{chosen}
use Rattle.aat_buffer.specs.facts.Lines.{merge_end_high, merge_end_low, merge_start_low, run_of_within}
use Rattle.aat_glyph.specs.declared.glyph.hb_glyph_info_t.{hb_glyph_info_t}
use Rattle.aat_cut_kinds.specs.Parts.{followed_by, moved_on}

-- a span of the first of two lines
slice_in_front : (i j : ℕ) (xs ys : List hb_glyph_info_t) → j ≤ length xs → slice_range (xs ++ ys) i j ≡ slice_range xs i j
slice_in_front i j xs ys high = by_place (cases_lt i j)
  where
    by_place : ((i < j) ⊎ (j ≤ i)) → slice_range (xs ++ ys) i j ≡ slice_range xs i j
    by_place (inl low) = ap (take (j - i)) (drop-append-le i xs ys (omega (arith, low, high))) ∙ take-append-le (j - i) (drop i xs) ys (omega (arith, length-drop i xs, high))
    by_place (inr low) = let none : j - i ≡ 0 = omega (arith, low) in rw none refl

span_in_front : (f : List hb_glyph_info_t → List hb_glyph_info_t) (i j : ℕ) (xs ys : List hb_glyph_info_t) → i ≤ j → j ≤ length xs → on_span f i j (xs ++ ys) ≡ on_span f i j xs ++ ys
span_in_front f i j xs ys low high =
    let here : take i (xs ++ ys) ≡ take i xs = take-append-le i xs ys (omega (arith, low, high)) in
    let span : slice_range (xs ++ ys) i j ≡ slice_range xs i j = slice_in_front i j xs ys high in
    let after : drop j (xs ++ ys) ≡ drop j xs ++ ys = drop-append-le j xs ys high in
    rw (here, span, after) (sym (append_assoc (take i xs) (f (slice_range xs i j) ++ drop j xs) ys ∙ ap (λ t. take i xs ++ t) (append_assoc (f (slice_range xs i j)) (drop j xs) ys)))

-- a span of the second of two lines
slice_in_back : (i j : ℕ) (xs ys : List hb_glyph_info_t) → slice_range (xs ++ ys) (length xs + i) (length xs + j) ≡ slice_range ys i j
slice_in_back i j xs ys =
    let wide : (length xs + j) - (length xs + i) ≡ j - i = omega arith in
    ap (λ n. take n (drop (length xs + i) (xs ++ ys))) wide ∙ ap (take (j - i)) (drop-append-add xs ys i)

span_in_back : (f : List hb_glyph_info_t → List hb_glyph_info_t) (i j : ℕ) (xs ys : List hb_glyph_info_t) → on_span f (length xs + i) (length xs + j) (xs ++ ys) ≡ xs ++ on_span f i j ys
span_in_back f i j xs ys =
    rw (take-append-add xs ys i, slice_in_back i j xs ys, drop-append-add xs ys j) (append_assoc xs (take i ys) (f (slice_range ys i j) ++ drop j ys))

-- where the second of two lines has no glyph of a cluster in front, both have in front what the first one has
run_of_first : (c : ℕ) (xs ys : List hb_glyph_info_t) → run_of c ys ≡ 0 → run_of c (xs ++ ys) ≡ run_of c xs
run_of_first c xs ys none =
    length-prefix_len test (xs ++ ys) ∙ (prefix_len-append test xs ys ∙ (by_whole (prefix_len test xs == length xs) refl ∙ sym (length-prefix_len test xs)))
  where
    test : hb_glyph_info_t → Bool
    test g = g.cluster == c

    by_whole : (t : Bool) → (prefix_len test xs == length xs) ≡ t → cond t (length xs + prefix_len test ys) (prefix_len test xs) ≡ prefix_len test xs
    by_whole true is =
        let whole : prefix_len test xs ≡ length xs = grind (arith, nat_tests, is) in
        omega (arith, whole, sym (length-prefix_len (λ (g : hb_glyph_info_t). g.cluster == c) ys) ∙ none)
    by_whole false is = refl

-- no more glyphs stand before a place than there are places
run_before_low : (line : List hb_glyph_info_t) (p i c : ℕ) → run_before line p i c ≤ i
run_before_low line p i c = omega (arith, run_of_within c (reverse (slice_range line p i)), length-reverse (slice_range line p i), length-take (i - p) (drop p line))

-- Clusters of two sorts
module _ (P Q : ℕ → Type 0) (apart : (x : ℕ) → P x → Q x → ⊥) where
  -- a line of the one sort has none of the other in front
  no_run : (c : ℕ) (line : List hb_glyph_info_t) → P c → All (λ (g : hb_glyph_info_t). Q g.cluster) line → run_of c line ≡ 0
  no_run c [] is all = refl
  no_run c (g ∷ gs) is all =
      chosen (λ n. length (take n (g ∷ gs)) ≡ 0) (g.cluster == c) (1 + prefix_len (λ (h : hb_glyph_info_t). h.cluster == c) gs) 0
      (λ same. let at : g.cluster ≡ c = grind (arith, nat_tests, same) in absurd (apart c is (rw at at (all 0 no_glyph (omega arith)))))
      (λ _. refl)

  -- A line of the one, and behind it one of the other
  module _ (gs line : List hb_glyph_info_t) (others : All (λ (g : hb_glyph_info_t). Q g.cluster) gs) (here : All (λ (g : hb_glyph_info_t). P g.cluster) line) where
    cluster_in_front : (k : ℕ) → k < length line → cluster_at (line ++ gs) k ≡ cluster_at line k
    cluster_in_front k below = ap (λ (g : hb_glyph_info_t). g.cluster) (get_or_append_left line gs no_glyph k below)

    after_in_front : (j : ℕ) → 0 < j → j ≤ length line → run_after (line ++ gs) j (cluster_at line (j - 1)) ≡ run_after line j (cluster_at line (j - 1))
    after_in_front j some high =
        ap (run_of (cluster_at line (j - 1))) (drop-append-le j line gs high)
        ∙ run_of_first (cluster_at line (j - 1)) (drop j line) gs (no_run (cluster_at line (j - 1)) gs (here (j - 1) no_glyph (omega (arith, some, high))) others)

    merged_in_front : (p i j : ℕ) → i < j → j ≤ length line → merged (line ++ gs) p i j ≡ merged line p i j ++ gs
    unfolding merged
    merged_in_front p i j some high =
        let m = least_of (slice_range line i j) in
        let span : least_of (slice_range (line ++ gs) i j) ≡ m = ap least_of (slice_in_front i j line gs high) in
        let first : cluster_at (line ++ gs) i ≡ cluster_at line i = cluster_in_front i (omega (arith, some, high)) in
        let last : cluster_at (line ++ gs) (j - 1) ≡ cluster_at line (j - 1) = cluster_in_front (j - 1) (omega (arith, some, high)) in
        let before : slice_range (line ++ gs) p i ≡ slice_range line p i = slice_in_front p i line gs (omega (arith, some, high)) in
        let start : merge_start (line ++ gs) p i m ≡ merge_start line p i m = rw (first, before) refl in
        let end : merge_end (line ++ gs) j m ≡ merge_end line j m = rw last (ap (λ (n : ℕ). cond (not (cluster_at line (j - 1) == m)) (j + n) j) (after_in_front j (omega (arith, some)) high)) in
        ap (λ c. on_span (map (with_cluster c)) (merge_start (line ++ gs) p i c) (merge_end (line ++ gs) j c) (line ++ gs)) span
        ∙ (ap (λ s. on_span (map (with_cluster m)) s (merge_end (line ++ gs) j m) (line ++ gs)) start
        ∙ (ap (λ e. on_span (map (with_cluster m)) (merge_start line p i m) e (line ++ gs)) end
        ∙ span_in_front (map (with_cluster m)) (merge_start line p i m) (merge_end line j m) line gs
        (omega (arith, some, merge_start_low line p i m, merge_end_low line j m)) (merge_end_high line j m high)))

    merged_out_in_front : (i j : ℕ) → i < j → j ≤ length line → merged_out (line ++ gs) i j ≡ merged_out line i j ++ gs
    unfolding merged_out
    merged_out_in_front i j some high =
        let m = least_of (slice_range line i j) in
        let from = i - run_before line 0 i (cluster_at line i) in
        let to = j + run_after line j (cluster_at line (j - 1)) in
        let span : slice_range (line ++ gs) i j ≡ slice_range line i j = slice_in_front i j line gs high in
        let first : cluster_at (line ++ gs) i ≡ cluster_at line i = cluster_in_front i (omega (arith, some, high)) in
        let last : cluster_at (line ++ gs) (j - 1) ≡ cluster_at line (j - 1) = cluster_in_front (j - 1) (omega (arith, some, high)) in
        let before : slice_range (line ++ gs) 0 i ≡ slice_range line 0 i = slice_in_front 0 i line gs (omega (arith, some, high)) in
        let start : i - run_before (line ++ gs) 0 i (cluster_at (line ++ gs) i) ≡ from = rw (first, before) refl in
        let end : j + run_after (line ++ gs) j (cluster_at (line ++ gs) (j - 1)) ≡ to = rw last (ap (λ (n : ℕ). j + n) (after_in_front j (omega (arith, some)) high)) in
        ap (λ xs. on_span (map (with_cluster (least_of xs))) (i - run_before (line ++ gs) 0 i (cluster_at (line ++ gs) i)) (j + run_after (line ++ gs) j (cluster_at (line ++ gs) (j - 1))) (line ++ gs)) span
        ∙ (ap (λ s. on_span (map (with_cluster m)) s (j + run_after (line ++ gs) j (cluster_at (line ++ gs) (j - 1))) (line ++ gs)) start
        ∙ (ap (λ e. on_span (map (with_cluster m)) from e (line ++ gs)) end
        ∙ span_in_front (map (with_cluster m)) from to line gs (omega (arith, some))
        (omega (arith, high, run_of_within (cluster_at line (j - 1)) (drop j line), length-drop j line))))

  -- a merge in a line stays in it where glyphs of other clusters stand behind it
  pub merge_in_front : (gs : List hb_glyph_info_t) (b : Buffer) (i j : ℕ) → All (λ (g : hb_glyph_info_t). P g.cluster) b.line → All (λ (g : hb_glyph_info_t). Q g.cluster) gs → j ≤ length b.line
      → merge_clusters (followed_by gs b) i j ≡ followed_by gs (merge_clusters b i j)
  merge_in_front gs b i j here others high =
      let ends : min j (length (b.line ++ gs)) ≡ j = omega (arith, length-append b.line gs, high) in
      let end : min j (length b.line) ≡ j = omega (arith, high) in
      rw (ends, end) (ap (with_line b) (by_length (nat_le (i + 2) j) refl (clusters_stay_apart b.cluster_level)))
    where
      by_length : (t : Bool) → nat_le (i + 2) j ≡ t → (u : Bool)
          → cond t (cond u (on_span break_marked i j (b.line ++ gs)) (merged (b.line ++ gs) b.cursor i j)) (b.line ++ gs) ≡ cond t (cond u (on_span break_marked i j b.line) (merged b.line b.cursor i j)) b.line ++ gs
      by_length true is true = span_in_front break_marked i j b.line gs (grind (arith, nat_tests, is)) high
      by_length true is false = merged_in_front gs b.line others here b.cursor i j (grind (arith, nat_tests, is)) high
      by_length false is u = refl

  -- and a merge on both sides of the cursor
  pub merge_out_in_front : (gs : List hb_glyph_info_t) (b : Buffer) (i j : ℕ) → All (λ (g : hb_glyph_info_t). P g.cluster) b.line → All (λ (g : hb_glyph_info_t). Q g.cluster) gs → j ≤ length b.line
      → merge_out_clusters (followed_by gs b) i j ≡ followed_by gs (merge_out_clusters b i j)
  merge_out_in_front gs b i j here others high =
      let ends : min j (length (b.line ++ gs)) ≡ j = omega (arith, length-append b.line gs, high) in
      let end : min j (length b.line) ≡ j = omega (arith, high) in
      rw (ends, end) (ap (with_line b) (by_length (nat_le (i + 2) j) refl (not (clusters_stay_apart b.cluster_level))))
    where
      by_length : (t : Bool) → nat_le (i + 2) j ≡ t → (u : Bool) → cond (t && u) (merged_out (b.line ++ gs) i j) (b.line ++ gs) ≡ cond (t && u) (merged_out b.line i j) b.line ++ gs
      by_length true is true = merged_out_in_front gs b.line others here i j (grind (arith, nat_tests, is)) high
      by_length true is false = refl
      by_length false is u = refl

-- A line, and one before it
module _ (gs line : List hb_glyph_info_t) where
  cluster_in_back : (k : ℕ) → cluster_at (gs ++ line) (length gs + k) ≡ cluster_at line k
  cluster_in_back k = ap (λ (g : hb_glyph_info_t). g.cluster) (get_or-append-add gs line k no_glyph)

  last_in_back : (j : ℕ) → 0 < j → cluster_at (gs ++ line) (length gs + j - 1) ≡ cluster_at line (j - 1)
  last_in_back j some =
      let place : length gs + j - 1 ≡ length gs + (j - 1) = omega (arith, some) in
      ap (cluster_at (gs ++ line)) place ∙ cluster_in_back (j - 1)

  after_in_back : (j c : ℕ) → run_after (gs ++ line) (length gs + j) c ≡ run_after line j c
  after_in_back j c = ap (run_of c) (drop-append-add gs line j)

  -- the cursor stops the merge before it comes to the first line
  merged_in_back : (p i j : ℕ) → i < j → merged (gs ++ line) (length gs + p) (length gs + i) (length gs + j) ≡ gs ++ merged line p i j
  unfolding merged
  merged_in_back p i j some =
      let n = length gs in
      let m = least_of (slice_range line i j) in
      let span : least_of (slice_range (gs ++ line) (n + i) (n + j)) ≡ m = ap least_of (slice_in_back i j gs line) in
      let before : run_before (gs ++ line) (n + p) (n + i) (cluster_at line i) ≡ run_before line p i (cluster_at line i) = ap (λ xs. run_of (cluster_at line i) (reverse xs)) (slice_in_back p i gs line) in
      let later : nat_lt (n + p) (n + i) ≡ nat_lt p i = grind (arith, nat_tests) in
      let start : merge_start (gs ++ line) (n + p) (n + i) m ≡ n + merge_start line p i m =
      rw (cluster_in_back i, later, before) (by_start (not (cluster_at line i == m) && nat_lt p i)) in
      let end : merge_end (gs ++ line) (n + j) m ≡ n + merge_end line j m =
      rw (last_in_back j (omega (arith, some)), after_in_back j (cluster_at line (j - 1))) (by_end (not (cluster_at line (j - 1) == m)) (run_after line j (cluster_at line (j - 1)))) in
      ap (λ c. on_span (map (with_cluster c)) (merge_start (gs ++ line) (n + p) (n + i) c) (merge_end (gs ++ line) (n + j) c) (gs ++ line)) span
      ∙ (ap (λ s. on_span (map (with_cluster m)) s (merge_end (gs ++ line) (n + j) m) (gs ++ line)) start
      ∙ (ap (λ e. on_span (map (with_cluster m)) (n + merge_start line p i m) e (gs ++ line)) end
      ∙ span_in_back (map (with_cluster m)) (merge_start line p i m) (merge_end line j m) gs line))
    where
      by_start : (t : Bool) → cond t (length gs + i - run_before line p i (cluster_at line i)) (length gs + i) ≡ length gs + cond t (i - run_before line p i (cluster_at line i)) i
      by_start true = omega (arith, run_before_low line p i (cluster_at line i))
      by_start false = refl

      by_end : (t : Bool) (r : ℕ) → cond t (length gs + j + r) (length gs + j) ≡ length gs + cond t (j + r) j
      by_end true r = omega arith
      by_end false r = refl

-- a merge moves on with the places
pub merge_in_back : (gs : List hb_glyph_info_t) (z : ℤ) (b : Buffer) (i j : ℕ)
    → merge_clusters (moved_on gs z b) (length gs + i) (length gs + j) ≡ moved_on gs z (merge_clusters b i j)
merge_in_back gs z b i j =
    let e = min j (length b.line) in
    let ends : min (length gs + j) (length (gs ++ b.line)) ≡ length gs + e = omega (arith, length-append gs b.line) in
    let long : nat_le (length gs + i + 2) (length gs + e) ≡ nat_le (i + 2) e = grind (arith, nat_tests) in
    rw (ends, long) (ap (λ (line : List hb_glyph_info_t). record (moved_on gs z b) { line = line }) (by_length (nat_le (i + 2) e) refl (clusters_stay_apart b.cluster_level)))
  where
    by_length : (t : Bool) → nat_le (i + 2) (min j (length b.line)) ≡ t → (u : Bool)
        → cond t (cond u (on_span break_marked (length gs + i) (length gs + min j (length b.line)) (gs ++ b.line)) (merged (gs ++ b.line) (length gs + b.cursor) (length gs + i) (length gs + min j (length b.line)))) (gs ++ b.line)
        ≡ gs ++ cond t (cond u (on_span break_marked i (min j (length b.line)) b.line) (merged b.line b.cursor i (min j (length b.line)))) b.line
    by_length true is true = span_in_back break_marked i (min j (length b.line)) gs b.line
    by_length true is false = merged_in_back gs b.line b.cursor i (min j (length b.line)) (grind (arith, nat_tests, is))
    by_length false is u = refl

-- and one on both sides of the cursor, where glyphs of other clusters stand before the line
module _ (P Q : ℕ → Type 0) (apart : (x : ℕ) → P x → Q x → ⊥) where
  before_in_back : (gs line : List hb_glyph_info_t) (i : ℕ) → All (λ (g : hb_glyph_info_t). P g.cluster) gs → All (λ (g : hb_glyph_info_t). Q g.cluster) line → i < length line
      → run_before (gs ++ line) 0 (length gs + i) (cluster_at line i) ≡ run_before line 0 i (cluster_at line i)
  before_in_back gs line i others here within =
      let c = cluster_at line i in
      let none : run_of c (reverse gs) ≡ 0 =
      no_run Q P (λ x q p. apart x p q) c (reverse gs) (here i no_glyph within) (All-permutation (λ (g : hb_glyph_info_t). P g.cluster) gs (reverse gs) (IsPermutation-reverse gs) others) in
      let wide : length gs + i - 0 ≡ length gs + (i - 0) = omega arith in
      ap (λ k. run_of c (reverse (take k (gs ++ line)))) wide
      ∙ (ap (λ xs. run_of c (reverse xs)) (take-append-add gs line (i - 0))
      ∙ (ap (run_of c) (reverse-append gs (take (i - 0) line)) ∙ run_of_first c (reverse (take (i - 0) line)) (reverse gs) none))

  merged_out_in_back : (gs line : List hb_glyph_info_t) (i j : ℕ) → All (λ (g : hb_glyph_info_t). P g.cluster) gs → All (λ (g : hb_glyph_info_t). Q g.cluster) line → i < j → j ≤ length line
      → merged_out (gs ++ line) (length gs + i) (length gs + j) ≡ gs ++ merged_out line i j
  unfolding merged_out
  merged_out_in_back gs line i j others here some high =
      let n = length gs in
      let m = least_of (slice_range line i j) in
      let from = i - run_before line 0 i (cluster_at line i) in
      let to = j + run_after line j (cluster_at line (j - 1)) in
      let whole_start = n + i - run_before (gs ++ line) 0 (n + i) (cluster_at (gs ++ line) (n + i)) in
      let whole_end = n + j + run_after (gs ++ line) (n + j) (cluster_at (gs ++ line) (n + j - 1)) in
      let span : slice_range (gs ++ line) (n + i) (n + j) ≡ slice_range line i j = slice_in_back i j gs line in
      let run = run_before_low line 0 i (cluster_at line i) in
      let start : whole_start ≡ n + from = rw (cluster_in_back gs line i, before_in_back gs line i others here (omega (arith, some, high))) (omega (arith, run)) in
      let end : whole_end ≡ n + to = rw (last_in_back gs line j (omega (arith, some)), after_in_back gs line j (cluster_at line (j - 1))) (omega arith) in
      ap (λ xs. on_span (map (with_cluster (least_of xs))) whole_start whole_end (gs ++ line)) span
      ∙ (ap (λ s. on_span (map (with_cluster m)) s whole_end (gs ++ line)) start
      ∙ (ap (λ e. on_span (map (with_cluster m)) (n + from) e (gs ++ line)) end
      ∙ span_in_back (map (with_cluster m)) from to gs line))

  pub merge_out_in_back : (gs : List hb_glyph_info_t) (z : ℤ) (b : Buffer) (i j : ℕ) → All (λ (g : hb_glyph_info_t). P g.cluster) gs → All (λ (g : hb_glyph_info_t). Q g.cluster) b.line
      → merge_out_clusters (moved_on gs z b) (length gs + i) (length gs + j) ≡ moved_on gs z (merge_out_clusters b i j)
  merge_out_in_back gs z b i j others here =
      let e = min j (length b.line) in
      let ends : min (length gs + j) (length (gs ++ b.line)) ≡ length gs + e = omega (arith, length-append gs b.line) in
      let long : nat_le (length gs + i + 2) (length gs + e) ≡ nat_le (i + 2) e = grind (arith, nat_tests) in
      rw (ends, long) (ap (λ (line : List hb_glyph_info_t). record (moved_on gs z b) { line = line }) (by_length (nat_le (i + 2) e) refl (not (clusters_stay_apart b.cluster_level))))
    where
      by_length : (t : Bool) → nat_le (i + 2) (min j (length b.line)) ≡ t → (u : Bool)
          → cond (t && u) (merged_out (gs ++ b.line) (length gs + i) (length gs + min j (length b.line))) (gs ++ b.line) ≡ gs ++ cond (t && u) (merged_out b.line i (min j (length b.line))) b.line
      by_length true is true = merged_out_in_back gs b.line i (min j (length b.line)) others here (grind (arith, nat_tests, is)) (omega arith)
      by_length true is false = refl
      by_length false is u = refl
