-- Merges in a line in order open no cluster.
use Rattle.std.proofs.Common.{◌≡◌, ◌≢◌, ◌∙◌, ◌⊎◌, inl, inr, ℕ, ◌+◌, ◌-◌, ◌<◌, ◌≤◌, ◌==◌, ◌&&◌, not, Bool, true, false, cond, List, length, drop, map, min, nat_le, nat_lt, Some, refl, ap, sym, arith, get_or, length-drop}
use Rattle.std.proofs.lemmas.Bool.{cases_eq, cases_lt}
use Rattle.std.proofs.lemmas.Bool.Decides.{nat_tests}
use Rattle.std.proofs.lemmas.List.{get_or-drop, get_or-reverse, get_or-take, length-reverse}
use Rattle.std.proofs.lemmas.List.Folds.{length-prefix_len}
use Rattle.std.proofs.lemmas.List.Sums.{prefix_len-le-length, prefix_len_passes, prefix_len_stops}
use Rattle.std.specs.List.{prefix_len}
use Rattle.std.specs.Prelude.{reverse, slice_range}
use Rattle.aat_buffer.specs.Buffer.{Buffer, glyph_at, no_glyph}
use Rattle.aat_buffer.specs.Clusters.{IsFallingLine, IsOrdered, IsRisingLine}
use Rattle.aat_buffer.specs.Marks.{break_marked, cluster_at, clusters_stay_apart, least_of, merge_clusters, merge_end, merge_out_clusters, merge_start, merged, merged_out, on_span, run_after, run_before, run_of, with_cluster}
use Rattle.aat_buffer.specs.facts.Cases.{chosen}
use Rattle.aat_buffer.specs.facts.Clusters.{StandsWithin, cluster_set, get_before, get_behind, get_inside, least_within, length_on_span_of}
use Rattle.aat_buffer.specs.facts.Lines.{length_slice, merge_end_high, merge_end_low, run_of_within}
use Rattle.aat_glyph.specs.declared.glyph.hb_glyph_info_t.{hb_glyph_info_t}
use Rattle.aat_cut_kinds.specs.Greater.{IsUnflagged}
use Rattle.aat_cut_kinds.specs.Open.{is_open}
use Rattle.aat_cut_kinds.specs.facts.Opens.{IsOpenLine, along, is_opened, opened, unsafe_open}
use Rattle.aat_cut_kinds.specs.facts.SpanFlags.{least_of_span}

-- a glyph of the cluster keeps it
stays : (m : ℕ) (g : hb_glyph_info_t) → g.cluster ≡ m → with_cluster m g ≡ g
stays m g same = chosen (λ (x : hb_glyph_info_t). x ≡ g) (g.cluster == m) g _ (λ _. refl) (λ other. absurd (grind (arith, nat_tests, other, same)))

-- A span of a line gets the cluster m, which stands on the line. A cluster c that is both within the span and outside it is m.
module _ (c m s e w : ℕ) (line : List hb_glyph_info_t) (low : s ≤ e) (high : e ≤ length line) (stands : w < length line) (is_m : m ≡ cluster_at line w)
    (apart : (k p : ℕ) → s ≤ k → k < e → p < length line → (p < s) ⊎ (e ≤ p) → cluster_at line k ≡ c → cluster_at line p ≡ c → c ≡ m)
  where
    new : List hb_glyph_info_t
    new = on_span (map (with_cluster m)) s e line

    long : length new ≡ length line
    unfolding new
    long = length_on_span_of (with_cluster m) s e line low high

    outside : (k : ℕ) → (k < s) ⊎ (e ≤ k) → glyph_at new k ≡ glyph_at line k
    unfolding new
    outside k (inl before) = get_before (with_cluster m) s e line low high k no_glyph before
    outside k (inr behind) = get_behind (with_cluster m) s e line low high k no_glyph behind

    inside : (k : ℕ) → s ≤ k → k < e → glyph_at new k ≡ with_cluster m (glyph_at line k)
    unfolding new
    inside k from to = get_inside (with_cluster m) s e line low high k no_glyph from to

    -- a glyph of that cluster is as it was
    same_glyph : (k : ℕ) → cluster_at line k ≡ m → glyph_at new k ≡ glyph_at line k
    same_glyph k is = by_place (cases_lt k s) (cases_lt k e)
      where
        by_place : ((k < s) ⊎ (s ≤ k)) → ((k < e) ⊎ (e ≤ k)) → glyph_at new k ≡ glyph_at line k
        by_place (inl a) b = outside k (inl a)
        by_place (inr a) (inl b) = inside k a b ∙ stays m (glyph_at line k) is
        by_place (inr a) (inr b) = outside k (inr b)

    -- a place of another cluster is outside
    other_outside : (k : ℕ) → cluster_at new k ≢ m → (k < s) ⊎ (e ≤ k)
    other_outside k other = by_place (cases_lt k s) (cases_lt k e)
      where
        by_place : ((k < s) ⊎ (s ≤ k)) → ((k < e) ⊎ (e ≤ k)) → (k < s) ⊎ (e ≤ k)
        by_place (inl a) b = inl a
        by_place (inr a) (inl b) = absurd (other (ap (λ (g : hb_glyph_info_t). g.cluster) (inside k a b) ∙ cluster_set m (glyph_at line k)))
        by_place (inr a) (inr b) = inr b

    -- a cluster that is open behind it was open before
    unspread : IsOpenLine c new → IsOpenLine c line
    unspread o = by_cluster (cases_eq c m)
      where
        cluster : hb_glyph_info_t → ℕ
        cluster g = g.cluster

        by_cluster : ((c ≡ m) ⊎ (c ≢ m)) → IsOpenLine c line
        by_cluster (inl is) =
            record {
              place = w;
              inside = stands;
              at = sym is_m ∙ sym is;
              unflagged = λ k within at.
                  let same : glyph_at new k ≡ glyph_at line k = same_glyph k (at ∙ is) in
                  rw same at (o.unflagged k (omega (arith, long, within)) (ap cluster same ∙ at));
            }
        by_cluster (inr other) =
            let within_new = o.inside in
            let within : o.place < length line = omega (arith, long, within_new) in
            let side : (o.place < s) ⊎ (e ≤ o.place) = other_outside o.place (λ is. other (sym o.at ∙ is)) in
            let at : cluster_at line o.place ≡ c = sym (ap cluster (outside o.place side)) ∙ o.at in
            record {
              place = o.place;
              inside = within;
              at = at;
              unflagged = λ k below is. by_place o.place within side at k below is (cases_lt k s) (cases_lt k e);
            }
          where
            by_place : (p : ℕ) → p < length line → (p < s) ⊎ (e ≤ p) → cluster_at line p ≡ c → (k : ℕ) → k < length line → cluster_at line k ≡ c → ((k < s) ⊎ (s ≤ k)) → ((k < e) ⊎ (e ≤ k)) → IsUnflagged (glyph_at line k)
            by_place p within side at k below is (inl a) b = rw (outside k (inl a)) at (o.unflagged k (omega (arith, long, below)) (ap cluster (outside k (inl a)) ∙ is))
            by_place p within side at k below is (inr a) (inl b) = absurd (other (apart k p a b within side is at))
            by_place p within side at k below is (inr a) (inr b) = rw (outside k (inr b)) at (o.unflagged k (omega (arith, long, below)) (ap cluster (outside k (inr b)) ∙ is))

    pub spread_open : is_open c (on_span (map (with_cluster m)) s e line) ≡ true → is_open c line ≡ true
    unfolding new
    spread_open is = is_opened c line (unspread (opened c (on_span (map (with_cluster m)) s e line) is))

-- how many glyphs in front have a cluster, as a count
run_is : (c : ℕ) (gs : List hb_glyph_info_t) → run_of c gs ≡ prefix_len (λ g. g.cluster == c) gs
run_is c gs = length-prefix_len (λ (g : hb_glyph_info_t). g.cluster == c) gs

-- where a span has grown at its end, the next glyph has another cluster than its last one
grown_end : (line : List hb_glyph_info_t) (j : ℕ) → 0 < j → j ≤ length line
    → j + run_after line j (cluster_at line (j - 1)) < length line → cluster_at line (j + run_after line j (cluster_at line (j - 1)) - 1) ≢ cluster_at line (j + run_after line j (cluster_at line (j - 1)))
grown_end line j some high within is = next within (sym is ∙ by_run (cases_eq r 0))
  where
    c : ℕ
    c = cluster_at line (j - 1)

    test : hb_glyph_info_t → Bool
    test g = g.cluster == c

    r : ℕ
    r = run_after line j c

    count : r ≡ prefix_len test (drop j line)
    count = run_is c (drop j line)

    by_run : ((r ≡ 0) ⊎ (r ≢ 0)) → cluster_at line (j + r - 1) ≡ c
    by_run (inl none) = let place : j + r - 1 ≡ j - 1 = omega (arith, none) in ap (λ n. cluster_at line n) place
    by_run (inr more) =
        let passes : (get_or (drop j line) (r - 1) no_glyph).cluster == cluster_at line (j - 1) ≡ true = prefix_len_passes test (drop j line) (r - 1) no_glyph (omega (arith, count, more)) in
        let read : get_or (drop j line) (r - 1) no_glyph ≡ get_or line (j + (r - 1)) no_glyph = get_or-drop j line (r - 1) no_glyph in
        let place : j + (r - 1) ≡ j + r - 1 = omega (arith, more) in
        let is : (get_or (drop j line) (r - 1) no_glyph).cluster ≡ cluster_at line (j - 1) = grind (arith, nat_tests, passes) in
        sym (ap (λ (g : hb_glyph_info_t). g.cluster) (read ∙ ap (λ n. get_or line n no_glyph) place)) ∙ is

    next : j + r < length line → cluster_at line (j + r) ≢ c
    next within is =
        let stops : (get_or (drop j line) (prefix_len test (drop j line)) no_glyph).cluster == cluster_at line (j - 1) ≡ false = prefix_len_stops test (drop j line) no_glyph (omega (arith, count, within, length-drop j line)) in
        let read : get_or (drop j line) (prefix_len test (drop j line)) no_glyph ≡ get_or line (j + r) no_glyph = ap (λ n. get_or (drop j line) n no_glyph) (sym count) ∙ get_or-drop j line r no_glyph in
        let same : (get_or (drop j line) (prefix_len test (drop j line)) no_glyph).cluster ≡ cluster_at line (j - 1) = ap (λ (g : hb_glyph_info_t). g.cluster) read ∙ is in
        absurd (grind (arith, nat_tests, stops, same))

-- and where at its start, the glyph before it another one than its first one
grown_start : (line : List hb_glyph_info_t) (i : ℕ) → i ≤ length line
    → 0 < i - run_before line 0 i (cluster_at line i) → cluster_at line (i - run_before line 0 i (cluster_at line i) - 1) ≢ cluster_at line (i - run_before line 0 i (cluster_at line i))
grown_start line i high some is = next some (is ∙ by_run (cases_eq r 0))
  where
    c : ℕ
    c = cluster_at line i

    test : hb_glyph_info_t → Bool
    test g = g.cluster == c

    before : List hb_glyph_info_t
    before = slice_range line 0 i

    r : ℕ
    r = run_before line 0 i c

    count : r ≡ prefix_len test (reverse before)
    count = run_is c (reverse (slice_range line 0 i))

    long : length before ≡ i
    long = omega (arith, length_slice 0 i line (omega arith) high)

    most : r ≤ i
    most = omega (arith, count, prefix_len-le-length test (reverse before), length-reverse before, long)

    -- the glyph at place k from behind
    read : (k : ℕ) → k < i → get_or (reverse before) k no_glyph ≡ get_or line (i - 1 - k) no_glyph
    read k below =
        let turned = get_or-reverse before k no_glyph (omega (arith, long, below)) in
        let place : length before - 1 - k ≡ i - 1 - k = omega (arith, long) in
        turned ∙ (ap (λ n. get_or before n no_glyph) place ∙ get_or-take (i - 0) line (i - 1 - k) no_glyph (omega (arith, below)))

    by_run : ((r ≡ 0) ⊎ (r ≢ 0)) → cluster_at line (i - r) ≡ c
    by_run (inl none) = let place : i - r ≡ i = omega (arith, none) in ap (λ n. cluster_at line n) place
    by_run (inr more) =
        let passes : (get_or (reverse before) (r - 1) no_glyph).cluster == cluster_at line i ≡ true = prefix_len_passes test (reverse before) (r - 1) no_glyph (omega (arith, count, more)) in
        let place : i - 1 - (r - 1) ≡ i - r = omega (arith, more, most) in
        let is : (get_or (reverse before) (r - 1) no_glyph).cluster ≡ cluster_at line i = grind (arith, nat_tests, passes) in
        sym (ap (λ (g : hb_glyph_info_t). g.cluster) (read (r - 1) (omega (arith, more, most)) ∙ ap (λ n. get_or line n no_glyph) place)) ∙ is

    next : 0 < i - r → cluster_at line (i - r - 1) ≢ c
    next some is =
        let n : ℕ = prefix_len test (reverse before) in
        let stops : (get_or (reverse before) n no_glyph).cluster == cluster_at line i ≡ false = prefix_len_stops test (reverse before) no_glyph (omega (arith, count, some, length-reverse before, long)) in
        let place : i - 1 - n ≡ i - r - 1 = omega (arith, count) in
        let same : (get_or (reverse before) n no_glyph).cluster ≡ cluster_at line i = ap (λ (g : hb_glyph_info_t). g.cluster) (read n (omega (arith, count, some)) ∙ ap (λ k. get_or line k no_glyph) place) ∙ is in
        absurd (grind (arith, nat_tests, stops, same))

-- A line in an order
module _ (R : ℕ → ℕ → Type 0) (same : (x : ℕ) → R x x) (one : (x y : ℕ) → R x y → R y x → x ≡ y) (line : List hb_glyph_info_t) (ordered : IsOrdered R line) where
  -- what stands between two glyphs of a cluster has it
  between : (c k n p : ℕ) → k ≤ n → n ≤ p → p < length line → cluster_at line k ≡ c → cluster_at line p ≡ c → cluster_at line n ≡ c
  between c k n p from to within first last =
      one (cluster_at line n) c (rw last at (along R same line ordered n p to within)) (rw first at (along R same line ordered k n from (omega (arith, to, within))))

  -- no cluster stands on both sides of a place where clusters differ
  on_one_side : (c k n p : ℕ) → k < n → n ≤ p → p < length line → cluster_at line (n - 1) ≢ cluster_at line n → cluster_at line k ≡ c → cluster_at line p ≡ c → ⊥
  on_one_side c k n p before behind within differ first last =
      differ (between c k (n - 1) p (omega (arith, before)) (omega (arith, behind)) within first last ∙ sym (between c k n p (omega (arith, before)) behind within first last))

  merged_out_open : (c i j : ℕ) → i < j → j ≤ length line → is_open c (merged_out line i j) ≡ true → is_open c line ≡ true
  unfolding merged_out
  merged_out_open c i j some high =
      let m = least_of (slice_range line i j) in
      let least = least_within line i j some high in
      let s = i - run_before line 0 i (cluster_at line i) in
      let e = j + run_after line j (cluster_at line (j - 1)) in
      let within : e ≤ length line = omega (arith, high, run_of_within (cluster_at line (j - 1)) (drop j line), length-drop j line) in
      let to = least.to in
      spread_open c m s e least.place line (omega (arith, some)) within (omega (arith, to, high)) least.is
      (λ k p from below inside side at_k at_p.
      absurd (by_side s e within (grown_start line i (omega (arith, some, high))) (grown_end line j (omega (arith, some)) high) k p from below inside side at_k at_p))
    where
      by_side : (s e : ℕ) → e ≤ length line → (0 < s → cluster_at line (s - 1) ≢ cluster_at line s) → (e < length line → cluster_at line (e - 1) ≢ cluster_at line e)
          → (k p : ℕ) → s ≤ k → k < e → p < length line → (p < s) ⊎ (e ≤ p) → cluster_at line k ≡ c → cluster_at line p ≡ c → ⊥
      by_side s e within before behind k p from below inside (inl ahead) at_k at_p = on_one_side c p s k ahead from (omega (arith, below, within)) (before (omega (arith, ahead))) at_p at_k
      by_side s e within before behind k p from below inside (inr beyond) at_k at_p = on_one_side c k e p below beyond inside (behind (omega (arith, beyond, inside))) at_k at_p

-- a merge on both sides of the cursor, in a line in an order
module _ (R : ℕ → ℕ → Type 0) (same : (x : ℕ) → R x x) (one : (x y : ℕ) → R x y → R y x → x ≡ y) where
  ordered_merge_out : (c : ℕ) (b : Buffer) (i j : ℕ) → IsOrdered R b.line → is_open c (merge_out_clusters b i j).line ≡ true → is_open c b.line ≡ true
  ordered_merge_out c b i j ordered =
      let e = min j (length b.line) in
      chosen (λ (gs : List hb_glyph_info_t). is_open c gs ≡ true → is_open c b.line ≡ true) (nat_le (i + 2) e && not (clusters_stay_apart b.cluster_level)) (merged_out b.line i e) b.line
      (λ long. let some : i < e = grind (arith, nat_tests, long) in merged_out_open R same one b.line ordered c i e some (omega arith))
      (λ _ is. is)

-- a merge on both sides of the cursor opens no cluster of a line that rises, nor of one that falls
pub merge_out_open_rising : (c : ℕ) (b : Buffer) (i j : ℕ) → IsRisingLine b.line → is_open c (merge_out_clusters b i j).line ≡ true → is_open c b.line ≡ true
merge_out_open_rising c b i j = ordered_merge_out (λ x y. x ≤ y) (λ x. omega arith) (λ x y up down. omega (arith, up, down)) c b i j

pub merge_out_open_falling : (c : ℕ) (b : Buffer) (i j : ℕ) → IsFallingLine b.line → is_open c (merge_out_clusters b i j).line ≡ true → is_open c b.line ≡ true
merge_out_open_falling c b i j = ordered_merge_out (λ x y. y ≤ x) (λ x. omega arith) (λ x y up down. omega (arith, up, down)) c b i j

-- Where a line rises, a span begins with its least cluster: a merge does not grow at its start, so the cursor stops nothing.
module _ (line : List hb_glyph_info_t) (rising : IsRisingLine line) where
  rises : (k n : ℕ) → k ≤ n → n < length line → cluster_at line k ≤ cluster_at line n
  rises = along (λ x y. x ≤ y) (λ x. omega arith) line rising

  merged_open : (c p i j : ℕ) → i < j → j ≤ length line → is_open c (merged line p i j) ≡ true → is_open c line ≡ true
  unfolding merged
  merged_open c p i j some high is =
      let to = least.to in
      spread_open c m i e least.place line (omega (arith, some, merge_end_low line j m)) (merge_end_high line j m high) (omega (arith, to, high)) least.is apart
      (ap (λ s. is_open c (on_span (map (with_cluster m)) s e line)) (sym start) ∙ is)
    where
      m : ℕ
      m = least_of (slice_range line i j)

      e : ℕ
      e = merge_end line j m

      least : StandsWithin line i j m
      least = least_within line i j some high

      first : cluster_at line i ≡ m
      first =
          let from = least.from in
          let to = least.to in
          let is_least = least.is in
          let up = rises i least.place from (omega (arith, to, high)) in
          omega (arith, least_of_span i j i line (omega arith) some high, up, is_least)

      start : merge_start line p i m ≡ i
      start = chosen (λ (n : ℕ). n ≡ i) (not (cluster_at line i == m) && nat_lt p i) (i - run_before line p i (cluster_at line i)) i (λ yes. absurd (let at = first in grind (arith, nat_tests, yes, at))) (λ _. refl)

      -- what stands in the span and behind it is the least
      behind : (k q : ℕ) → i ≤ k → k < e → e ≤ q → q < length line → cluster_at line k ≡ c → cluster_at line q ≡ c → c ≡ m
      behind =
          chosen (λ (n : ℕ). (k q : ℕ) → i ≤ k → k < n → n ≤ q → q < length line → cluster_at line k ≡ c → cluster_at line q ≡ c → c ≡ m)
          (not (cluster_at line (j - 1) == m)) (j + run_after line j (cluster_at line (j - 1))) j
          (λ _ k q from below beyond inside at_k at_q.
          absurd (on_one_side (λ x y. x ≤ y) (λ x. omega arith) (λ x y up down. omega (arith, up, down)) line rising c k (j + run_after line j (cluster_at line (j - 1))) q below beyond inside
          (grown_end line j (omega (arith, some)) high (omega (arith, beyond, inside))) at_k at_q))
          (λ ends k q from below beyond inside at_k at_q.
          let last : cluster_at line (j - 1) ≡ m = grind (arith, nat_tests, ends) in
          let low = rises i k from (omega (arith, below, high)) in
          let up = rises k (j - 1) (omega (arith, below)) (omega (arith, some, high)) in
          let at = first in
          omega (arith, last, low, up, at, at_k))

      apart : (k q : ℕ) → i ≤ k → k < e → q < length line → (q < i) ⊎ (e ≤ q) → cluster_at line k ≡ c → cluster_at line q ≡ c → c ≡ m
      apart k q from below inside (inl ahead) at_k at_q =
          let low = rises q i (omega (arith, ahead)) (omega (arith, some, high)) in
          let up = rises i k from (omega (arith, below, inside, merge_end_high line j m high)) in
          let at = first in
          omega (arith, low, up, at, at_k, at_q)
      apart k q from below inside (inr beyond) at_k at_q = behind k q from below beyond inside at_k at_q

-- a merge opens no cluster of a line that rises; one that stops at the cursor may in a line that falls
pub merge_open_rising : (c : ℕ) (b : Buffer) (i j : ℕ) → IsRisingLine b.line → is_open c (merge_clusters b i j).line ≡ true → is_open c b.line ≡ true
merge_open_rising c b i j rising =
    let e = min j (length b.line) in
    chosen (λ (gs : List hb_glyph_info_t). is_open c gs ≡ true → is_open c b.line ≡ true) (nat_le (i + 2) e) (cond (clusters_stay_apart b.cluster_level) (on_span break_marked i e b.line) (merged b.line b.cursor i e)) b.line
    (λ long.
    let some : i < e = grind (arith, nat_tests, long) in
    chosen (λ (gs : List hb_glyph_info_t). is_open c gs ≡ true → is_open c b.line ≡ true) (clusters_stay_apart b.cluster_level) (on_span break_marked i e b.line) (merged b.line b.cursor i e)
    (λ _ is. unsafe_open c b (Some i) (Some j) (rw long is))
    (λ _. merged_open b.line rising c b.cursor i e some (omega arith)))
    (λ _ is. is)
