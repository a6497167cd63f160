-- Clusters in order along a line, and what merges leave of it.
use Rattle.std.proofs.Common.{◌≡◌, ◌⊎◌, inl, inr, ℕ, suc, ◌+◌, ◌-◌, ◌<◌, ◌≤◌, ◌&&◌, ◌==◌, not, cond, min, List, [], ◌∷◌, ◌++◌, length, take, drop, map, get_or, refl, sym, ap, ◌∙◌, arith, length-take, length-drop, nat_le}
use Rattle.std.proofs.lemmas.Bool.{cases_lt}
use Rattle.std.proofs.lemmas.Bool.Decides.{nat_tests}
use Rattle.std.proofs.lemmas.List.{length-map, map-append, take-append-drop, drop-drop, get_or_default, get_or_append_left, get_or-append_right, get_or-take, get_or-drop, get_or-map}
use Rattle.std.specs.Prelude.{slice_range, fold}
use Rattle.aat_buffer.specs.Buffer.{Buffer, no_glyph}
use Rattle.aat_buffer.specs.Marks.{clusters_stay_apart, on_span, break_marked, with_cluster, merged, merged_out, merge_start, merge_end, run_after, run_before, least_of, cluster_at, merge_clusters, merge_out_clusters}
use Rattle.aat_glyph.specs.declared.glyph.hb_glyph_info_t.{hb_glyph_info_t}
use Rattle.aat_buffer.specs.Clusters.{ClustersMerge, IsOrdered}
use Rattle.aat_buffer.specs.facts.Cases.{chosen}
use Rattle.aat_buffer.specs.facts.Lines.{length_slice, length_on_span, run_of_within, merge_end_low, merge_end_high, merge_start_low}

-- a line is what lies before a span, the span, and what lies behind it
pub three_parts : {X : Type 0} (i j : ℕ) (xs : List X) → i ≤ j → take i xs ++ (slice_range xs i j ++ drop j xs) ≡ xs
three_parts i j xs low =
    let behind : drop (j - i) (drop i xs) ≡ drop j xs = drop-drop (j - i) i xs ∙ ap (λ n. drop n xs) (let e : i + (j - i) ≡ j = omega arith in e) in
    let rest : slice_range xs i j ++ drop j xs ≡ drop i xs = ap (λ ys. slice_range xs i j ++ ys) (sym behind) ∙ take-append-drop (j - i) (drop i xs) in
    ap (λ ys. take i xs ++ ys) rest ∙ take-append-drop i xs

map_map : {A : Type 0} (h : hb_glyph_info_t → A) (f : hb_glyph_info_t → hb_glyph_info_t) → ((g : hb_glyph_info_t) → h (f g) ≡ h g) → (gs : List hb_glyph_info_t) → map h (map f gs) ≡ map h gs
map_map h f same [] = refl
map_map h f same (g ∷ gs) = ap (λ x. x ∷ map h (map f gs)) (same g) ∙ ap (λ xs. h g ∷ xs) (map_map h f same gs)

-- what a function of a glyph does not see, a line of such answers does not see
pub map_span : {A : Type 0} (h : hb_glyph_info_t → A) (f : hb_glyph_info_t → hb_glyph_info_t) → ((g : hb_glyph_info_t) → h (f g) ≡ h g) → (i j : ℕ) (gs : List hb_glyph_info_t) → i ≤ j → map h (on_span (map f) i j gs) ≡ map h gs
map_span h f same i j gs low =
    let a = take i gs in
    let s = slice_range gs i j in
    let d = drop j gs in
    let left : map h (a ++ (map f s ++ d)) ≡ map h a ++ (map h (map f s) ++ map h d) = map-append h a (map f s ++ d) ∙ ap (λ xs. map h a ++ xs) (map-append h (map f s) d) in
    let right : map h (a ++ (s ++ d)) ≡ map h a ++ (map h s ++ map h d) = map-append h a (s ++ d) ∙ ap (λ xs. map h a ++ xs) (map-append h s d) in
    left ∙ (ap (λ xs. map h a ++ (xs ++ map h d)) (map_map h f same s) ∙ (sym right ∙ ap (map h) (three_parts i j gs low)))

-- setting a cluster sets it
pub cluster_set : (c : ℕ) (g : hb_glyph_info_t) → (with_cluster c g).cluster ≡ c
cluster_set c g = chosen (λ (x : hb_glyph_info_t). x.cluster ≡ c) (g.cluster == c) g _ (λ same. grind (arith, nat_tests, same)) (λ _. refl)

-- the clusters behind a change of a span
module _ (f : hb_glyph_info_t → hb_glyph_info_t) (i j : ℕ) (gs : List hb_glyph_info_t) (low : i ≤ j) (high : j ≤ length gs) where
  length_front : length (take i gs) ≡ i
  length_front = length-take i gs ∙ omega arith

  length_middle : length (map f (slice_range gs i j)) ≡ j - i
  length_middle = length-map (slice_range gs i j) f ∙ length_slice i j gs low high

  pub get_before : (k : ℕ) (d : hb_glyph_info_t) → k < i → get_or (on_span (map f) i j gs) k d ≡ get_or gs k d
  get_before k d before =
      get_or_append_left (take i gs) (map f (slice_range gs i j) ++ drop j gs) d k (omega (arith, length_front, before)) ∙ get_or-take i gs k d before

  pub get_inside : (k : ℕ) (d : hb_glyph_info_t) → i ≤ k → k < j → get_or (on_span (map f) i j gs) k d ≡ f (get_or gs k d)
  get_inside k d from to =
      let within : k - i < length (slice_range gs i j) = omega (arith, length_slice i j gs low high, from, to) in
      let e : i + (k - i) ≡ k = omega (arith, from) in
      let read : get_or (slice_range gs i j) (k - i) d ≡ get_or gs k d =
      get_or-take (j - i) (drop i gs) (k - i) d (omega (arith, from, to)) ∙ (get_or-drop i gs (k - i) d ∙ ap (λ n. get_or gs n d) e) in
      get_or-append_right (take i gs) (map f (slice_range gs i j) ++ drop j gs) i k d length_front from
      ∙ (get_or_append_left (map f (slice_range gs i j)) (drop j gs) d (k - i) (omega (arith, length_middle, from, to))
      ∙ (get_or-map f (slice_range gs i j) (k - i) d d within ∙ ap f read))

  pub get_behind : (k : ℕ) (d : hb_glyph_info_t) → j ≤ k → get_or (on_span (map f) i j gs) k d ≡ get_or gs k d
  get_behind k d from =
      let e : j + (k - i - (j - i)) ≡ k = omega (arith, low, from) in
      get_or-append_right (take i gs) (map f (slice_range gs i j) ++ drop j gs) i k d length_front (omega (arith, low, from))
      ∙ (get_or-append_right (map f (slice_range gs i j)) (drop j gs) (j - i) (k - i) d length_middle (omega (arith, low, from))
      ∙ (get_or-drop j gs (k - i - (j - i)) d ∙ ap (λ n. get_or gs n d) e))

pub length_on_span_of : (f : hb_glyph_info_t → hb_glyph_info_t) (i j : ℕ) (gs : List hb_glyph_info_t) → i ≤ j → j ≤ length gs → length (on_span (map f) i j gs) ≡ length gs
length_on_span_of f i j gs low high = length_on_span (map f) i j gs (λ xs. length-map xs f) low high

-- where a least cluster stands
record StandsOn (gs : List hb_glyph_info_t) (c : ℕ) : Type 0 where
  place : ℕ
  within : place < length gs
  is : c ≡ cluster_at gs place

stands_behind : (g : hb_glyph_info_t) (gs : List hb_glyph_info_t) (c : ℕ) → StandsOn gs c → StandsOn (g ∷ gs) c
stands_behind g gs c s = record { place = suc s.place; within = omega (arith, s.within); is = s.is }

-- the least of a fold is what it began with, or stands on the line
attained_from : (a : ℕ) (gs : List hb_glyph_info_t) → (fold (λ (m : ℕ) (g : hb_glyph_info_t). min m g.cluster) a gs ≡ a) ⊎ StandsOn gs (fold (λ (m : ℕ) (g : hb_glyph_info_t). min m g.cluster) a gs)
attained_from a [] = inl refl
attained_from a (g ∷ gs) = by_rest (attained_from (min a g.cluster) gs)
  where
    c : ℕ
    c = fold (λ (m : ℕ) (h : hb_glyph_info_t). min m h.cluster) (min a g.cluster) gs

    by_order : c ≡ min a g.cluster → ((a < g.cluster) ⊎ (g.cluster ≤ a)) → (c ≡ a) ⊎ StandsOn (g ∷ gs) c
    by_order e (inl less) = inl (omega (arith, e, less))
    by_order e (inr more) = inr (record { place = 0; within = omega arith; is = omega (arith, e, more) })

    by_rest : ((c ≡ min a g.cluster) ⊎ StandsOn gs c) → (c ≡ a) ⊎ StandsOn (g ∷ gs) c
    by_rest (inl e) = by_order e (cases_lt a g.cluster)
    by_rest (inr s) = inr (stands_behind g gs c s)

-- the least cluster of some glyphs stands on one of them
least_stands : (gs : List hb_glyph_info_t) → 0 < length gs → StandsOn gs (least_of gs)
least_stands gs some = by_least (attained_from (cluster_at gs 0) gs)
  where
    by_least : ((least_of gs ≡ cluster_at gs 0) ⊎ StandsOn gs (least_of gs)) → StandsOn gs (least_of gs)
    by_least (inl e) = record { place = 0; within = some; is = e }
    by_least (inr s) = s

-- the least cluster of a span stands within it
pub record StandsWithin (gs : List hb_glyph_info_t) (i j c : ℕ) : Type 0 where
  pub place : ℕ
  pub from : i ≤ place
  pub to : place < j
  pub is : c ≡ cluster_at gs place

pub least_within : (gs : List hb_glyph_info_t) (i j : ℕ) → i < j → j ≤ length gs → StandsWithin gs i j (least_of (slice_range gs i j))
least_within gs i j some high =
    let span : length (slice_range gs i j) ≡ j - i = length_slice i j gs (omega arith) high in
    let read : (k : ℕ) (d : hb_glyph_info_t) → k < j - i → get_or (slice_range gs i j) k d ≡ get_or gs (i + k) d = λ k d low. get_or-take (j - i) (drop i gs) k d low ∙ get_or-drop i gs k d in
    let s = least_stands (slice_range gs i j) (omega (arith, span, some)) in
    let inside : s.place < j - i = omega (arith, s.within, span) in
    record { place = i + s.place; from = omega arith; to = omega (arith, inside); is = s.is ∙ ap (λ (g : hb_glyph_info_t). g.cluster) (read s.place no_glyph inside) }

module _ (R : ℕ → ℕ → Type 0) (same : (x y : ℕ) → x ≡ y → R x y) where
  -- the order asks clusters alone
  pub order_of_clusters : (gs hs : List hb_glyph_info_t) → length hs ≡ length gs → ((k : ℕ) → k < length gs → cluster_at hs k ≡ cluster_at gs k) → IsOrdered R gs → IsOrdered R hs
  order_of_clusters gs hs long equal ordered i j d before within =
      let low : i < length gs = omega (arith, before, within, long) in
      let high : j < length gs = omega (arith, within, long) in
      let at_i : get_or hs i d ≡ get_or hs i no_glyph = get_or_default hs i d no_glyph (omega (arith, before, within)) in
      let at_j : get_or hs j d ≡ get_or hs j no_glyph = get_or_default hs j d no_glyph within in
      rw (at_i, at_j, equal i low, equal j high) (ordered i j no_glyph before high)

  -- where a span takes a cluster of its own, the order stays
  pub order_of_spread : (gs hs : List hb_glyph_info_t) (s e k c : ℕ) → length hs ≡ length gs → s ≤ k → k < e → e ≤ length gs → c ≡ cluster_at gs k
      → ((n : ℕ) → n < s → cluster_at hs n ≡ cluster_at gs n) → ((n : ℕ) → s ≤ n → n < e → cluster_at hs n ≡ c) → ((n : ℕ) → e ≤ n → cluster_at hs n ≡ cluster_at gs n)
      → IsOrdered R gs → IsOrdered R hs
  order_of_spread gs hs s e k c long from to high is front middle back ordered i j d before within =
      let at_i : get_or hs i d ≡ get_or hs i no_glyph = get_or_default hs i d no_glyph (omega (arith, before, within)) in
      let at_j : get_or hs j d ≡ get_or hs j no_glyph = get_or_default hs j d no_glyph within in
      rw (at_i, at_j) (by_first (cases_lt i s) (cases_lt i e) (cases_lt j s) (cases_lt j e))
    where
      old : i < length gs → R (cluster_at gs i) (cluster_at gs j)
      old low = ordered i j no_glyph before (omega (arith, within, long))

      by_first : ((i < s) ⊎ (s ≤ i)) → ((i < e) ⊎ (e ≤ i)) → ((j < s) ⊎ (s ≤ j)) → ((j < e) ⊎ (e ≤ j)) → R (cluster_at hs i) (cluster_at hs j)
      by_first (inl a) p (inl b) q = rw (front i a, front j b) (old (omega (arith, a, from, to, high)))
      by_first (inl a) p (inr b) (inl q) = rw (front i a, middle j b q, is) (ordered i k no_glyph (omega (arith, a, from)) (omega (arith, to, high)))
      by_first (inl a) p (inr b) (inr q) = rw (front i a, back j q) (old (omega (arith, a, from, to, high)))
      by_first (inr a) (inl p) (inl b) q = absurd (omega (arith, a, b, before))
      by_first (inr a) (inl p) (inr b) (inl q) = same _ _ (middle i a p ∙ sym (middle j b q))
      by_first (inr a) (inl p) (inr b) (inr q) = rw (middle i a p, back j q, is) (ordered k j no_glyph (omega (arith, to, q)) (omega (arith, within, long)))
      by_first (inr a) (inr p) b q = rw (back i p, back j (omega (arith, p, before))) (old (omega (arith, before, within, long)))

  -- a span that takes its least cluster, also where it is grown, keeps the order
  order_of_merge_span : (gs : List hb_glyph_info_t) (i j s e : ℕ) → i < j → j ≤ length gs → s ≤ i → j ≤ e → e ≤ length gs → IsOrdered R gs → IsOrdered R (on_span (map (with_cluster (least_of (slice_range gs i j)))) s e gs)
  order_of_merge_span gs i j s e some high start end within ordered =
      let m = least_of (slice_range gs i j) in
      let f = with_cluster m in
      let at = least_within gs i j some high in
      let low : s ≤ e = omega (arith, start, some, end) in
      order_of_spread gs (on_span (map f) s e gs) s e at.place m (length_on_span_of f s e gs low within) (omega (arith, start, at.from)) (omega (arith, at.to, end)) within at.is
      (λ n before. ap (λ (g : hb_glyph_info_t). g.cluster) (get_before f s e gs low within n no_glyph before))
      (λ n from to. ap (λ (g : hb_glyph_info_t). g.cluster) (get_inside f s e gs low within n no_glyph from to) ∙ cluster_set m (get_or gs n no_glyph))
      (λ n from. ap (λ (g : hb_glyph_info_t). g.cluster) (get_behind f s e gs low within n no_glyph from))
      ordered

  pub order_of_merged : (gs : List hb_glyph_info_t) (p i j : ℕ) → i < j → j ≤ length gs → IsOrdered R gs → IsOrdered R (merged gs p i j)
  unfolding merged
  order_of_merged gs p i j some high ordered =
      let m = least_of (slice_range gs i j) in
      order_of_merge_span gs i j (merge_start gs p i m) (merge_end gs j m) some high (merge_start_low gs p i m) (merge_end_low gs j m) (merge_end_high gs j m high) ordered

  pub order_of_merged_out : (gs : List hb_glyph_info_t) (i j : ℕ) → i < j → j ≤ length gs → IsOrdered R gs → IsOrdered R (merged_out gs i j)
  unfolding merged_out
  order_of_merged_out gs i j some high ordered =
      order_of_merge_span gs i j (i - run_before gs 0 i (cluster_at gs i)) (j + run_after gs j (cluster_at gs (j - 1))) some high (omega arith) (omega arith)
      (omega (arith, high, run_of_within (cluster_at gs (j - 1)) (drop j gs), length-drop j gs)) ordered

  pub order_of_merge : (b : Buffer) (i j : ℕ) → ClustersMerge b.cluster_level → IsOrdered R b.line → IsOrdered R (merge_clusters b i j).line
  order_of_merge b i j level ordered =
      let e = min j (length b.line) in
      chosen (λ (gs : List hb_glyph_info_t). IsOrdered R gs) (nat_le (i + 2) e) (cond (clusters_stay_apart b.cluster_level) (on_span break_marked i e b.line) (merged b.line b.cursor i e)) b.line
      (λ long.
      let some : i < e = grind (arith, nat_tests, long) in
      chosen (λ (gs : List hb_glyph_info_t). IsOrdered R gs) (clusters_stay_apart b.cluster_level) (on_span break_marked i e b.line) (merged b.line b.cursor i e)
      (λ two. absurd (level two)) (λ _. order_of_merged b.line b.cursor i e some (omega arith) ordered))
      (λ _. ordered)

  pub order_of_merge_out : (b : Buffer) (i j : ℕ) → IsOrdered R b.line → IsOrdered R (merge_out_clusters b i j).line
  order_of_merge_out b i j ordered =
      let e = min j (length b.line) in
      chosen (λ (gs : List hb_glyph_info_t). IsOrdered R gs) (nat_le (i + 2) e && not (clusters_stay_apart b.cluster_level)) (merged_out b.line i e) b.line
      (λ long. let some : i < e = grind (arith, nat_tests, long) in order_of_merged_out b.line i e some (omega arith) ordered) (λ _. ordered)
