-- What acts leave of the clusters: their order along the line, and where they come from.
use Rattle.std.proofs.Common.{◌≡◌, ◌≢◌, ◌⊎◌, inl, inr, ℕ, ◌+◌, ◌-◌, ◌<◌, ◌≤◌, ◌&&◌, ◌==◌, not, cond, min, List, length, drop, map, get_or, refl, sym, ap, ◌∙◌, arith, length-drop, length-set, get_or-set_same, get_or-set_other, nat_le, Option}
use Rattle.std.proofs.lemmas.Bool.{cases_lt, cases_eq}
use Rattle.std.proofs.lemmas.Bool.Decides.{nat_tests}
use Rattle.std.specs.Prelude.{slice_range, slice_set}
use Rattle.aat_buffer.specs.Buffer.{Buffer, no_glyph}
use Rattle.aat_buffer.specs.Marks.{clusters_stay_apart, on_span, break_marked, marked_above, with_mask_bits, unsafe_to_break, start_place, end_place, with_cluster, merged, merged_out, merge_start, merge_end, run_after, run_before, least_of, cluster_at, merge_clusters, merge_out_clusters, with_line}
use Rattle.aat_glyph.specs.declared.glyph.hb_glyph_info_t.{hb_glyph_info_t}
use Rattle.aat_buffer.specs.Clusters.{ClustersMerge, IsOrdered, ComesFrom}
use Rattle.aat_buffer.specs.facts.Clusters.{length_on_span_of, get_before, get_inside, get_behind, cluster_set, least_within, order_of_clusters, order_of_merge, order_of_merged, order_of_merge_out}
use Rattle.aat_buffer.specs.facts.Cases.{chosen}
use Rattle.aat_buffer.specs.facts.Lines.{length_unsafe, of_merge, of_merge_out, run_of_within, merge_end_low, merge_end_high, merge_start_low}

pub comes_refl : (gs : List hb_glyph_info_t) → ComesFrom gs gs
comes_refl gs k low = (k, low, refl)

pub comes_trans : (xs ys zs : List hb_glyph_info_t) → ComesFrom xs ys → ComesFrom ys zs → ComesFrom xs zs
comes_trans xs ys zs f g k low = let a = g k low in let b = f a.0 a.1 in (b.0, b.1, a.2 ∙ b.2)

-- where no cluster changes
comes_same : (gs hs : List hb_glyph_info_t) → length hs ≡ length gs → ((k : ℕ) → k < length gs → cluster_at hs k ≡ cluster_at gs k) → ComesFrom gs hs
comes_same gs hs long equal k low = let inside : k < length gs = omega (arith, low, long) in (k, inside, equal k inside)

-- a span that changes no cluster
pub same_on_span : (f : hb_glyph_info_t → hb_glyph_info_t) (i j : ℕ) (gs : List hb_glyph_info_t) → i ≤ j → j ≤ length gs → ((g : hb_glyph_info_t) → (f g).cluster ≡ g.cluster) → (k : ℕ) → cluster_at (on_span (map f) i j gs) k ≡ cluster_at gs k
same_on_span f i j gs low high same k = by_place (cases_lt k i) (cases_lt k j)
  where
    by_place : ((k < i) ⊎ (i ≤ k)) → ((k < j) ⊎ (j ≤ k)) → cluster_at (on_span (map f) i j gs) k ≡ cluster_at gs k
    by_place (inl a) b = ap (λ (g : hb_glyph_info_t). g.cluster) (get_before f i j gs low high k no_glyph a)
    by_place (inr a) (inl b) = ap (λ (g : hb_glyph_info_t). g.cluster) (get_inside f i j gs low high k no_glyph a b) ∙ same (get_or gs k no_glyph)
    by_place (inr a) (inr b) = ap (λ (g : hb_glyph_info_t). g.cluster) (get_behind f i j gs low high k no_glyph b)

cluster_of_marked : (least : ℕ) (g : hb_glyph_info_t) → (marked_above least 3 g).cluster ≡ g.cluster
cluster_of_marked least g = chosen (λ (x : hb_glyph_info_t). x.cluster ≡ g.cluster) (g.cluster == least) g (with_mask_bits 3 g) (λ _. refl) (λ _. refl)

pub same_unsafe : (b : Buffer) (start end : Option ℕ) (k : ℕ) → cluster_at (unsafe_to_break b start end).line k ≡ cluster_at b.line k
same_unsafe b start end k =
    let i = start_place start in
    let j = end_place end (length b.line) in
    chosen (λ (gs : List hb_glyph_info_t). cluster_at gs k ≡ cluster_at b.line k) (nat_le (i + 2) j) (on_span break_marked i j b.line) b.line
    (λ long. let low : i ≤ j = grind (arith, nat_tests, long) in same_on_span (marked_above (least_of (slice_range b.line i j)) 3) i j b.line low (omega arith) (cluster_of_marked _) k) (λ _. refl)

-- a glyph written with the cluster that stood there
pub same_set : (gs : List hb_glyph_info_t) (i : ℕ) (g : hb_glyph_info_t) → g.cluster ≡ cluster_at gs i → (k : ℕ) → k < length gs → cluster_at (slice_set gs i g) k ≡ cluster_at gs k
same_set gs i g same k low = by_place (cases_eq k i)
  where
    by_place : ((k ≡ i) ⊎ (k ≢ i)) → cluster_at (slice_set gs i g) k ≡ cluster_at gs k
    by_place (inl e) = let inside : i < length gs = omega (arith, low, e) in
        ap (λ n. cluster_at (slice_set gs i g) n) e ∙ (ap (λ (x : hb_glyph_info_t). x.cluster) (get_or-set_same gs i g no_glyph inside) ∙ (same ∙ ap (λ n. cluster_at gs n) (sym e)))
    by_place (inr other) = ap (λ (x : hb_glyph_info_t). x.cluster) (get_or-set_other gs i k g no_glyph other)

-- a span that takes its least cluster takes one of the line's
comes_of_span : (gs : List hb_glyph_info_t) (i j s e : ℕ) → i < j → j ≤ length gs → s ≤ i → j ≤ e → e ≤ length gs → ComesFrom gs (on_span (map (with_cluster (least_of (slice_range gs i j)))) s e gs)
comes_of_span gs i j s e some high start end within k low =
    by_place (cases_lt k s) (cases_lt k e)
  where
    f : hb_glyph_info_t → hb_glyph_info_t
    f = with_cluster (least_of (slice_range gs i j))

    ordered : s ≤ e
    ordered = omega (arith, start, some, end)

    inside : k < length gs
    inside = omega (arith, low, length_on_span_of f s e gs ordered within)

    by_place : ((k < s) ⊎ (s ≤ k)) → ((k < e) ⊎ (e ≤ k)) → (n : ℕ) × (n < length gs) × (cluster_at (on_span (map f) s e gs) k ≡ cluster_at gs n)
    by_place (inl a) b = (k, inside, ap (λ (g : hb_glyph_info_t). g.cluster) (get_before f s e gs ordered within k no_glyph a))
    by_place (inr a) (inl b) =
        let at = least_within gs i j some high in
        (at.place, omega (arith, at.to, high), ap (λ (g : hb_glyph_info_t). g.cluster) (get_inside f s e gs ordered within k no_glyph a b) ∙ (cluster_set (least_of (slice_range gs i j)) (get_or gs k no_glyph) ∙ at.is))
    by_place (inr a) (inr b) = (k, inside, ap (λ (g : hb_glyph_info_t). g.cluster) (get_behind f s e gs ordered within k no_glyph b))

-- the same of a break mark in the place of a merge
comes_of_marks : (gs : List hb_glyph_info_t) (i j : ℕ) → i ≤ j → j ≤ length gs → ComesFrom gs (on_span break_marked i j gs)
comes_of_marks gs i j low high =
    comes_same gs (on_span break_marked i j gs) (length_on_span_of (marked_above (least_of (slice_range gs i j)) 3) i j gs low high)
    (λ k inside. same_on_span (marked_above (least_of (slice_range gs i j)) 3) i j gs low high (cluster_of_marked _) k)

pub comes_of_merge : (b : Buffer) (i j : ℕ) → ComesFrom b.line (merge_clusters b i j).line
unfolding merged
comes_of_merge b i j =
    let e = min j (length b.line) in
    let m = least_of (slice_range b.line i e) in
    chosen (λ (gs : List hb_glyph_info_t). ComesFrom b.line gs) (nat_le (i + 2) e) (cond (clusters_stay_apart b.cluster_level) (on_span break_marked i e b.line) (merged b.line b.cursor i e)) b.line
    (λ long.
    let some : i < e = grind (arith, nat_tests, long) in
    chosen (λ (gs : List hb_glyph_info_t). ComesFrom b.line gs) (clusters_stay_apart b.cluster_level) (on_span break_marked i e b.line) (merged b.line b.cursor i e)
    (λ _. comes_of_marks b.line i e (omega arith) (omega arith))
    (λ _. comes_of_span b.line i e (merge_start b.line b.cursor i m) (merge_end b.line e m) some (omega arith) (merge_start_low b.line b.cursor i m) (merge_end_low b.line e m) (merge_end_high b.line e m (omega arith))))
    (λ _. comes_refl b.line)

pub comes_of_merge_out : (b : Buffer) (i j : ℕ) → ComesFrom b.line (merge_out_clusters b i j).line
unfolding merged_out
comes_of_merge_out b i j =
    let e = min j (length b.line) in
    chosen (λ (gs : List hb_glyph_info_t). ComesFrom b.line gs) (nat_le (i + 2) e && not (clusters_stay_apart b.cluster_level)) (merged_out b.line i e) b.line
    (λ long.
    let some : i < e = grind (arith, nat_tests, long) in
    comes_of_span b.line i e (i - run_before b.line 0 i (cluster_at b.line i)) (e + run_after b.line e (cluster_at b.line (e - 1))) some (omega arith) (omega arith) (omega arith)
    (omega (arith, run_of_within (cluster_at b.line (e - 1)) (drop e b.line), length-drop e b.line)))
    (λ _. comes_refl b.line)

-- a line in order, and one that an act has made of it: as long or longer, of the same clusters, in order, at the same
-- level
module _ (R : ℕ → ℕ → Type 0) (same : (x y : ℕ) → x ≡ y → R x y) where
  pub record Kept (b d : Buffer) : Type 0 where
    pub level : d.cluster_level ≡ b.cluster_level
    pub from : ComesFrom b.line d.line
    pub ordered : ClustersMerge b.cluster_level → IsOrdered R b.line → IsOrdered R d.line

  pub kept_refl : (b : Buffer) → Kept b b
  kept_refl b = record { level = refl; from = comes_refl b.line; ordered = λ level ordered. ordered }

  -- a step that changes no cluster
  pub kept_same : (b d e : Buffer) → e.cluster_level ≡ d.cluster_level → length e.line ≡ length d.line → ((k : ℕ) → k < length d.line → cluster_at e.line k ≡ cluster_at d.line k) → Kept b d → Kept b e
  kept_same b d e level long equal k = record {
    level = level ∙ k.level;
    from = comes_trans b.line d.line e.line k.from (comes_same d.line e.line long equal);
    ordered = λ low ordered. order_of_clusters R same d.line e.line long equal (k.ordered low ordered);
  }

  -- a merge keeps an order also where clusters stay apart, since marks change no cluster
  order_of_marks : (gs : List hb_glyph_info_t) (i j : ℕ) → i ≤ j → j ≤ length gs → IsOrdered R gs → IsOrdered R (on_span break_marked i j gs)
  order_of_marks gs i j low high ordered =
      let f = marked_above (least_of (slice_range gs i j)) 3 in
      order_of_clusters R same gs (on_span break_marked i j gs) (length_on_span_of f i j gs low high)
      (λ k inside. same_on_span f i j gs low high (cluster_of_marked (least_of (slice_range gs i j))) k) ordered

  pub order_of_any_merge : (b : Buffer) (i j : ℕ) → IsOrdered R b.line → IsOrdered R (merge_clusters b i j).line
  order_of_any_merge b i j ordered =
      let e = min j (length b.line) in
      chosen (λ (gs : List hb_glyph_info_t). IsOrdered R gs) (nat_le (i + 2) e)
      (cond (clusters_stay_apart b.cluster_level) (on_span break_marked i e b.line) (merged b.line b.cursor i e)) b.line
      (λ long.
      let some : i < e = grind (arith, nat_tests, long) in
      chosen (λ (gs : List hb_glyph_info_t). IsOrdered R gs) (clusters_stay_apart b.cluster_level)
      (on_span break_marked i e b.line) (merged b.line b.cursor i e)
      (λ _. order_of_marks b.line i e (omega (arith, some)) (omega arith) ordered)
      (λ _. order_of_merged R same b.line b.cursor i e some (omega arith) ordered))
      (λ _. ordered)

  pub kept_unsafe : (b d : Buffer) (i j : Option ℕ) → Kept b d → Kept b (unsafe_to_break d i j)
  kept_unsafe b d i j k = kept_same b d (unsafe_to_break d i j) refl (length_unsafe d i j) (λ n low. same_unsafe d i j n) k

  pub kept_set : (b d : Buffer) (i : ℕ) (g : hb_glyph_info_t) → g.cluster ≡ cluster_at d.line i → Kept b d → Kept b (with_line d (slice_set d.line i g))
  kept_set b d i g equal k = kept_same b d (with_line d (slice_set d.line i g)) refl (length-set d.line i g) (λ n low. same_set d.line i g equal n low) k

  module _ (b : Buffer) where
    pub kept_merge : (d : Buffer) (i j : ℕ) → Kept b d → Kept b (merge_clusters d i j)
    kept_merge d i j k =
        record {
          level = of_merge (λ (x : Buffer). x.cluster_level) d i j (λ gs. refl) ∙ k.level;
          from = comes_trans b.line d.line (merge_clusters d i j).line k.from (comes_of_merge d i j);
          ordered = λ low ordered. order_of_merge R same d i j (λ two. low (ap clusters_stay_apart (sym k.level) ∙ two)) (k.ordered low ordered);
        }

    pub kept_merge_out : (d : Buffer) (i j : ℕ) → Kept b d → Kept b (merge_out_clusters d i j)
    kept_merge_out d i j k =
        record {
          level = of_merge_out (λ (x : Buffer). x.cluster_level) d i j (λ gs. refl) ∙ k.level;
          from = comes_trans b.line d.line (merge_out_clusters d i j).line k.from (comes_of_merge_out d i j);
          ordered = λ low ordered. order_of_merge_out R same d i j (k.ordered low ordered);
        }

-- the clusters of a span behind a merge are one
pub uniform_of_merge : (b : Buffer) (s e : ℕ) → ClustersMerge b.cluster_level → s + 2 ≤ e → e ≤ length b.line → (k : ℕ) → s ≤ k → k < e → cluster_at (merge_clusters b s e).line k ≡ least_of (slice_range b.line s (min e (length b.line)))
unfolding merged
uniform_of_merge b s e level long high k from to =
    let j = min e (length b.line) in
    let m = least_of (slice_range b.line s j) in
    let ms = merge_start b.line b.cursor s m in
    let me = merge_end b.line j m in
    let within = merge_end_high b.line j m (omega arith) in
    chosen (λ (gs : List hb_glyph_info_t). cluster_at gs k ≡ m) (nat_le (s + 2) j) (cond (clusters_stay_apart b.cluster_level) (on_span break_marked s j b.line) (merged b.line b.cursor s j)) b.line
    (λ _. chosen (λ (gs : List hb_glyph_info_t). cluster_at gs k ≡ m) (clusters_stay_apart b.cluster_level) (on_span break_marked s j b.line) (merged b.line b.cursor s j)
    (λ two. absurd (level two))
    (λ _. ap (λ (g : hb_glyph_info_t). g.cluster)
    (get_inside (with_cluster m) ms me b.line (omega (arith, merge_start_low b.line b.cursor s m, merge_end_low b.line j m, from, to, high)) within k no_glyph (omega (arith, merge_start_low b.line b.cursor s m, from)) (omega (arith, merge_end_low b.line j m, to, high)))
    ∙ cluster_set m (get_or b.line k no_glyph)))
    (λ short. absurd (let no : j < s + 2 = grind (arith, nat_tests, short) in omega (arith, no, long, high)))
