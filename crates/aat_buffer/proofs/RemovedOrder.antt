-- What removal keeps of the clusters: their order, at every cluster level, and where they come from.
use Rattle.std.proofs.Common.{◌≡◌, ◌⊎◌, inl, inr, ◌∙◌, ap, subst, sym, refl, ℕ, ◌+◌, ◌-◌, ◌<◌, ◌≤◌, ◌&&◌, ◌==◌, Bool, List, length, map, get_or, nat_lt, arith}
use Rattle.std.proofs.lemmas.Bool.{cases_lt}
use Rattle.std.proofs.lemmas.List.Edits.{length-remove, get_or-remove_below, get_or-remove_above}
use Rattle.std.specs.Prelude.{remove}
use Rattle.aat_glyph.specs.declared.glyph.hb_glyph_info_t.{hb_glyph_info_t}
use Rattle.aat_buffer.specs.Buffer.{Buffer, no_glyph, glyph_at, with_cursor, without_positions}
use Rattle.aat_buffer.specs.Clusters.{ComesFrom, IsOrdered, KeepsOrder}
use Rattle.aat_buffer.specs.Marks.{cluster_at, merge_clusters, on_span, run_before, merged_line}
use Rattle.aat_buffer.specs.Removal.{cluster_kept_line, lowered_run, removal_step, with_cluster_and_flags, with_cluster_kept, without_glyph_at_cursor}
use Rattle.aat_buffer.specs.facts.Cases.{chosen}
use Rattle.aat_buffer.specs.facts.Clusters.{get_before, get_behind, get_inside, length_on_span_of, order_of_spread}
use Rattle.aat_buffer.specs.facts.Lines.{length_merge}
use Rattle.aat_buffer.specs.facts.Order.{comes_of_merge, comes_refl, comes_trans, order_of_any_merge}

abbrev cluster_of : hb_glyph_info_t → ℕ
cluster_of g = g.cluster

module _ (R : ℕ → ℕ → Type 0) (same : (x y : ℕ) → x ≡ y → R x y) where
  -- a line that has as many glyphs, of clusters that stood there, in order
  record IsKept (gs hs : List hb_glyph_info_t) : Type 0 where
    long : length hs ≡ length gs
    from : ComesFrom gs hs
    ordered : IsOrdered R gs → IsOrdered R hs

  kept_line : (gs : List hb_glyph_info_t) → IsKept gs gs
  kept_line gs = record { long = refl; from = comes_refl gs; ordered = λ o. o }

  -- the last kept glyphs take the cluster of the next one
  module _ (gs : List hb_glyph_info_t) (p last : ℕ) (low : p < length gs) where
    abbrev start : ℕ
    start = p - run_before gs 0 p last

    before : start ≤ p
    before = omega arith

    within : p ≤ length gs
    within = omega (arith, low)

    abbrev f : hb_glyph_info_t → hb_glyph_info_t
    f = with_cluster_and_flags (glyph_at gs p)

    abbrev hs : List hb_glyph_info_t
    hs = on_span (map f) start p gs

    long_hs : length hs ≡ length gs
    long_hs = length_on_span_of f start p gs before within

    front : (n : ℕ) → n < start → cluster_at hs n ≡ cluster_at gs n
    front n a = ap cluster_of (get_before f start p gs before within n no_glyph a)

    middle : (n : ℕ) → start ≤ n → n < p → cluster_at hs n ≡ cluster_at gs p
    middle n a b = ap cluster_of (get_inside f start p gs before within n no_glyph a b)

    back : (n : ℕ) → p ≤ n → cluster_at hs n ≡ cluster_at gs n
    back n a = ap cluster_of (get_behind f start p gs before within n no_glyph a)

    middle_and_here : (n : ℕ) → start ≤ n → n < p + 1 → cluster_at hs n ≡ cluster_at gs p
    middle_and_here n a b = by_place (cases_lt n p)
      where
        by_place : ((n < p) ⊎ (p ≤ n)) → cluster_at hs n ≡ cluster_at gs p
        by_place (inl c) = middle n a c
        by_place (inr c) = let here : n ≡ p = omega (arith, b, c) in back n c ∙ ap (cluster_at gs) here

    comes_lowered : ComesFrom gs hs
    comes_lowered k in_line = by_place (cases_lt k start) (cases_lt k p)
      where
        old : k < length gs
        old = omega (arith, in_line, long_hs)

        by_place : ((k < start) ⊎ (start ≤ k)) → ((k < p) ⊎ (p ≤ k)) → (j : ℕ) × (j < length gs) × (cluster_at hs k ≡ cluster_at gs j)
        by_place (inl a) b = (k, old, front k a)
        by_place (inr a) (inl b) = (p, low, middle k a b)
        by_place (inr a) (inr b) = (k, old, back k b)

    kept_lowered : IsKept gs (lowered_run gs p last (glyph_at gs p))
    unfolding lowered_run
    kept_lowered = record {
      long = long_hs;
      from = comes_lowered;
      ordered = order_of_spread R same gs hs start (p + 1) p (cluster_at gs p) long_hs before (omega arith) (omega (arith, low)) refl
          front middle_and_here (λ n a. back n (omega (arith, a)));
    }

  kept_merge : (b : Buffer) (i j : ℕ) → IsKept b.line (merge_clusters b i j).line
  kept_merge b i j = record {
    long = length_merge b i j;
    from = comes_of_merge b i j;
    ordered = order_of_any_merge R same b i j;
  }

  -- handing a cluster on
  kept_cluster : (b : Buffer) → b.cursor < length b.line → IsKept b.line (cluster_kept_line b.cluster_level b.cursor b.line)
  unfolding cluster_kept_line
  kept_cluster b low =
      let gs = b.line in
      let p = b.cursor in
      let g = glyph_at gs p in
      let last = cluster_at gs (p - 1) in
      chosen (IsKept gs) (nat_lt (p + 1) (length gs) && (cluster_at gs (p + 1) == g.cluster)) gs _ (λ _. kept_line gs)
      (λ _. chosen (IsKept gs) (nat_lt 0 p) _ _
      (λ _. chosen (IsKept gs) (nat_lt g.cluster last) (lowered_run gs p last g) gs (λ _. kept_lowered gs p last low) (λ _. kept_line gs))
      (λ _. chosen (IsKept gs) (nat_lt (p + 1) (length gs)) (merged_line b.cluster_level p p (p + 2) gs) gs (λ _. kept_merge b p (p + 2)) (λ _. kept_line gs)))

  -- a glyph less
  module _ (gs : List hb_glyph_info_t) (p : ℕ) (low : p < length gs) where
    less : length (remove gs p) + 1 ≡ length gs
    less = omega (arith, length-remove gs p low, low)

    -- where a glyph stood
    record Stood (k : ℕ) : Type 0 where
      place : ℕ
      inside : place < length gs
      read : (d : hb_glyph_info_t) → get_or (remove gs p) k d ≡ get_or gs place d
      low_as : k ≤ place
      high_as : place ≤ k + 1

    stood : (k : ℕ) → k < length (remove gs p) → ((k < p) ⊎ (p ≤ k)) → Stood k
    stood k in_line (inl a) = record {
      place = k;
      inside = omega (arith, in_line, less);
      read = λ d. get_or-remove_below gs p d k a low;
      low_as = omega arith;
      high_as = omega arith;
    }
    stood k in_line (inr a) = record {
      place = k + 1;
      inside = omega (arith, in_line, less);
      read = λ d. get_or-remove_above gs p d k a low;
      low_as = omega arith;
      high_as = omega arith;
    }

    from_less : ComesFrom gs (remove gs p)
    from_less k in_line =
        let s = stood k in_line (cases_lt k p) in (s.place, s.inside, ap cluster_of (s.read no_glyph))

    order_of_less : IsOrdered R gs → IsOrdered R (remove gs p)
    order_of_less ordered i j d before_j in_line = by_place (cases_lt i p) (cases_lt j p)
      where
        in_i : i < length (remove gs p)
        in_i = omega (arith, before_j, in_line)

        by_place : ((i < p) ⊎ (p ≤ i)) → ((j < p) ⊎ (p ≤ j)) → R (get_or (remove gs p) i d).cluster (get_or (remove gs p) j d).cluster
        by_place (inl a) (inl b) =
            rw (get_or-remove_below gs p d i a low, get_or-remove_below gs p d j b low) (ordered i j d before_j (omega (arith, in_line, less)))
        by_place (inl a) (inr b) =
            rw (get_or-remove_below gs p d i a low, get_or-remove_above gs p d j b low) (ordered i (j + 1) d (omega (arith, before_j)) (omega (arith, in_line, less)))
        by_place (inr a) (inl b) = absurd (omega (arith, a, b, before_j))
        by_place (inr a) (inr b) =
            rw (get_or-remove_above gs p d i a low, get_or-remove_above gs p d j b low) (ordered (i + 1) (j + 1) d (omega (arith, before_j)) (omega (arith, in_line, less)))

  -- a glyph goes or is passed
  record IsLeft (gs hs : List hb_glyph_info_t) : Type 0 where
    came : ComesFrom gs hs
    stays : IsOrdered R gs → IsOrdered R hs

  left_by_step : (test : hb_glyph_info_t → Bool) (b : Buffer) → b.cursor < length b.line → IsLeft b.line (removal_step test b).line
  left_by_step test b low =
      let p = b.cursor in
      let kept = kept_cluster b low in
      let line = cluster_kept_line b.cluster_level p b.line in
      let low_kept : p < length line = omega (arith, low, kept.long) in
      chosen (λ (c : Buffer). IsLeft b.line c.line) (test (glyph_at b.line p)) (without_glyph_at_cursor (with_cluster_kept b)) (with_cursor b (p + 1))
      (λ _. record {
        came = comes_trans b.line line (remove line p) kept.from (from_less line p low_kept);
        stays = λ o. order_of_less line p low_kept (kept.ordered o);
      })
      (λ _. record { came = comes_refl b.line; stays = λ o. o })

rises : (x y : ℕ) → x ≡ y → x ≤ y
rises x y e = omega (arith, e)

falls : (x y : ℕ) → x ≡ y → y ≤ x
falls x y e = omega (arith, e)

order_of_step : (test : hb_glyph_info_t → Bool) (b : Buffer) → b.cursor < length b.line → KeepsOrder b.line (removal_step test b).line
order_of_step test b low =
    let up = left_by_step (λ x y. x ≤ y) rises test b low in
    let down = left_by_step (λ x y. y ≤ x) falls test b low in
    record { rising = up.stays; falling = down.stays; clusters = up.came }

-- before the first step
pub order_none : (start now : Buffer) → now ≡ without_positions start → KeepsOrder start.line now.line
order_none start now is =
    subst (λ (b : Buffer). KeepsOrder start.line b.line) (sym is)
    (record { rising = λ o. o; falling = λ o. o; clusters = comes_refl start.line })

-- a step more
pub order_more : (start now new : Buffer) (goes : Bool) → now.cursor < length now.line
    → without_positions new ≡ without_positions (removal_step (λ _. goes) now)
    → KeepsOrder start.line now.line → KeepsOrder start.line new.line
order_more start now new goes low after was =
    let step : KeepsOrder now.line new.line = subst (λ (b : Buffer). KeepsOrder now.line b.line) (sym after) (order_of_step (λ _. goes) now low) in
    record {
      rising = λ o. step.rising (was.rising o);
      falling = λ o. step.falling (was.falling o);
      clusters = comes_trans start.line now.line new.line was.clusters step.clusters;
    }
