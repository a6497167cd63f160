-- Merges of spans of which a front is one cluster already.
use Rattle.std.proofs.Common.{◌≡◌, ◌⊎◌, inl, inr, ℕ, suc, ◌+◌, ◌-◌, ◌<◌, ◌≤◌, ◌==◌, min, List, [], ◌∷◌, length, map, drop, get_or, fold, refl, sym, ap, subst, ◌∙◌, arith, length-drop}
use Rattle.std.specs.Prelude.{slice_range}
use Rattle.std.proofs.lemmas.Bool.{cases_lt}
use Rattle.std.proofs.lemmas.Bool.Decides.{nat_tests}
use Rattle.std.proofs.lemmas.List.{ext_get_or}
use Rattle.aat_glyph.specs.declared.glyph.hb_glyph_info_t.{hb_glyph_info_t}
use Rattle.aat_buffer.specs.Buffer.{no_glyph, glyph_at}
use Rattle.aat_buffer.specs.Marks.{on_span, cluster_at, least_of, run_after, run_before, with_cluster, merged_out}
use Rattle.aat_buffer.specs.inside.Marked.{IsMerged}
use Rattle.aat_buffer.specs.facts.Cases.{chosen}
use Rattle.aat_buffer.specs.facts.Clusters.{cluster_set, get_before, get_inside, get_behind, least_within, length_on_span_of}
use Rattle.aat_buffer.specs.facts.Lines.{length_slice, range_at, run_of_within}
use Rattle.aat_buffer.proofs.Marked.{least_low, low_each, low_start, same_span}
use Rattle.aat_buffer.proofs.Runs.{run_after_has, run_before_has}

-- a number that is below another one and all clusters is below the least of them
high_fold : (m a : ℕ) (gs : List hb_glyph_info_t) → m ≤ a → ((k : ℕ) → k < length gs → m ≤ cluster_at gs k) → m ≤ fold (λ (m : ℕ) (g : hb_glyph_info_t). min m g.cluster) a gs
high_fold m a [] low each = low
high_fold m a (g ∷ gs) low each = high_fold m (min a g.cluster) gs (omega (arith, low, each 0 (omega arith))) (λ k lt. each (suc k) (omega (arith, lt)))

-- a glyph that has the cluster stays
stays_in : (m : ℕ) (g : hb_glyph_info_t) → g.cluster ≡ m → with_cluster m g ≡ g
stays_in m g same =
    chosen (λ (x : hb_glyph_info_t). x ≡ g) (g.cluster == m) g _ (λ _. refl) (λ other. absurd (grind (arith, nat_tests, other, same)))

module _ (f : hb_glyph_info_t → hb_glyph_info_t) (gs : List hb_glyph_info_t) (s i e : ℕ) (low : s ≤ i) (some : i ≤ e) (high : e ≤ length gs)
    (fixed : (k : ℕ) → i ≤ k → k < e → f (glyph_at gs k) ≡ glyph_at gs k) where
  by_place : (k : ℕ) → (k < s) ⊎ (s ≤ k) → (k < i) ⊎ (i ≤ k) → (k < e) ⊎ (e ≤ k)
      → get_or (on_span (map f) s i gs) k no_glyph ≡ get_or (on_span (map f) s e gs) k no_glyph
  by_place k (inl a) b c =
      get_before f s i gs low (omega (arith, some, high)) k no_glyph a ∙ sym (get_before f s e gs (omega (arith, low, some)) high k no_glyph a)
  by_place k (inr a) (inl b) c =
      get_inside f s i gs low (omega (arith, some, high)) k no_glyph a b ∙ sym (get_inside f s e gs (omega (arith, low, some)) high k no_glyph a (omega (arith, b, some)))
  by_place k (inr a) (inr b) (inl c) =
      get_behind f s i gs low (omega (arith, some, high)) k no_glyph b
      ∙ (sym (fixed k b c) ∙ sym (get_inside f s e gs (omega (arith, low, some)) high k no_glyph a c))
  by_place k (inr a) (inr b) (inr c) =
      get_behind f s i gs low (omega (arith, some, high)) k no_glyph b ∙ sym (get_behind f s e gs (omega (arith, low, some)) high k no_glyph c)

  -- a change that leaves the end of a span as it is
  same_front : on_span (map f) s i gs ≡ on_span (map f) s e gs
  same_front =
      ext_get_or no_glyph (on_span (map f) s i gs) (on_span (map f) s e gs)
      (length_on_span_of f s i gs low (omega (arith, some, high)) ∙ sym (length_on_span_of f s e gs (omega (arith, low, some)) high))
      (λ k lt. by_place k (cases_lt k s) (cases_lt k i) (cases_lt k e))

module _ (gs : List hb_glyph_info_t) (i j known first last m : ℕ) (long : i + 2 ≤ j) (high : j ≤ length gs) (behind : i < known) (within : known ≤ j)
    (one : (k : ℕ) → i ≤ k → k < known → cluster_at gs k ≡ cluster_at gs i) (is_first : first ≡ cluster_at gs i) (is_last : last ≡ cluster_at gs (j - 1))
    (is : m ≡ fold (λ (m : ℕ) (g : hb_glyph_info_t). min m g.cluster) first (slice_range gs known j)) where
  read : (k : ℕ) → k < j - known → cluster_at (slice_range gs known j) k ≡ cluster_at gs (known + k)
  read k lt = ap (λ (g : hb_glyph_info_t). g.cluster) (range_at gs known j k no_glyph lt)

  span : length (slice_range gs known j) ≡ j - known
  span = length_slice known j gs within high

  abbrev pub least : ℕ
  least = least_of (slice_range gs i j)

  not_below : m ≤ least
  not_below =
      let at = least_within gs i j (omega (arith, long)) high in
      by_known at.place at.from at.to at.is (cases_lt at.place known)
    where
      by_known : (p : ℕ) → i ≤ p → p < j → least ≡ cluster_at gs p → (p < known) ⊎ (known ≤ p) → m ≤ least
      by_known p from to here (inl b) = omega (arith, is, low_start first (slice_range gs known j), here, one p from b, is_first)
      by_known p from to here (inr b) =
          let place : known + (p - known) ≡ p = omega (arith, b) in
          omega (arith, is, low_each first (slice_range gs known j) (p - known) (omega (arith, span, b, to)), read (p - known) (omega (arith, b, to)), ap (cluster_at gs) place, here)

  not_above : least ≤ m
  not_above =
      subst (λ (c : ℕ). least ≤ c) (sym is)
      (high_fold least first (slice_range gs known j)
      (subst (λ (c : ℕ). least ≤ c) (sym is_first) (least_low gs i j high i (omega arith) (omega (arith, long))))
      (λ k lt.
      subst (λ (c : ℕ). least ≤ c) (sym (read k (omega (arith, lt, span)))) (least_low gs i j high (known + k) (omega (arith, behind)) (omega (arith, lt, span, within)))))

  pub least_known : m ≡ least
  least_known = omega (arith, not_below, not_above)

  abbrev pub start : ℕ
  start = i - run_before gs 0 i (cluster_at gs i)

  abbrev pub stop : ℕ
  stop = j + run_after gs j (cluster_at gs (j - 1))

  stop_high : stop ≤ length gs
  stop_high = omega (arith, high, run_of_within (cluster_at gs (j - 1)) (drop j gs), length-drop j gs)

  -- the front of the grown span is in the cluster already
  front_fixed : first ≡ m → (k : ℕ) → start ≤ k → k < known → with_cluster m (glyph_at gs k) ≡ glyph_at gs k
  front_fixed same k from to = stays_in m (glyph_at gs k) (at_place (cases_lt k i) ∙ (sym is_first ∙ same))
    where
      at_place : (k < i) ⊎ (i ≤ k) → cluster_at gs k ≡ cluster_at gs i
      at_place (inl b) = run_before_has gs i (cluster_at gs i) k (omega (arith, long, high)) from b
      at_place (inr b) = one k b to

  -- so is what it was grown by at its end
  rest_fixed : last ≡ m → (k : ℕ) → j ≤ k → k < stop → with_cluster m (glyph_at gs k) ≡ glyph_at gs k
  rest_fixed same k from to =
      stays_in m (glyph_at gs k) (run_after_has gs j (cluster_at gs (j - 1)) k from to ∙ (sym is_last ∙ same))

  -- where the changed part begins and ends
  pub record IsGrown (from to : ℕ) : Type 0 where
    pub low : start ≤ from
    pub near : from ≤ known
    pub beyond : j ≤ to
    pub most : to ≤ stop
    pub front : (from ≡ start) ⊎ (first ≡ m)
    pub rest : (to ≡ stop) ⊎ (last ≡ m)

  pub grown_by : (from to : ℕ) → ((from ≡ known) × (first ≡ m)) ⊎ (from ≡ start) → ((to ≡ j) × (last ≡ m)) ⊎ (to ≡ stop) → IsGrown from to
  grown_by from to front rest = record {
    low = front_low front;
    near = front_near front;
    beyond = rest_beyond rest;
    most = rest_most rest;
    front = front_case front;
    rest = rest_case rest;
  }
    where
      front_low : ((from ≡ known) × (first ≡ m)) ⊎ (from ≡ start) → start ≤ from
      front_low (inl a) = omega (arith, a.0, behind)
      front_low (inr a) = omega (arith, a)

      front_near : ((from ≡ known) × (first ≡ m)) ⊎ (from ≡ start) → from ≤ known
      front_near (inl a) = omega (arith, a.0)
      front_near (inr a) = omega (arith, a, behind)

      front_case : ((from ≡ known) × (first ≡ m)) ⊎ (from ≡ start) → (from ≡ start) ⊎ (first ≡ m)
      front_case (inl a) = inr a.1
      front_case (inr a) = inl a

      rest_beyond : ((to ≡ j) × (last ≡ m)) ⊎ (to ≡ stop) → j ≤ to
      rest_beyond (inl a) = omega (arith, a.0)
      rest_beyond (inr a) = omega (arith, a)

      rest_most : ((to ≡ j) × (last ≡ m)) ⊎ (to ≡ stop) → to ≤ stop
      rest_most (inl a) = omega (arith, a.0)
      rest_most (inr a) = omega (arith, a)

      rest_case : ((to ≡ j) × (last ≡ m)) ⊎ (to ≡ stop) → (to ≡ stop) ⊎ (last ≡ m)
      rest_case (inl a) = inr a.1
      rest_case (inr a) = inl a

  module _ (from to : ℕ) (grown : IsGrown from to) where
    to_high : to ≤ length gs
    to_high = omega (arith, grown.most, stop_high)

    by_front : (from ≡ start) ⊎ (first ≡ m) → on_span (map (with_cluster m)) from to gs ≡ on_span (map (with_cluster m)) start to gs
    by_front (inl same) = ap (λ (n : ℕ). on_span (map (with_cluster m)) n to gs) same
    by_front (inr same) =
        same_span (with_cluster m) gs start from to grown.low (omega (arith, grown.near, within, grown.beyond)) to_high
        (λ k low high. front_fixed same k low (omega (arith, high, grown.near)))

    by_rest : (to ≡ stop) ⊎ (last ≡ m) → on_span (map (with_cluster m)) start to gs ≡ on_span (map (with_cluster m)) start stop gs
    by_rest (inl same) = ap (λ (n : ℕ). on_span (map (with_cluster m)) start n gs) same
    by_rest (inr same) =
        same_front (with_cluster m) gs start to stop (omega (arith, grown.low, grown.near, within, grown.beyond)) grown.most stop_high
        (λ k low high. rest_fixed same k (omega (arith, low, grown.beyond)) high)

    -- only what is not in the cluster is written
    pub merged_out_is : on_span (map (with_cluster m)) from to gs ≡ merged_out gs i j
    unfolding merged_out
    merged_out_is = by_front grown.front ∙ (by_rest grown.rest ∙ ap (λ (c : ℕ). on_span (map (with_cluster c)) start stop gs) least_known)

    module _ (hs : List hb_glyph_info_t) (was : hs ≡ on_span (map (with_cluster m)) from to gs) where
      from_to : from ≤ to
      from_to = omega (arith, grown.near, within, grown.beyond)

      one_there : (k : ℕ) → (k < from) ⊎ (from ≤ k) → min from i ≤ k → k < to → (from ≡ start) ⊎ (first ≡ m) → cluster_at hs k ≡ m
      one_there k (inr b) low lt either = ap (λ (xs : List hb_glyph_info_t). cluster_at xs k) was ∙ (ap (λ (g : hb_glyph_info_t). g.cluster) (get_inside (with_cluster m) from to gs from_to to_high k no_glyph b lt) ∙ cluster_set m (glyph_at gs k))
      one_there k (inl b) low lt (inl same) = absurd (omega (arith, b, low, same))
      one_there k (inl b) low lt (inr same) =
          ap (λ (xs : List hb_glyph_info_t). cluster_at xs k) was
          ∙ (ap (λ (g : hb_glyph_info_t). g.cluster) (get_before (with_cluster m) from to gs from_to to_high k no_glyph b)
          ∙ (one k (omega (arith, b, low)) (omega (arith, b, grown.near)) ∙ (sym is_first ∙ same)))

      -- the span is one cluster then
      pub merged_has : IsMerged hs (record { start = min from i; end = to; cluster = m })
      merged_has = record {
        in_line = omega (arith, to_high, ap length was, length_on_span_of (with_cluster m) from to gs from_to to_high);
        one = λ k low lt. one_there k (cases_lt k from) low lt grown.front;
      }
