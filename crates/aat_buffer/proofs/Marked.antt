-- Spans whose break marks stand: which marks a longer one still needs, and that it has them then.
use Rattle.std.proofs.Common.{◌≡◌, ◌≢◌, ◌⊎◌, inl, inr, ℕ, zero, suc, ◌+◌, ◌-◌, ◌<◌, ◌≤◌, ◌==◌, min, List, [], ◌∷◌, Option, Some, None, length, map, get_or, fold, refl, sym, ap, subst, ◌∙◌, arith, length-set, get_or-set_same, get_or-set_other}
use Rattle.std.specs.Prelude.{IfSome, bit_or, slice_get, slice_range, slice_set}
use Rattle.std.specs.Int.{bit_at}
use Rattle.std.proofs.lemmas.Nat.Bits.{bit_at_or, same_from_bits}
use Rattle.std.proofs.lemmas.Bool.{cases_lt, cases_eq}
use Rattle.std.proofs.lemmas.Bool.Decides.{nat_tests}
use Rattle.std.proofs.lemmas.List.{ext_get_or}
use Rattle.std.proofs.lemmas.Option.{get_or_from_slice_get}
use Rattle.aat_glyph.specs.declared.glyph.hb_glyph_info_t.{hb_glyph_info_t}
use Rattle.aat_buffer.specs.Buffer.{no_glyph, glyph_at}
use Rattle.aat_buffer.specs.Marks.{on_span, break_marked, cluster_at, least_of, marked_above, with_mask_bits}
use Rattle.aat_buffer.specs.inside.Marked.{HasMarks, IsMarked, IsMerged}
use Rattle.aat_buffer.specs.declared.marked_span.MarkedSpan.{MarkedSpan}
use Rattle.aat_buffer.specs.declared.marked_span.MergedSpan.{MergedSpan}
use Rattle.aat_buffer.specs.facts.Cases.{chosen}
use Rattle.aat_buffer.specs.facts.Clusters.{get_before, get_inside, get_behind, least_within, length_on_span_of}
use Rattle.aat_buffer.specs.facts.Lines.{length_slice, range_at}
use Rattle.aat_buffer.specs.facts.Order.{same_on_span, same_set}

pub or_twice : (a : ℕ) → bit_or (bit_or a 3) 3 ≡ bit_or a 3
or_twice a = same_from_bits (bit_or (bit_or a 3) 3) (bit_or a 3) bits
  where
    bits : (i : ℕ) → bit_at (bit_or (bit_or a 3) 3) i ≡ bit_at (bit_or a 3) i
    bits i = rw (bit_at_or (bit_or a 3) 3 i, bit_at_or a 3 i) (omega arith)

module _ (m : ℕ) (g : hb_glyph_info_t) where
  -- a marked glyph stays
  stays_marked : IsMarked g → marked_above m 3 g ≡ g
  stays_marked has =
      chosen (λ (x : hb_glyph_info_t). x ≡ g) (g.cluster == m) g (with_mask_bits 3 g) (λ _. refl) (λ _. ap (λ (bits : ℕ). record g { mask = bits }) has)

  -- so does one that is marked where it is above the least
  stays_settled : (m < g.cluster → IsMarked g) → m ≤ g.cluster → marked_above m 3 g ≡ g
  stays_settled has above =
      chosen (λ (x : hb_glyph_info_t). x ≡ g) (g.cluster == m) g (with_mask_bits 3 g) (λ _. refl)
      (λ other. ap (λ (bits : ℕ). record g { mask = bits }) (has (grind (arith, nat_tests, other, above))))

  cluster_stays : (marked_above m 3 g).cluster ≡ g.cluster
  cluster_stays = chosen (λ (x : hb_glyph_info_t). x.cluster ≡ g.cluster) (g.cluster == m) g (with_mask_bits 3 g) (λ _. refl) (λ _. refl)

  gets_marked : m < g.cluster → IsMarked (marked_above m 3 g)
  gets_marked above =
      chosen IsMarked (g.cluster == m) g (with_mask_bits 3 g) (λ same. absurd (grind (arith, nat_tests, same, above))) (λ _. or_twice g.mask)

-- the least of a number and of clusters is not above any of them
pub low_start : (a : ℕ) (gs : List hb_glyph_info_t) → fold (λ (m : ℕ) (g : hb_glyph_info_t). min m g.cluster) a gs ≤ a
low_start a [] = omega arith
low_start a (g ∷ gs) = omega (arith, low_start (min a g.cluster) gs)

pub low_each : (a : ℕ) (gs : List hb_glyph_info_t) (k : ℕ) → k < length gs → fold (λ (m : ℕ) (g : hb_glyph_info_t). min m g.cluster) a gs ≤ cluster_at gs k
low_each a [] k lt = absurd (omega arith)
low_each a (g ∷ gs) zero lt = omega (arith, low_start (min a g.cluster) gs)
low_each a (g ∷ gs) (suc k) lt = low_each (min a g.cluster) gs k (omega arith)

module _ (gs : List hb_glyph_info_t) (s e : ℕ) (high : e ≤ length gs) where
  pub least_low : (k : ℕ) → s ≤ k → k < e → least_of (slice_range gs s e) ≤ cluster_at gs k
  least_low k from to =
      let span : length (slice_range gs s e) ≡ e - s = length_slice s e gs (omega (arith, from, to)) high in
      let at : s + (k - s) ≡ k = omega (arith, from) in
      let read : cluster_at (slice_range gs s e) (k - s) ≡ cluster_at gs k =
      ap (λ (g : hb_glyph_info_t). g.cluster) (range_at gs s e (k - s) no_glyph (omega (arith, from, to))) ∙ ap (cluster_at gs) at in
      subst (λ c. least_of (slice_range gs s e) ≤ c) read (low_each (cluster_at (slice_range gs s e) 0) (slice_range gs s e) (k - s) (omega (arith, span, from, to)))

  -- the least cluster of a span is one that stands there, and that none is below
  least_is : (p m : ℕ) → s ≤ p → p < e → cluster_at gs p ≡ m → ((k : ℕ) → s ≤ k → k < e → m ≤ cluster_at gs k) → least_of (slice_range gs s e) ≡ m
  least_is p m from to is above =
      let at = least_within gs s e (omega (arith, from, to)) high in
      omega (arith, least_low p from to, is, above at.place at.from at.to, at.is)

module _ (f : hb_glyph_info_t → hb_glyph_info_t) (gs : List hb_glyph_info_t) (s i e : ℕ) (low : s ≤ i) (some : i ≤ e) (high : e ≤ length gs)
    (fixed : (k : ℕ) → s ≤ k → k < i → f (glyph_at gs k) ≡ glyph_at gs k) where
  by_place : (k : ℕ) → (k < s) ⊎ (s ≤ k) → (k < i) ⊎ (i ≤ k) → (k < e) ⊎ (e ≤ k)
      → get_or (on_span (map f) i e gs) k no_glyph ≡ get_or (on_span (map f) s e gs) k no_glyph
  by_place k (inl a) b c =
      get_before f i e gs some high k no_glyph (omega (arith, a, low)) ∙ sym (get_before f s e gs (omega (arith, low, some)) high k no_glyph a)
  by_place k (inr a) (inl b) c =
      get_before f i e gs some high k no_glyph b
      ∙ (sym (fixed k a b) ∙ sym (get_inside f s e gs (omega (arith, low, some)) high k no_glyph a (omega (arith, b, some))))
  by_place k (inr a) (inr b) (inl c) =
      get_inside f i e gs some high k no_glyph b c ∙ sym (get_inside f s e gs (omega (arith, low, some)) high k no_glyph a c)
  by_place k (inr a) (inr b) (inr c) =
      get_behind f i e gs some high k no_glyph c ∙ sym (get_behind f s e gs (omega (arith, low, some)) high k no_glyph c)

  -- a change that leaves the front of a span as it is
  pub same_span : on_span (map f) i e gs ≡ on_span (map f) s e gs
  same_span =
      ext_get_or no_glyph (on_span (map f) i e gs) (on_span (map f) s e gs)
      (length_on_span_of f i e gs some high ∙ sym (length_on_span_of f s e gs (omega (arith, low, some)) high))
      (λ k lt. by_place k (cases_lt k s) (cases_lt k i) (cases_lt k e))

module _ (m : ℕ) (gs hs : List hb_glyph_info_t) (i e : ℕ) (some : i ≤ e) (high : e ≤ length gs) (was : hs ≡ on_span (map (marked_above m 3)) i e gs) where
  same_length : length hs ≡ length gs
  same_length = ap length was ∙ length_on_span_of (marked_above m 3) i e gs some high

  pub same_cluster : (k : ℕ) → cluster_at hs k ≡ cluster_at gs k
  same_cluster k = ap (λ (xs : List hb_glyph_info_t). cluster_at xs k) was ∙ same_on_span (marked_above m 3) i e gs some high (cluster_stays m) k

  marked_here : (k : ℕ) → i ≤ k → k < e → m < cluster_at hs k → IsMarked (glyph_at hs k)
  marked_here k from to above =
      let read : glyph_at hs k ≡ marked_above m 3 (glyph_at gs k) = ap (λ (xs : List hb_glyph_info_t). glyph_at xs k) was ∙ get_inside (marked_above m 3) i e gs some high k no_glyph from to in
      subst IsMarked (sym read) (gets_marked m (glyph_at gs k) (subst (λ c. m < c) (same_cluster k) above))

  kept_at : (k : ℕ) → (k < i) ⊎ (i ≤ k) → (k < e) ⊎ (e ≤ k) → IsMarked (glyph_at gs k) → glyph_at hs k ≡ glyph_at gs k
  kept_at k (inl a) b has = ap (λ (xs : List hb_glyph_info_t). glyph_at xs k) was ∙ get_before (marked_above m 3) i e gs some high k no_glyph a
  kept_at k (inr a) (inl b) has =
      ap (λ (xs : List hb_glyph_info_t). glyph_at xs k) was
      ∙ (get_inside (marked_above m 3) i e gs some high k no_glyph a b ∙ stays_marked m (glyph_at gs k) has)
  kept_at k (inr a) (inr b) has = ap (λ (xs : List hb_glyph_info_t). glyph_at xs k) was ∙ get_behind (marked_above m 3) i e gs some high k no_glyph b

  marked_before : (k : ℕ) → IsMarked (glyph_at gs k) → IsMarked (glyph_at hs k)
  marked_before k has = subst IsMarked (sym (kept_at k (cases_lt k i) (cases_lt k e) has)) has

  -- marks change no cluster
  pub merged_stays : (known : Option MergedSpan) → IfSome known (IsMerged gs) → IfSome known (IsMerged hs)
  merged_stays None has = has
  merged_stays (Some sp) has = record {
    in_line = omega (arith, has.in_line, same_length);
    one = λ k from to. same_cluster k ∙ has.one k from to;
  }

  -- a span that was marked as a whole, by its least cluster
  module _ (is : m ≡ least_of (slice_range gs i e)) where
    pub whole_above : (k : ℕ) → i ≤ k → k < e → m ≤ cluster_at hs k
    whole_above k from to = subst (λ c. m ≤ c) (sym (same_cluster k)) (subst (λ c. c ≤ cluster_at gs k) (sym is) (least_low gs i e high k from to))

    pub whole_marked : (k : ℕ) → i ≤ k → k < e → m < cluster_at hs k → IsMarked (glyph_at hs k)
    whole_marked = marked_here

-- a span that is marked stays
pub nothing_more : (gs : List hb_glyph_info_t) (sp : MarkedSpan) (e : ℕ) → HasMarks gs sp → sp.end ≡ e → gs ≡ on_span break_marked sp.start e gs
nothing_more gs sp e has same =
    let m = sp.least in
    let f = marked_above m 3 in
    let low : sp.start ≤ e = omega (arith, has.ordered, has.within, same) in
    let high : e ≤ length gs = omega (arith, has.in_line, same) in
    let least : least_of (slice_range gs sp.start e) ≡ m =
    least_is gs sp.start e high sp.low m has.ordered (omega (arith, has.within, same)) has.least (λ k from to. has.above k from (omega (arith, to, same))) in
    ext_get_or no_glyph gs (on_span (map f) sp.start e gs) (sym (length_on_span_of f sp.start e gs low high))
    (λ k lt. by_place (cases_lt k sp.start) (cases_lt k e))
    ∙ ap (λ (c : ℕ). on_span (map (marked_above c 3)) sp.start e gs) (sym least)
  where
    by_place : {k : ℕ} → (k < sp.start) ⊎ (sp.start ≤ k) → (k < e) ⊎ (e ≤ k) → get_or gs k no_glyph ≡ get_or (on_span (map (marked_above sp.least 3)) sp.start e gs) k no_glyph
    by_place {k} (inl a) b = sym (get_before (marked_above sp.least 3) sp.start e gs (omega (arith, has.ordered, has.within, same)) (omega (arith, has.in_line, same)) k no_glyph a)
    by_place {k} (inr a) (inl b) =
        sym (get_inside (marked_above sp.least 3) sp.start e gs (omega (arith, has.ordered, has.within, same)) (omega (arith, has.in_line, same)) k no_glyph a b
        ∙ stays_settled sp.least (glyph_at gs k) (has.marked k a (omega (arith, b, same))) (has.above k a (omega (arith, b, same))))
    by_place {k} (inr a) (inr b) = sym (get_behind (marked_above sp.least 3) sp.start e gs (omega (arith, has.ordered, has.within, same)) (omega (arith, has.in_line, same)) k no_glyph b)

module _ (gs : List hb_glyph_info_t) (sp : MarkedSpan) (e a : ℕ) (has : HasMarks gs sp) (longer : sp.end < e) (high : e ≤ length gs)
    (is : a ≡ least_of (slice_range gs sp.end e)) where
  new_above : (k : ℕ) → sp.end ≤ k → k < e → a ≤ cluster_at gs k
  new_above k from to = subst (λ c. c ≤ cluster_at gs k) (sym is) (least_low gs sp.end e high k from to)

  start_low : sp.start ≤ sp.end
  start_low = omega (arith, has.ordered, has.within)

  -- the least cluster is still the old one
  module _ (le : sp.least ≤ a) where
    above_at : (k : ℕ) → (k < sp.end) ⊎ (sp.end ≤ k) → sp.start ≤ k → k < e → sp.least ≤ cluster_at gs k
    above_at k (inl b) from to = has.above k from b
    above_at k (inr b) from to = omega (arith, le, new_above k b to)

    all_above : (k : ℕ) → sp.start ≤ k → k < e → sp.least ≤ cluster_at gs k
    all_above k from to = above_at k (cases_lt k sp.end) from to

    pub longer_same : on_span (map (marked_above sp.least 3)) sp.end e gs ≡ on_span break_marked sp.start e gs
    longer_same =
        same_span (marked_above sp.least 3) gs sp.start sp.end e start_low (omega (arith, longer)) high
        (λ k from to. stays_settled sp.least (glyph_at gs k) (has.marked k from to) (has.above k from to))
        ∙ ap (λ (c : ℕ). on_span (map (marked_above c 3)) sp.start e gs) (sym (least_is gs sp.start e high sp.low sp.least has.ordered (omega (arith, has.within, longer)) has.least all_above))

    module _ (hs : List hb_glyph_info_t) (was : hs ≡ on_span (map (marked_above sp.least 3)) sp.end e gs) where
      kept : (k : ℕ) → cluster_at hs k ≡ cluster_at gs k
      kept = same_cluster sp.least gs hs sp.end e (omega (arith, longer)) high was

      marked_at : (k : ℕ) → (k < sp.end) ⊎ (sp.end ≤ k) → sp.start ≤ k → k < e → sp.least < cluster_at hs k → IsMarked (glyph_at hs k)
      marked_at k (inl b) from to more =
          marked_before sp.least gs hs sp.end e (omega (arith, longer)) high was k (has.marked k from b (subst (λ c. sp.least < c) (kept k) more))
      marked_at k (inr b) from to more = marked_here sp.least gs hs sp.end e (omega (arith, longer)) high was k b to more

      pub longer_has : HasMarks hs (record sp { end = e })
      longer_has = record {
        ordered = has.ordered;
        within = omega (arith, has.within, longer);
        in_line = omega (arith, high, same_length sp.least gs hs sp.end e (omega (arith, longer)) high was);
        least = kept sp.low ∙ has.least;
        above = λ k from to. subst (λ c. sp.least ≤ c) (sym (kept k)) (all_above k from to);
        first = λ k from to. subst (λ c. sp.least < c) (sym (kept k)) (has.first k from to);
        marked = λ k from to more. marked_at k (cases_lt k sp.end) from to more;
      }

  -- the least cluster is a new one, below the old one
  module _ (lt : a < sp.least) where
    lower_at : (k : ℕ) → (k < sp.end) ⊎ (sp.end ≤ k) → sp.start ≤ k → k < e → a ≤ cluster_at gs k
    lower_at k (inl b) from to = omega (arith, lt, has.above k from b)
    lower_at k (inr b) from to = new_above k b to

    pub lower_same : on_span (map (marked_above a 3)) sp.low e gs ≡ on_span break_marked sp.start e gs
    lower_same =
        let at = least_within gs sp.end e longer high in
        same_span (marked_above a 3) gs sp.start sp.low e has.ordered (omega (arith, has.within, longer)) high
        (λ k from to. stays_marked a (glyph_at gs k) (has.marked k from (omega (arith, to, has.within)) (has.first k from to)))
        ∙ ap (λ (c : ℕ). on_span (map (marked_above c 3)) sp.start e gs)
        (sym (least_is gs sp.start e high at.place a (omega (arith, at.from, start_low)) at.to (sym (is ∙ at.is)) (λ k from to. lower_at k (cases_lt k sp.end) from to)))

    module _ (hs : List hb_glyph_info_t) (was : hs ≡ on_span (map (marked_above a 3)) sp.low e gs) where
      same_there : (k : ℕ) → cluster_at hs k ≡ cluster_at gs k
      same_there = same_cluster a gs hs sp.low e (omega (arith, has.within, longer)) high was

      pub lower_above : (k : ℕ) → sp.start ≤ k → k < e → a ≤ cluster_at hs k
      lower_above k from to = subst (λ c. a ≤ c) (sym (same_there k)) (lower_at k (cases_lt k sp.end) from to)

      pub lower_front : (k : ℕ) → sp.start ≤ k → k < sp.end → a < cluster_at hs k
      lower_front k from to = subst (λ c. a < c) (sym (same_there k)) (omega (arith, lt, has.above k from to))

      marked_lower : (k : ℕ) → (k < sp.low) ⊎ (sp.low ≤ k) → sp.start ≤ k → k < e → a < cluster_at hs k → IsMarked (glyph_at hs k)
      marked_lower k (inl b) from to more =
          marked_before a gs hs sp.low e (omega (arith, has.within, longer)) high was k (has.marked k from (omega (arith, b, has.within)) (has.first k from b))
      marked_lower k (inr b) from to more = marked_here a gs hs sp.low e (omega (arith, has.within, longer)) high was k b to more

      pub lower_marked : (k : ℕ) → sp.start ≤ k → k < e → a < cluster_at hs k → IsMarked (glyph_at hs k)
      lower_marked k from to more = marked_lower k (cases_lt k sp.low) from to more

-- what is known where the first place of the least cluster is found
pub found_marks :
    (gs : List hb_glyph_info_t) (start from end least low : ℕ) → start ≤ from → from ≤ low → low < end → end ≤ length gs → cluster_at gs low ≡ least
    → ((k : ℕ) → from ≤ k → k < low → cluster_at gs k ≢ least) → ((k : ℕ) → start ≤ k → k < end → least ≤ cluster_at gs k)
    → ((k : ℕ) → start ≤ k → k < from → least < cluster_at gs k)
    → ((k : ℕ) → start ≤ k → k < end → least < cluster_at gs k → IsMarked (glyph_at gs k))
    → HasMarks gs (record { start = start; low = low; end = end; least = least })
found_marks gs start from end least low ordered from_low within in_line is before above front marked = record {
  ordered = omega (arith, ordered, from_low);
  within = within;
  in_line = in_line;
  least = is;
  above = above;
  first = λ k low_at to. by_place k (cases_lt k from) low_at to;
  marked = marked;
}
  where
    by_place : (k : ℕ) → (k < from) ⊎ (from ≤ k) → start ≤ k → k < low → least < cluster_at gs k
    by_place k (inl a) low_at to = front k low_at a
    by_place k (inr a) low_at to = omega (arith, above k low_at (omega (arith, to, within)), before k a to)

-- in a span of one cluster no glyph is above the least one
pub one_is_marked : (gs : List hb_glyph_info_t) (s e m : ℕ) → s < e → IsMerged gs (record { start = s; end = e; cluster = m }) → HasMarks gs (record { start = s; low = s; end = e; least = m })
one_is_marked gs s e m some has = record {
  ordered = omega arith;
  within = some;
  in_line = has.in_line;
  least = has.one s (omega arith) some;
  above = λ k from to. omega (arith, has.one k from to);
  first = λ k from to. absurd (omega (arith, from, to));
  marked = λ k from to more. absurd (omega (arith, has.one k from to, more));
}

-- a glyph that keeps its cluster, and that stays marked where it was
module _ (gs : List hb_glyph_info_t) (i : ℕ) (r : hb_glyph_info_t) (inside : i < length gs) (same : r.cluster ≡ cluster_at gs i)
    (stays : IsMarked (glyph_at gs i) → IsMarked r) where
  marked_at_place : (k : ℕ) → (k ≡ i) ⊎ (k ≢ i) → IsMarked (glyph_at gs k) → IsMarked (glyph_at (slice_set gs i r) k)
  marked_at_place k (inl here) has =
      let read : glyph_at (slice_set gs i r) k ≡ r = ap (λ (n : ℕ). glyph_at (slice_set gs i r) n) here ∙ get_or-set_same gs i r no_glyph inside in
      subst IsMarked (sym read) (stays (subst (λ (n : ℕ). IsMarked (glyph_at gs n)) here has))
  marked_at_place k (inr other) has = subst IsMarked (sym (get_or-set_other gs i k r no_glyph other)) has

  kept_cluster : (k : ℕ) → k < length gs → cluster_at (slice_set gs i r) k ≡ cluster_at gs k
  kept_cluster k low = same_set gs i r same k low

  kept_marks : (sp : MarkedSpan) → HasMarks gs sp → HasMarks (slice_set gs i r) sp
  kept_marks sp has = record {
    ordered = has.ordered;
    within = has.within;
    in_line = omega (arith, has.in_line, length-set gs i r);
    least = kept_cluster sp.low (omega (arith, has.within, has.in_line)) ∙ has.least;
    above = λ k from to. subst (λ c. sp.least ≤ c) (sym (kept_cluster k (omega (arith, to, has.in_line)))) (has.above k from to);
    first = λ k from to. subst (λ c. sp.least < c) (sym (kept_cluster k (omega (arith, to, has.within, has.in_line)))) (has.first k from to);
    marked = λ k from to more.
        marked_at_place k (cases_eq k i) (has.marked k from to (subst (λ c. sp.least < c) (kept_cluster k (omega (arith, to, has.in_line))) more));
  }

  kept_merged : (sp : MergedSpan) → IsMerged gs sp → IsMerged (slice_set gs i r) sp
  kept_merged sp has = record {
    in_line = omega (arith, has.in_line, length-set gs i r);
    one = λ k from to. kept_cluster k (omega (arith, to, has.in_line)) ∙ has.one k from to;
  }

  of_marks : (known : Option MarkedSpan) → IfSome known (HasMarks gs) → IfSome known (HasMarks (slice_set gs i r))
  of_marks None has = has
  of_marks (Some sp) has = kept_marks sp has

  of_merged : (known : Option MergedSpan) → IfSome known (IsMerged gs) → IfSome known (IsMerged (slice_set gs i r))
  of_merged None has = has
  of_merged (Some sp) has = kept_merged sp has

-- the same of a glyph that is read there
module _ (gs : List hb_glyph_info_t) (i : ℕ) (g r : hb_glyph_info_t) (at : slice_get gs i ≡ Some g) (inside : i < length gs)
    (same : r.cluster ≡ g.cluster) (stays : IsMarked g → IsMarked r) where
  read : glyph_at gs i ≡ g
  read = get_or_from_slice_get gs i g no_glyph at

  same_as_read : r.cluster ≡ cluster_at gs i
  same_as_read = same ∙ ap (λ (x : hb_glyph_info_t). x.cluster) (sym read)

  pub kept_at_place : (known : Option MarkedSpan) → IfSome known (HasMarks gs) → IfSome known (HasMarks (slice_set gs i r))
  kept_at_place known has = of_marks gs i r inside same_as_read (λ was. stays (subst IsMarked read was)) known has

  pub merged_at_place : (known : Option MergedSpan) → IfSome known (IsMerged gs) → IfSome known (IsMerged (slice_set gs i r))
  merged_at_place known has = of_merged gs i r inside same_as_read (λ was. stays (subst IsMarked read was)) known has
