-- The four acts keep the order of clusters, and make no new one.
use Rattle.std.proofs.Common.{◌≡◌, ◌⊎◌, inl, inr, ℕ, ◌+◌, ◌-◌, ◌<◌, ◌≤◌, ◌&&◌, Bool, cond, min, List, [], ◌++◌, length, take, drop, map, get_or, refl, sym, ap, ◌∙◌, arith, length-append, length-take, length-drop, nat_le, nat_lt, Option, None}
use Rattle.std.proofs.lemmas.Bool.{cases_lt}
use Rattle.std.proofs.lemmas.Bool.Decides.{nat_tests}
use Rattle.std.proofs.lemmas.List.{take-append-drop, length-map, get_or_default, get_or_append_left, get_or-append_right, get_or-take, get_or-drop, get_or-map}
use Rattle.std.proofs.lemmas.List.Sorted.{All-permutation}
use Rattle.std.specs.Prelude.{slice_range, All, IsPermutation}
use Rattle.aat_buffer.specs.Buffer.{model_at, Buffer, no_glyph}
use Rattle.aat_buffer.specs.Marks.{clusters_stay_apart, on_span, cluster_at, merge_clusters}
use Rattle.aat_glyph.specs.declared.glyph.hb_glyph_info_t.{hb_glyph_info_t}
use Rattle.aat_lookup.specs.declared.glyph_id.GlyphId.{GlyphId}
use Rattle.aat_machine_tables.specs.declared.state_table.GenericStateEntry.{GenericStateEntry}
use Rattle.aat_buffer.specs.Clusters.{ClustersMerge, IsOrdered, ComesFrom}
use Rattle.aat_buffer.specs.facts.Clusters.{order_of_clusters}
use Rattle.aat_buffer.specs.facts.Cases.{chosen}
use Rattle.aat_buffer.specs.facts.Lines.{length_slice, length_of_span, length_merge, of_merge}
use Rattle.aat_buffer.specs.facts.Order.{Kept, kept_refl, kept_same, kept_unsafe, kept_set, kept_merge, kept_merge_out, comes_trans, uniform_of_merge}
use Rattle.aat_kinds.specs.facts.Permutation.{rearranged_permutes, span_permutes}
use Rattle.aat_kinds.specs.Rearrangement as r
use Rattle.aat_kinds.specs.Contextual as c
use Rattle.aat_kinds.specs.Ligature as l
use Rattle.aat_kinds.specs.Insertion as i
use Rattle.aat_kinds.specs.facts.RearrangementLaws as rl
use Rattle.aat_kinds.specs.facts.ContextualLaws as cl
use Rattle.aat_kinds.specs.facts.LigatureLaws as ll
use Rattle.aat_kinds.specs.facts.InsertionLaws as il

-- a permuted line has no new cluster
comes_of_permutation : (gs hs : List hb_glyph_info_t) → IsPermutation gs hs → ComesFrom gs hs
comes_of_permutation gs hs permutes k low =
    All-permutation (λ g. (j : ℕ) × (j < length gs) × (g.cluster ≡ cluster_at gs j)) gs hs permutes (λ j d inside. (j, inside, ap (λ (g : hb_glyph_info_t). g.cluster) (get_or_default gs j d no_glyph inside))) k no_glyph low

-- the glyphs of a span, and those round it, behind a change of the span that keeps its length
module _ (f : List hb_glyph_info_t → List hb_glyph_info_t) (s e : ℕ) (gs : List hb_glyph_info_t) (low : s ≤ e) (high : e ≤ length gs) (same : length (f (slice_range gs s e)) ≡ e - s) where
  span_before : (k : ℕ) (d : hb_glyph_info_t) → k < s → get_or (on_span f s e gs) k d ≡ get_or gs k d
  span_before k d before = get_or_append_left (take s gs) (f (slice_range gs s e) ++ drop e gs) d k (omega (arith, length-take s gs, before, low, high)) ∙ get_or-take s gs k d before

  span_inside : (k : ℕ) (d : hb_glyph_info_t) → s ≤ k → k < e → get_or (on_span f s e gs) k d ≡ get_or (f (slice_range gs s e)) (k - s) d
  span_inside k d from to =
      get_or-append_right (take s gs) (f (slice_range gs s e) ++ drop e gs) s k d (length-take s gs ∙ omega arith) from
      ∙ get_or_append_left (f (slice_range gs s e)) (drop e gs) d (k - s) (omega (arith, same, from, to))

  span_behind : (k : ℕ) (d : hb_glyph_info_t) → e ≤ k → get_or (on_span f s e gs) k d ≡ get_or gs k d
  span_behind k d from =
      let at : e + (k - s - (e - s)) ≡ k = omega (arith, low, from) in
      get_or-append_right (take s gs) (f (slice_range gs s e) ++ drop e gs) s k d (length-take s gs ∙ omega arith) (omega (arith, low, from))
      ∙ (get_or-append_right (f (slice_range gs s e)) (drop e gs) (e - s) (k - s) d same (omega (arith, low, from))
      ∙ (get_or-drop e gs (k - s - (e - s)) d ∙ ap (λ n. get_or gs n d) at))

-- where a span of one cluster is permuted, no place changes its cluster
same_uniform : (v : r.Verb) (s e c : ℕ) (gs : List hb_glyph_info_t) → s < e → e ≤ length gs → r.size_of v.front + r.size_of v.back ≤ e - s → ((k : ℕ) → s ≤ k → k < e → cluster_at gs k ≡ c) → (k : ℕ) → k < length gs → cluster_at (on_span (r.rearranged v) s e gs) k ≡ cluster_at gs k
same_uniform v s e c gs some high room uniform k inside = by_place (cases_lt k s) (cases_lt k e)
  where
    span : length (slice_range gs s e) ≡ e - s
    span = length_slice s e gs (omega arith) high

    same : length (r.rearranged v (slice_range gs s e)) ≡ e - s
    same = rl.length_rearranged v (slice_range gs s e) (omega (arith, room, span)) ∙ span

    of_slice : (n : ℕ) (d : hb_glyph_info_t) → n < length (slice_range gs s e) → (get_or (slice_range gs s e) n d).cluster ≡ c
    of_slice n d within =
        let few : n < e - s = omega (arith, within, span) in
        let read : get_or (slice_range gs s e) n d ≡ get_or gs (s + n) d = get_or-take (e - s) (drop s gs) n d few ∙ get_or-drop s gs n d in
        let default : get_or gs (s + n) d ≡ get_or gs (s + n) no_glyph = get_or_default gs (s + n) d no_glyph (omega (arith, few, high)) in
        ap (λ (g : hb_glyph_info_t). g.cluster) (read ∙ default) ∙ uniform (s + n) (omega arith) (omega (arith, few))

    of_moved : (n : ℕ) (d : hb_glyph_info_t) → n < length (r.rearranged v (slice_range gs s e)) → (get_or (r.rearranged v (slice_range gs s e)) n d).cluster ≡ c
    of_moved = All-permutation (λ (g : hb_glyph_info_t). g.cluster ≡ c) (slice_range gs s e) (r.rearranged v (slice_range gs s e)) (rearranged_permutes v (slice_range gs s e) (omega (arith, room, span))) of_slice

    by_place : ((k < s) ⊎ (s ≤ k)) → ((k < e) ⊎ (e ≤ k)) → cluster_at (on_span (r.rearranged v) s e gs) k ≡ cluster_at gs k
    by_place (inl a) b = ap (λ (g : hb_glyph_info_t). g.cluster) (span_before (r.rearranged v) s e gs (omega arith) high same k no_glyph a)
    by_place (inr a) (inl b) = ap (λ (g : hb_glyph_info_t). g.cluster) (span_inside (r.rearranged v) s e gs (omega arith) high same k no_glyph a b) ∙ (of_moved (k - s) no_glyph (omega (arith, a, b, same)) ∙ sym (uniform k a b))
    by_place (inr a) (inr b) = ap (λ (g : hb_glyph_info_t). g.cluster) (span_behind (r.rearranged v) s e gs (omega arith) high same k no_glyph b)

-- moving a span of one cluster keeps the order; at the level where clusters stay apart it makes no new cluster
moved_keeps : (R : ℕ → ℕ → Type 0) (same : (x y : ℕ) → x ≡ y → R x y) (v : r.Verb) (t : r.Registers) (b : Buffer) → r.size_of v.front + r.size_of v.back ≤ t.end - t.start → t.start < t.end → t.end ≤ length b.line → Kept R same b (r.moved v t b)
unfolding r.moved
moved_keeps R same v t b room some within =
    let one = merge_clusters b t.start (min (b.cursor + 1) (length b.line)) in
    let two = merge_clusters one t.start t.end in
    let first = kept_merge R same b b t.start (min (b.cursor + 1) (length b.line)) (kept_refl R same b) in
    let k = kept_merge R same b one t.start t.end first in
    let long_one : length one.line ≡ length b.line = length_merge b t.start (min (b.cursor + 1) (length b.line)) in
    let long : length two.line ≡ length b.line = length_merge one t.start t.end ∙ long_one in
    let high : t.end ≤ length two.line = omega (arith, long, within) in
    let low : t.start ≤ t.end = omega (arith, some) in
    let span : length (slice_range two.line t.start t.end) ≡ t.end - t.start = length_slice t.start t.end two.line low high in
    let moved_long : length (on_span (r.rearranged v) t.start t.end two.line) ≡ length two.line =
    length_of_span (r.rearranged v) t.start t.end two.line (rl.length_rearranged v (slice_range two.line t.start t.end) (omega (arith, room, span))) low high in
    let permutes = span_permutes (r.rearranged v) t.start t.end two.line low (rearranged_permutes v (slice_range two.line t.start t.end) (omega (arith, room, span))) in
    record {
      level = k.level;
      from = comes_trans b.line two.line (on_span (r.rearranged v) t.start t.end two.line) k.from (comes_of_permutation two.line (on_span (r.rearranged v) t.start t.end two.line) permutes);
      ordered = λ level ordered.
          order_of_clusters R same two.line (on_span (r.rearranged v) t.start t.end two.line) moved_long
          (same_uniform v t.start t.end (cluster_at two.line t.start) two.line some high room (uniform_two (cases_lt (t.start + 1) t.end) level))
          (k.ordered level ordered);
    }
  where
    one : Buffer
    one = merge_clusters b t.start (min (b.cursor + 1) (length b.line))

    uniform_two : ((t.start + 1 < t.end) ⊎ (t.end ≤ t.start + 1)) → ClustersMerge b.cluster_level → (n : ℕ) → t.start ≤ n → n < t.end → cluster_at (merge_clusters one t.start t.end).line n ≡ cluster_at (merge_clusters one t.start t.end).line t.start
    uniform_two (inl two) level n from to =
        let same_level : one.cluster_level ≡ b.cluster_level = of_merge (λ (x : Buffer). x.cluster_level) b t.start (min (b.cursor + 1) (length b.line)) (λ gs. refl) in
        let long_one : length one.line ≡ length b.line = length_merge b t.start (min (b.cursor + 1) (length b.line)) in
        let apart : ClustersMerge one.cluster_level = λ e. level (ap clusters_stay_apart (sym same_level) ∙ e) in
        uniform_of_merge one t.start t.end apart (omega (arith, two)) (omega (arith, long_one, within)) n from to
        ∙ sym (uniform_of_merge one t.start t.end apart (omega (arith, two)) (omega (arith, long_one, within)) t.start (omega arith) (omega (arith, some)))
    uniform_two (inr single) level n from to = ap (λ k. cluster_at (merge_clusters one t.start t.end).line k) (let e : n ≡ t.start = omega (arith, single, from, to) in e)

-- lines whose clusters stand as those of places that never fall
order_of_places : (R : ℕ → ℕ → Type 0) → ((x y : ℕ) → x ≡ y → R x y) → (gs hs : List hb_glyph_info_t) (place : ℕ → ℕ) → ((n m : ℕ) → n < m → m < length hs → place n ≤ place m)
    → ((k : ℕ) → k < length hs → place k < length gs) → ((k : ℕ) → k < length hs → cluster_at hs k ≡ cluster_at gs (place k)) → IsOrdered R gs → IsOrdered R hs
order_of_places R same gs hs place rises inside equal ordered n m d before within =
    let first : n < length hs = omega (arith, before, within) in
    let at_n : get_or hs n d ≡ get_or hs n no_glyph = get_or_default hs n d no_glyph first in
    let at_m : get_or hs m d ≡ get_or hs m no_glyph = get_or_default hs m d no_glyph within in
    rw (at_n, at_m, equal n first, equal m within) (by_order (cases_lt (place n) (place m)))
  where
    by_order : ((place n < place m) ⊎ (place m ≤ place n)) → R (cluster_at gs (place n)) (cluster_at gs (place m))
    by_order (inl less) = ordered (place n) (place m) no_glyph less (inside m within)
    by_order (inr more) = same _ _ (ap (λ k. cluster_at gs k) (let e : place n ≡ place m = omega (arith, more, rises n m before within) in e))

-- new glyphs like a neighbour, put in at place a
module _ (gs new : List hb_glyph_info_t) (a model : ℕ) (some : model < length gs) (low : model ≤ min a (length gs)) (high : min a (length gs) ≤ model + 1) (like : All (λ g. g.cluster ≡ cluster_at gs model) new) where
  made : List hb_glyph_info_t
  made = take a gs ++ (new ++ drop a gs)

  -- the place of the old line whose cluster stands at a place of the new one
  place_of : ℕ → ℕ
  place_of k = cond (nat_lt k (min a (length gs))) k (cond (nat_lt k (min a (length gs) + length new)) model (k - length new))

  made_long : length made ≡ length gs + length new
  unfolding made
  made_long = length-append (take a gs) (new ++ drop a gs) ∙ (let e = length-append new (drop a gs) in let f = length-take a gs in let h = length-drop a gs in omega (arith, e, f, h))

  -- what holds of each of the three parts holds of a place
  of_place : (P : ℕ → ℕ → Type 0) → ((k : ℕ) → k < min a (length gs) → P k k) → ((k : ℕ) → min a (length gs) ≤ k → k < min a (length gs) + length new → P k model)
      → ((k : ℕ) → min a (length gs) + length new ≤ k → P k (k - length new)) → (k : ℕ) → P k (place_of k)
  unfolding place_of
  of_place P front middle back k =
      chosen (P k) (nat_lt k (min a (length gs))) k (cond (nat_lt k (min a (length gs) + length new)) model (k - length new))
      (λ yes. front k (grind (arith, nat_tests, yes)))
      (λ no. let from : min a (length gs) ≤ k = grind (arith, nat_tests, no) in
      chosen (P k) (nat_lt k (min a (length gs) + length new)) model (k - length new) (λ yes. middle k from (grind (arith, nat_tests, yes))) (λ behind. back k (grind (arith, nat_tests, behind))))

  cluster_of_made : (k : ℕ) → k < length made → cluster_at made k ≡ cluster_at gs (place_of k)
  unfolding made
  cluster_of_made k within =
      of_place (λ n p. n < length made → cluster_at made n ≡ cluster_at gs p)
      (λ n before inside. ap (λ (g : hb_glyph_info_t). g.cluster) (get_or_append_left (take a gs) (new ++ drop a gs) no_glyph n (omega (arith, length-take a gs, before)) ∙ get_or-take a gs n no_glyph (omega (arith, before))))
      (λ n from to inside.
      let few : n - min a (length gs) < length new = omega (arith, from, to) in
      ap (λ (g : hb_glyph_info_t). g.cluster) (get_or-append_right (take a gs) (new ++ drop a gs) (min a (length gs)) n no_glyph (length-take a gs) from ∙ get_or_append_left new (drop a gs) no_glyph (n - min a (length gs)) few)
      ∙ like (n - min a (length gs)) no_glyph few)
      (λ n from inside.
      let long = made_long in
      let at : a + (n - min a (length gs) - length new) ≡ n - length new = omega (arith, from, inside, long) in
      ap (λ (g : hb_glyph_info_t). g.cluster)
      (get_or-append_right (take a gs) (new ++ drop a gs) (min a (length gs)) n no_glyph (length-take a gs) (omega (arith, from))
      ∙ (get_or-append_right new (drop a gs) (length new) (n - min a (length gs)) no_glyph refl (omega (arith, from))
      ∙ (get_or-drop a gs (n - min a (length gs) - length new) no_glyph ∙ ap (λ x. get_or gs x no_glyph) at))))
      k within

  place_inside : (k : ℕ) → k < length made → place_of k < length gs
  place_inside k within =
      let long = made_long in
      of_place (λ n p. n < length made → p < length gs) (λ n before inside. omega (arith, before)) (λ n from to inside. some) (λ n from inside. omega (arith, from, inside, long, some)) k within

  places_rise : (n m : ℕ) → n < m → m < length made → place_of n ≤ place_of m
  places_rise n m before within =
      of_place (λ x p. x < m → p ≤ place_of m)
      (λ x front less. of_place (λ y q. x < y → x ≤ q) (λ y f l. omega (arith, l)) (λ y from to l. omega (arith, front, low, high, from)) (λ y from l. omega (arith, from, l, front)) m less)
      (λ x from to less. of_place (λ y q. x < y → model ≤ q) (λ y f l. absurd (omega (arith, f, l, from))) (λ y f t l. omega arith) (λ y f l. omega (arith, f, low)) m less)
      (λ x from less. of_place (λ y q. x < y → x - length new ≤ q) (λ y f l. absurd (omega (arith, f, l, from))) (λ y f t l. absurd (omega (arith, t, l, from))) (λ y f l. omega (arith, l)) m less)
      n before

  made_comes : ComesFrom gs made
  made_comes k within = (place_of k, place_inside k within, cluster_of_made k within)

  made_ordered : (R : ℕ → ℕ → Type 0) → ((x y : ℕ) → x ≡ y → R x y) → IsOrdered R gs → IsOrdered R made
  made_ordered R same ordered = order_of_places R same gs made place_of places_rise place_inside cluster_of_made ordered

-- nothing is put in
made_of_none : (gs : List hb_glyph_info_t) (a : ℕ) → take a gs ++ ([] ++ drop a gs) ≡ gs
made_of_none gs a = take-append-drop a gs

-- a new glyph is the model with its id changed
copy_at : (gs : List hb_glyph_info_t) (n : ℕ) (new : List GlyphId) (j : ℕ) (e : hb_glyph_info_t) → j < length (map (λ (g : GlyphId). record (model_at gs n) { glyph_id = g.0 }) new)
    → get_or (map (λ (g : GlyphId). record (model_at gs n) { glyph_id = g.0 }) new) j e ≡ record (model_at gs n) { glyph_id = (get_or new j (record { 0 = 0 })).0 }
copy_at gs n new j e low = get_or-map (λ (g : GlyphId). record (model_at gs n) { glyph_id = g.0 }) new j (record { 0 = 0 }) e (rw (← length-map new (λ (g : GlyphId). record (model_at gs n) { glyph_id = g.0 })) low)

module _ (R : ℕ → ℕ → Type 0) (same : (x y : ℕ) → x ≡ y → R x y) where
  -- what an act leaves of the order and of the clusters
  pub rearrangement_kept : (bound : ℕ) (e : r.Entry) (s : r.Registers) (b : Buffer) → r.IsFit s b.cursor (length b.line) → Kept R same b (r.act bound e s b).buffer
  rearrangement_kept bound e s b fit =
      rl.of_act bound (Kept R same b) e s b fit (kept_refl R same b) (λ v t room some within. moved_keeps R same v t b room some within)

  pub contextual_kept : (classes : Option (List (ℕ × ℕ))) (lookups : List (List (ℕ × ℕ))) (e : c.Entry) (s : c.Registers) (b : Buffer) → Kept R same b (c.act classes lookups e s b).buffer
  contextual_kept classes lookups e s b =
      cl.of_act classes lookups (Kept R same b) (λ d x y k. kept_unsafe R same b d x y k) (λ d n v k. kept_set R same b d n _ refl k) e s b (kept_refl R same b)

  pub ligature_kept : (actions values : List ℕ) (ligatures : List GlyphId) (e : GenericStateEntry ℕ) (s : l.Registers) (b : Buffer) → Kept R same b (l.act actions values ligatures e s b).buffer
  ligature_kept actions values ligatures e s b =
      ll.of_act actions values ligatures (Kept R same b) (λ d n g equal k. kept_set R same b d n g equal k) (λ d x y k. kept_merge_out R same b d x y k) e s b (kept_refl R same b)

  -- a run that goes in keeps the order, since its glyphs are like a neighbour
  inserted_kept : (b d : Buffer) (new : List GlyphId) (n : ℕ) (behind : Bool) (by : ℕ) → 0 < length d.line → Kept R same b d → Kept R same b (record d { line = i.inserted new n behind d.line; cursor = d.cursor + by; positions = None })
  unfolding i.inserted made
  inserted_kept b d new n behind by some k =
      let a = cond (behind && nat_lt n (length d.line)) (n + 1) n in
      let model = min n (length d.line - 1) in
      let copies = i.copies (model_at d.line n) new in
      let like : All (λ g. g.cluster ≡ cluster_at d.line model) copies = λ j e low. ap (λ (g : hb_glyph_info_t). g.cluster) (copy_at d.line n new j e low) in
      let inside : model < length d.line = omega (arith, some) in
      let near : (model ≤ min a (length d.line)) × (min a (length d.line) ≤ model + 1) =
      chosen (λ x. (model ≤ min x (length d.line)) × (min x (length d.line) ≤ model + 1)) (behind && nat_lt n (length d.line)) (n + 1) n
      (λ yes. let low : n < length d.line = grind (arith, nat_tests, yes) in (omega (arith, low), omega (arith, low))) (λ _. (omega (arith, some), omega (arith, some))) in
      record {
        level = k.level;
        from = comes_trans b.line d.line (i.inserted new n behind d.line) k.from (made_comes d.line copies a model inside near.0 near.1 like);
        ordered = λ level ordered. made_ordered d.line copies a model inside near.0 near.1 like R same (k.ordered level ordered);
      }

  -- so does a run of no glyphs
  none_kept : (b d : Buffer) (n : ℕ) (behind : Bool) (by : ℕ) → Kept R same b d → Kept R same b (record d { line = i.inserted [] n behind d.line; cursor = d.cursor + by; positions = None })
  unfolding i.inserted
  none_kept b d n behind by k =
      let a = cond (behind && nat_lt n (length d.line)) (n + 1) n in
      kept_same R same b d _ refl (ap length (made_of_none d.line a)) (λ j low. ap (λ gs. cluster_at gs j) (made_of_none d.line a)) k

  put_kept : (glyphs : List GlyphId) (b d : Buffer) (index count n : ℕ) (behind : Bool) (by : ℕ) → Kept R same b d → Kept R same b (i.put_in (i.run_for glyphs d index count) n behind (d.cursor + by) d)
  put_kept glyphs b d index count n behind by k =
      chosen (λ (new : List GlyphId). Kept R same b (i.put_in new n behind (d.cursor + by) d)) (nat_lt 0 (length d.line) && nat_le (index + count) (length glyphs)) (slice_range glyphs index (index + count)) []
      (λ yes. let some : 0 < length d.line = grind (arith, nat_tests, yes) in inserted_kept b d (slice_range glyphs index (index + count)) n behind by some k) (λ _. none_kept b d n behind by k)

  pub insertion_kept : (glyphs : List GlyphId) (e : i.Entry) (s : i.Registers) (b : Buffer) → Kept R same b (i.act glyphs e s b).buffer
  insertion_kept glyphs e s b =
      il.of_act glyphs (Kept R same b) (λ n d k. kept_same R same b d _ refl refl (λ j low. refl) k) (λ d x y k. kept_unsafe R same b d x y k)
      (λ index count n behind by d k. put_kept glyphs b d index count n behind by k) e s b (kept_refl R same b)
