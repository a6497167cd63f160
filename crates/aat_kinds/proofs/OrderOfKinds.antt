-- The runs of the kinds keep the order of clusters, and what they keep of the glyphs.
use Rattle.std.proofs.Common.{◌≡◌, ℕ, ◌+◌, ◌-◌, ◌<◌, ◌≤◌, ◌&&◌, Bool, true, false, cond, List, length, get_or, refl, sym, ap, ◌∙◌, arith, Option, Some, None, nat_lt}
use Rattle.std.proofs.lemmas.List.{length-map, get_or-map}
use Rattle.std.proofs.lemmas.List.Sorted.{IsPermutation-refl, IsPermutation-trans}
use Rattle.std.specs.Prelude.{IsPermutation}
use Rattle.aat_buffer.specs.Buffer.{Buffer, no_glyph, with_cursor, without_positions}
use Rattle.aat_buffer.specs.Marks.{unsafe_to_concat, produces_concat, concat_marked, on_span, with_line, with_mask_bits, end_place, clusters_stay_apart}
use Rattle.aat_glyph.specs.declared.glyph.hb_glyph_info_t.{hb_glyph_info_t}
use Rattle.aat_machine_tables.specs.Table.{TableValue}
use Rattle.aat_machine_tables.specs.declared.entries.ContextualEntryData.{ContextualEntryData}
use Rattle.aat_lookup.specs.declared.glyph_id.GlyphId.{GlyphId}
use Rattle.aat_machine_tables.specs.declared.state_table.GenericStateEntry.{GenericStateEntry}
use Rattle.aat_lookup.specs.Keys.{value_in}
use Rattle.aat_run.specs.Context.{Context, machine_of, start}
use Rattle.aat_kinds.specs.Kinds.{Sizes, kind_run, rearrangement_run, contextual_run, ligature_run, insertion_run, noncontextual_run}
use Rattle.aat_run.specs.Driven.{machine_run}
use Rattle.aat_buffer.specs.Clusters.{ids}
use Rattle.aat_run.specs.Laws.{IsLawful}
use Rattle.aat_kinds.specs.Lawful.{ActsKeepOrder, GlyphsAreKept}
use Rattle.aat_run.specs.Machine.{run_to_end}
use Rattle.aat_kinds.specs.Values.{with_answer}
use Rattle.aat_buffer.specs.facts.Clusters.{length_on_span_of}
use Rattle.aat_kinds.proofs.LawsHold.{contexts_are_lawful}
use Rattle.aat_buffer.specs.facts.Cases.{chosen}
use Rattle.aat_run.specs.facts.MachineRuns.{buffer_kept, whole_in_place}
use Rattle.aat_buffer.specs.facts.Order.{Kept, kept_refl, kept_same, kept_unsafe, comes_trans, same_on_span}
use Rattle.aat_kinds.specs.facts.OrderHolds.{rearrangement_kept, contextual_kept, ligature_kept, insertion_kept}
use Rattle.aat_kinds.specs.facts.Permutation.{act_permutes}
use Rattle.aat_buffer.specs.facts.Ids.{ids_of_unsafe}
use Rattle.aat_machine_tables.specs.declared.morx.SubtableKind.{SubtableKind}
use Rattle.aat_machine_tables.specs.declared.morx.SubtableKind.TheVariants.{Rearrangement, Contextual, Ligature, NonContextual, Insertion}
use Rattle.aat_kinds.specs.Rearrangement as r
use Rattle.aat_kinds.specs.Contextual as c
use Rattle.aat_kinds.specs.Ligature as l
use Rattle.aat_kinds.specs.Insertion as i

pub le_same : (x y : ℕ) → x ≡ y → x ≤ y
le_same x y e = omega (arith, e)

pub ge_same : (x y : ℕ) → x ≡ y → y ≤ x
ge_same x y e = omega (arith, e)

abbrev pub Rising : ℕ → ℕ → Type 0
Rising x y = x ≤ y

abbrev pub Falling : ℕ → ℕ → Type 0
Falling x y = y ≤ x

pub acts_keep_order : ActsKeepOrder
acts_keep_order = record {
  rearrangement_keeps = λ bound. record {
    rising = λ e s b fit level ordered. (rearrangement_kept Rising le_same bound e s b fit).ordered level ordered;
    falling = λ e s b fit level ordered. (rearrangement_kept Falling ge_same bound e s b fit).ordered level ordered;
    clusters = λ e s b fit. (rearrangement_kept Rising le_same bound e s b fit).from;
  };
  contextual_keeps = λ classes lookups. record {
    rising = λ e s b fit level ordered. (contextual_kept Rising le_same classes lookups e s b).ordered level ordered;
    falling = λ e s b fit level ordered. (contextual_kept Falling ge_same classes lookups e s b).ordered level ordered;
    clusters = λ e s b fit. (contextual_kept Rising le_same classes lookups e s b).from;
  };
  ligature_keeps = λ actions values ligatures. record {
    rising = λ e s b fit level ordered. (ligature_kept Rising le_same actions values ligatures e s b).ordered level ordered;
    falling = λ e s b fit level ordered. (ligature_kept Falling ge_same actions values ligatures e s b).ordered level ordered;
    clusters = λ e s b fit. (ligature_kept Rising le_same actions values ligatures e s b).from;
  };
  insertion_keeps = λ glyphs. record {
    rising = λ e s b fit level ordered. (insertion_kept Rising le_same glyphs e s b).ordered level ordered;
    falling = λ e s b fit level ordered. (insertion_kept Falling ge_same glyphs e s b).ordered level ordered;
    clusters = λ e s b fit. (insertion_kept Rising le_same glyphs e s b).from;
  };
}

cluster_of_answer : (classes : Option (List (ℕ × ℕ))) (o : Option ℕ) (g : hb_glyph_info_t) → (with_answer classes o g).cluster ≡ g.cluster
cluster_of_answer classes None g = refl
cluster_of_answer classes (Some v) g = refl

module _ (R : ℕ → ℕ → Type 0) (same : (x y : ℕ) → x ≡ y → R x y) where
  kept_trans : (a b d : Buffer) → Kept R same a b → Kept R same b d → Kept R same a d
  kept_trans a b d f g = record {
    level = g.level ∙ f.level;
    from = comes_trans a.line b.line d.line f.from g.from;
    ordered = λ level ordered. g.ordered (λ two. level (ap clusters_stay_apart (sym f.level) ∙ two)) (f.ordered level ordered);
  }

  -- a run of a lawful context whose acts keep the clusters
  pub kept_machine : {T Q : Type 0} (on : ℕ → Bool) (table : TableValue (GenericStateEntry T)) (x : Context Q (GenericStateEntry T)) (fits : Q → ℕ → ℕ → Type 0) (b : Buffer) → IsLawful x fits
      → ((e : GenericStateEntry T) (s : Q) (d : Buffer) → fits s d.cursor (length d.line) → Kept R same d (x.act e s d).buffer) → Kept R same b (machine_run on table x b).buffer
  unfolding machine_run
  kept_machine on table x fits b law each =
      let m = machine_of on table x in
      let c = start x.in_place b x.fresh in
      let begun : Kept R same b c.buffer = chosen (λ (d : Buffer). Kept R same b (with_cursor d 0)) x.in_place b (without_positions b) (λ _. kept_same R same b b _ refl refl (λ k low. refl) (kept_refl R same b)) (λ _. kept_same R same b b _ refl refl (λ k low. refl) (kept_refl R same b)) in
      let done = buffer_kept m fits law.keeps_fit law.passes_fit law.pays (Kept R same b)
      (λ d k. kept_unsafe R same b d (Some (d.cursor - 1)) (Some (d.cursor + 1)) k)
      (λ e s d fit k. kept_trans b d (x.act e s d).buffer k (each e s d fit))
      (λ d k. kept_same R same b d _ refl refl (λ n low. refl) k)
      (λ d k. kept_same R same b d _ refl refl (λ n low. refl) k) c (law.fresh (length c.buffer.line)) begun in
      kept_same R same b (run_to_end m c).buffer _ refl refl (λ n low. refl) done

  pub kept_kind : (z : Sizes) (on : ℕ → Bool) (k : SubtableKind) (b : Buffer) → 0 < z.slots → Kept R same b (kind_run z on k b).buffer
  unfolding rearrangement_run contextual_run ligature_run insertion_run noncontextual_run
  kept_kind z on (Rearrangement table) b some =
      kept_machine on table (r.context z.bound) r.IsFit b (contexts_are_lawful.rearrangement_is_lawful z.bound) (λ e s d fit. rearrangement_kept R same z.bound e s d fit)
  kept_kind z on (Contextual s) b some =
      kept_machine on s.state (c.context z.classes s.lookups) c.IsFit b (contexts_are_lawful.contextual_is_lawful z.classes s.lookups) (λ e r d fit. contextual_kept R same z.classes s.lookups e r d)
  kept_kind z on (Ligature s) b some =
      kept_machine on s.state (l.context s.actions s.components s.ligatures z.slots) l.IsFit b (contexts_are_lawful.ligature_is_lawful s.actions s.components s.ligatures z.slots some) (λ e r d fit. ligature_kept R same s.actions s.components s.ligatures e r d)
  kept_kind z on (Insertion s) b some =
      kept_machine on s.state (i.context s.glyphs) i.IsFit b (contexts_are_lawful.insertion_is_lawful s.glyphs) (λ e r d fit. insertion_kept R same s.glyphs e r d)
  kept_kind z on (NonContextual lookup) b some =
      let f = λ (g : hb_glyph_info_t). cond (on g.cluster) (with_answer z.classes (value_in lookup g.glyph_id) g) g in
      kept_same R same b b _ refl (length-map b.line f)
      (λ n low. ap (λ (g : hb_glyph_info_t). g.cluster) (get_or-map f b.line n no_glyph no_glyph low) ∙ cluster_of_choice (get_or b.line n no_glyph)) (kept_refl R same b)
    where
      cluster_of_choice : (g : hb_glyph_info_t) → (cond (on g.cluster) (with_answer z.classes (value_in lookup g.glyph_id) g) g).cluster ≡ g.cluster
      cluster_of_choice g = chosen (λ (h : hb_glyph_info_t). h.cluster ≡ g.cluster) (on g.cluster) (with_answer z.classes (value_in lookup g.glyph_id) g) g (λ _. cluster_of_answer z.classes (value_in lookup g.glyph_id) g) (λ _. refl)

  -- marking the whole line changes no cluster
  pub kept_concat : (b : Buffer) → Kept R same b (unsafe_to_concat b None None)
  kept_concat b =
      let j = end_place None (length b.line) in
      chosen (λ (gs : List hb_glyph_info_t). Kept R same b (with_line b gs)) (produces_concat b.flags && nat_lt 0 j) (on_span concat_marked 0 j b.line) b.line
      (λ _. kept_same R same b b _ refl (length_span_of b j) (λ n low. same_on_span (with_mask_bits 2) 0 j b.line (omega arith) (omega arith) (λ g. refl) n) (kept_refl R same b)) (λ _. kept_refl R same b)
    where
      length_span_of : (d : Buffer) (j : ℕ) → length (on_span concat_marked 0 (end_place None (length d.line)) d.line) ≡ length d.line
      length_span_of d j = length_on_span_of (with_mask_bits 2) 0 (end_place None (length d.line)) d.line (omega arith) (omega arith)

run_permutes : (bound : ℕ) (on : ℕ → Bool) (table : TableValue (GenericStateEntry (Unit {0}))) (b : Buffer) → IsPermutation (ids b.line) (ids (rearrangement_run bound on table b).buffer.line)
unfolding rearrangement_run machine_run
run_permutes bound on table b =
    let x = r.context bound in
    let law = contexts_are_lawful.rearrangement_is_lawful bound in
    buffer_kept (machine_of on table x) r.IsFit law.keeps_fit law.passes_fit law.pays (λ d. IsPermutation (ids b.line) (ids d.line))
    (λ d k. rw (ids_of_unsafe d (Some (d.cursor - 1)) (Some (d.cursor + 1))) k)
    (λ e s d fit k. IsPermutation-trans (ids b.line) (ids d.line) (ids (r.act bound e s d).buffer.line) k (act_permutes bound e s d fit))
    (λ d k. k) (λ d k. k) (start true b r.fresh) (law.fresh (length b.line)) (IsPermutation-refl (ids b.line))

contextual_number : (on : ℕ → Bool) (classes : Option (List (ℕ × ℕ))) (table : TableValue (GenericStateEntry ContextualEntryData)) (lookups : List (List (ℕ × ℕ))) (b : Buffer) → length (contextual_run on classes table lookups b).buffer.line ≡ length b.line
unfolding contextual_run machine_run
contextual_number on classes table lookups b =
    let law = contexts_are_lawful.contextual_is_lawful classes lookups in
    whole_in_place (machine_of on table (c.context classes lookups)) c.IsFit law.keeps_fit law.passes_fit law.pays (contexts_are_lawful.contextual_stays classes lookups).length (start true b c.fresh) (law.fresh (length b.line))

ligature_number : (size : ℕ) (on : ℕ → Bool) (table : TableValue (GenericStateEntry ℕ)) (actions values : List ℕ) (ligatures : List GlyphId) (b : Buffer) → 0 < size → length (ligature_run size on table actions values ligatures b).buffer.line ≡ length b.line
unfolding ligature_run machine_run
ligature_number size on table actions values ligatures b some =
    let law = contexts_are_lawful.ligature_is_lawful actions values ligatures size some in
    whole_in_place (machine_of on table (l.context actions values ligatures size)) l.IsFit law.keeps_fit law.passes_fit law.pays (contexts_are_lawful.ligature_keeps_length actions values ligatures) (start false b (l.fresh size)) (law.fresh (length b.line))

noncontextual_number : (on : ℕ → Bool) (classes : Option (List (ℕ × ℕ))) (lookup : List (ℕ × ℕ)) (b : Buffer) → length (noncontextual_run on classes lookup b).buffer.line ≡ length b.line
unfolding noncontextual_run
noncontextual_number on classes lookup b = length-map b.line _

pub glyphs_are_kept : GlyphsAreKept
glyphs_are_kept = record { rearrangement_permutes = run_permutes; contextual_number = contextual_number; ligature_number = ligature_number; noncontextual_number = noncontextual_number }
