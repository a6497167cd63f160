-- What the closing run of each kind of subtable keeps.
use Rattle.std.proofs.Common.{◌≡◌, ◌∙◌, ℕ, ◌+◌, ◌-◌, ◌<◌, ◌≤◌, ◌&&◌, ◌||◌, Bool, true, false, cond, List, [], ◌∷◌, ◌++◌, length, take, drop, map, min, nat_le, nat_lt, Option, None, Some, refl, ap, sym, arith, length-set}
use Rattle.std.proofs.Math.Seq.{map-set_same}
use Rattle.std.proofs.lemmas.Bool.{and_from, and_parts}
use Rattle.std.proofs.lemmas.Bool.Decides.{nat_tests}
use Rattle.std.proofs.lemmas.List.{length-map, take-append-drop}
use Rattle.std.proofs.lemmas.List.Folds.{list_all-append, list_any-append, list_any_at}
use Rattle.std.specs.List.{list_all, list_any}
use Rattle.std.specs.Prelude.{slice_range, slice_set}
use Rattle.aat_buffer.specs.Buffer.{Buffer, model_at, no_glyph, with_line}
use Rattle.aat_buffer.specs.Clusters.{IsOrdered}
use Rattle.aat_buffer.specs.Marks.{merge_out_clusters}
use Rattle.aat_buffer.specs.facts.Cases.{chosen}
use Rattle.aat_buffer.specs.facts.Clusters.{order_of_clusters, order_of_merge_out}
use Rattle.aat_buffer.specs.facts.Order.{Kept, kept_refl, kept_same, same_set}
use Rattle.aat_glyph.specs.declared.glyph.hb_glyph_info_t.{hb_glyph_info_t}
use Rattle.aat_lookup.specs.declared.glyph_id.GlyphId.{GlyphId}
use Rattle.aat_machine_tables.specs.Table.{TableValue}
use Rattle.aat_machine_tables.specs.declared.morx.SubtableKind.TheVariants.{Rearrangement, Contextual, Ligature, NonContextual, Insertion}
use Rattle.aat_machine_tables.specs.declared.state_table.GenericStateEntry.{GenericStateEntry}
use Rattle.aat_run.specs.Budget.{operations_left}
use Rattle.aat_run.specs.facts.MachineRuns.{paid_less}
use Rattle.aat_kinds.specs.Contextual as contextual
use Rattle.aat_kinds.specs.Insertion as insertion
use Rattle.aat_kinds.specs.Kinds.{Sizes, noncontextual_run}
use Rattle.aat_kinds.specs.Ligature as ligature
use Rattle.aat_kinds.specs.Rearrangement as rearrangement
use Rattle.aat_kinds.specs.Values.{with_answer, with_looked_up_value}
use Rattle.aat_kinds.specs.facts.ContextualLaws as contextual_laws
use Rattle.aat_kinds.specs.facts.InsertionLaws as insertion_laws
use Rattle.aat_kinds.specs.facts.LigatureLaws as ligature_laws
use Rattle.aat_kinds.specs.facts.OrderHolds.{contextual_kept, insertion_kept, ligature_kept, rearrangement_kept}
use Rattle.aat_kinds.specs.facts.RearrangementLaws as rearrangement_laws
use Rattle.aat_lookup.specs.Keys.{value_in}
use Rattle.aat_cut_kinds.specs.Greater.{clusters}
use Rattle.aat_cut_kinds.specs.Open.{is_of, is_open, is_unmarked_for}
use Rattle.aat_cut_kinds.specs.facts.ContextualCuts.{steady}
use Rattle.aat_cut_kinds.specs.facts.Flags.{calm_masks}
use Rattle.aat_cut_kinds.specs.facts.MarksOnly.{same_at}
use Rattle.aat_cut_kinds.specs.facts.MergedOpens.{merge_out_open_falling, merge_out_open_rising}
use Rattle.aat_cut_kinds.specs.facts.Opens.{steady_open, unsafe_open}
use Rattle.aat_closing.specs.Closing.{contextual_from, insertion_from, ligature_from, rearrangement_from}
use Rattle.aat_closing.specs.ClosingRuns.{closing_run, contextual_closing, insertion_closing, ligature_closing, rearrangement_closing, told_run}
use Rattle.aat_closing.specs.facts.ToldKeeps.{ClosingRunsKeep, KeepsTold, OpensNone}
use Rattle.aat_closing.specs.facts.LigatureActs.{act_keeps}
use Rattle.aat_closing.specs.facts.RearrangementActs.{act_opens}
use Rattle.aat_closing.specs.facts.ToldKeepsActs.{IsKeeping, OpensNoneAlong, keeping_closed, order_kept, told_keeps}

-- Rearrangement
module _ (bound : ℕ) where
  rearrangement_keeping : IsKeeping (rearrangement.act bound) rearrangement.IsFit true
  rearrangement_keeping = record {
    keeps_fit = rearrangement_laws.keeps_fit bound;
    passes_fit = rearrangement_laws.passes_fit;
    pays = rearrangement_laws.pays bound;
    keeps_settings = rearrangement_laws.keeps_settings bound;
    keeps_order = order_kept (rearrangement.act bound) rearrangement.IsFit (λ R same e r b fit. rearrangement_kept R same bound e r b fit);
    spends = λ e r b fit. rw (rearrangement_laws.keeps bound e r b fit).budget (omega arith);
    rising = λ e r b fit level ordered c is. act_opens c bound e r b fit ordered is;
    falling = λ never. absurd (cc);
  }

  pub rearrangement_keeps : (on : ℕ → Bool) (table : TableValue rearrangement.Entry) → KeepsTold true (told_run on table (rearrangement_closing bound))
  rearrangement_keeps on table =
      told_keeps on table (rearrangement_closing bound) rearrangement.IsFit true
      (keeping_closed rearrangement.IsFit (rearrangement.act bound) rearrangement_from rearrangement_keeping) rearrangement_laws.fits_fresh

-- Contextual: clusters stay where they are.
module _ (classes : Option (List (ℕ × ℕ))) (lookups : List (List (ℕ × ℕ))) where
  contextual_opens : (R : ℕ → ℕ → Type 0) → OpensNoneAlong (contextual.act classes lookups) contextual.IsFit R
  contextual_opens R e r b fit level ordered c is =
      let kept = steady classes lookups e r b in
      steady_open c b.line (contextual.act classes lookups e r b).buffer.line kept.clusters_kept kept.calm is

  contextual_keeping : IsKeeping (contextual.act classes lookups) contextual.IsFit false
  contextual_keeping = record {
    keeps_fit = contextual_laws.keeps_fit classes lookups;
    passes_fit = contextual_laws.passes_fit;
    pays = contextual_laws.pays classes lookups;
    keeps_settings = contextual_laws.keeps_settings classes lookups;
    keeps_order = order_kept (contextual.act classes lookups) contextual.IsFit (λ R same e r b fit. contextual_kept R same classes lookups e r b);
    spends = λ e r b fit. rw (contextual_laws.keeps classes lookups e r b fit).budget (omega arith);
    rising = contextual_opens (λ x y. x ≤ y);
    falling = λ whole. contextual_opens (λ x y. y ≤ x);
  }

  pub contextual_keeps : (on : ℕ → Bool) (table : TableValue contextual.Entry) → KeepsTold false (told_run on table (contextual_closing classes lookups))
  contextual_keeps on table =
      told_keeps on table (contextual_closing classes lookups) contextual.IsFit false
      (keeping_closed contextual.IsFit (contextual.act classes lookups) contextual_from contextual_keeping) contextual_laws.fits_fresh

-- Ligatures: writes keep clusters and masks, and merges in a line in order open none.
module _ (actions values : List ℕ) (ligatures : List GlyphId) where
  ligature_opens : (R : ℕ → ℕ → Type 0) (same : (x y : ℕ) → x ≡ y → R x y)
      → ((c : ℕ) (b : Buffer) (i j : ℕ) → IsOrdered R b.line → is_open c (merge_out_clusters b i j).line ≡ true → is_open c b.line ≡ true)
      → OpensNoneAlong (ligature.act actions values ligatures) ligature.IsFit R
  ligature_opens R same merges e r b fit level ordered c is =
      (act_keeps (λ d. IsOrdered R d.line × (is_open c d.line ≡ true → is_open c b.line ≡ true))
      (λ d i g equal mask kept. (
        order_of_clusters R same d.line (slice_set d.line i g) (length-set d.line i g) (λ k low. same_set d.line i g equal k low) kept.0,
        λ opens. kept.1
            (steady_open c d.line (slice_set d.line i g) (map-set_same (λ (h : hb_glyph_info_t). h.cluster) d.line i g no_glyph equal)
            (calm_masks d.line (slice_set d.line i g) (map-set_same (λ (h : hb_glyph_info_t). h.mask) d.line i g no_glyph mask)) opens),
      ))
      (λ d i j kept. (order_of_merge_out R same d i j kept.0, λ opens. kept.1 (merges c d i j kept.0 opens)))
      actions values ligatures e r b (ordered, λ opens. opens)).1 is

  ligature_keeping : IsKeeping (ligature.act actions values ligatures) ligature.IsFit false
  ligature_keeping = record {
    keeps_fit = ligature_laws.keeps_fit actions values ligatures;
    passes_fit = ligature_laws.passes_fit;
    pays = ligature_laws.pays actions values ligatures;
    keeps_settings = ligature_laws.keeps_settings actions values ligatures;
    keeps_order = order_kept (ligature.act actions values ligatures) ligature.IsFit (λ R same e r b fit. ligature_kept R same actions values ligatures e r b);
    spends = λ e r b fit. rw (ligature_laws.keeps actions values ligatures e r b fit).budget (omega arith);
    rising = ligature_opens (λ x y. x ≤ y) (λ x y same. omega (arith, same)) merge_out_open_rising;
    falling = λ whole. ligature_opens (λ x y. y ≤ x) (λ x y same. omega (arith, same)) merge_out_open_falling;
  }

  pub ligature_keeps : (size : ℕ) → 0 < size → (on : ℕ → Bool) (table : TableValue (GenericStateEntry ℕ)) → KeepsTold false (told_run on table (ligature_closing table actions values ligatures size))
  ligature_keeps size some on table =
      told_keeps on table (ligature_closing table actions values ligatures size) ligature.IsFit false
      (keeping_closed ligature.IsFit (ligature.act actions values ligatures) (ligature_from actions table) ligature_keeping) (ligature_laws.fits_fresh size some)

-- what one of two has is in the first, where the second has only what it has
first_or : (a b : Bool) → (a || b) ≡ true → (b ≡ true → a ≡ true) → a ≡ true
first_or true b is inner = refl
first_or false b is inner = inner is

-- Insertion: a glyph that goes in has the cluster of one on the line, and none goes away.
any_copy : (c : ℕ) (model : hb_glyph_info_t) (new : List GlyphId) → list_any (is_of c) (insertion.copies model new) ≡ true → is_of c model ≡ true
any_copy c model [] is = absurd (cc)
any_copy c model (g ∷ gs) is = first_or (is_of c model) (list_any (is_of c) (insertion.copies model gs)) is (λ later. any_copy c model gs later)

-- of three parts, what one has is in the first or the last, where the middle has only what they have
outer_any : (a b d e : Bool) → (a || (b || d)) ≡ true → e ≡ (a || d) → (b ≡ true → e ≡ true) → e ≡ true
outer_any true b d e is both inner = both
outer_any false true d e is both inner = inner refl
outer_any false false d e is both inner = both ∙ is

outer_all : (a b d : Bool) → (a && (b && d)) ≡ true → (a && d) ≡ true
outer_all true true d is = is
outer_all true false d is = absurd (cc)
outer_all false b d is = absurd (cc)

inserted_open : (c : ℕ) (new : List GlyphId) (i : ℕ) (behind : Bool) (line : List hb_glyph_info_t) → 0 < length line → is_open c (insertion.inserted new i behind line) ≡ true → is_open c line ≡ true
unfolding insertion.inserted
inserted_open c new i behind line some is =
    let a : ℕ = cond (behind && nat_lt i (length line)) (i + 1) i in
    let made : List hb_glyph_info_t = insertion.copies (model_at line i) new in
    let parts = and_parts (list_any (is_of c) (take a line ++ (made ++ drop a line))) (list_all (is_unmarked_for c) (take a line ++ (made ++ drop a line))) is in
    let any : (list_any (is_of c) (take a line) || (list_any (is_of c) made || list_any (is_of c) (drop a line))) ≡ true =
    ap (λ t. list_any (is_of c) (take a line) || t) (sym (list_any-append (is_of c) made (drop a line))) ∙ (sym (list_any-append (is_of c) (take a line) (made ++ drop a line)) ∙ parts.0) in
    let each : (list_all (is_unmarked_for c) (take a line) && (list_all (is_unmarked_for c) made && list_all (is_unmarked_for c) (drop a line))) ≡ true =
    ap (λ t. list_all (is_unmarked_for c) (take a line) && t) (sym (list_all-append (is_unmarked_for c) made (drop a line))) ∙ (sym (list_all-append (is_unmarked_for c) (take a line) (made ++ drop a line)) ∙ parts.1) in
    let any_of : list_any (is_of c) line ≡ (list_any (is_of c) (take a line) || list_any (is_of c) (drop a line)) = ap (list_any (is_of c)) (sym (take-append-drop a line)) ∙ list_any-append (is_of c) (take a line) (drop a line) in
    let all_of : list_all (is_unmarked_for c) line ≡ (list_all (is_unmarked_for c) (take a line) && list_all (is_unmarked_for c) (drop a line)) =
    ap (list_all (is_unmarked_for c)) (sym (take-append-drop a line)) ∙ list_all-append (is_unmarked_for c) (take a line) (drop a line) in
    and_from (list_any (is_of c) line) (list_all (is_unmarked_for c) line)
    (outer_any (list_any (is_of c) (take a line)) (list_any (is_of c) made) (list_any (is_of c) (drop a line)) (list_any (is_of c) line) any any_of
    (λ copied. list_any_at (is_of c) line (min i (length line - 1)) no_glyph (omega (arith, some)) (any_copy c (model_at line i) new copied)))
    (all_of ∙ outer_all (list_all (is_unmarked_for c) (take a line)) (list_all (is_unmarked_for c) made) (list_all (is_unmarked_for c) (drop a line)) each)

-- where nothing goes in, nothing opens
none_open : (c : ℕ) (i : ℕ) (behind : Bool) (line : List hb_glyph_info_t) → is_open c (insertion.inserted [] i behind line) ≡ true → is_open c line ≡ true
unfolding insertion.inserted
none_open c i behind line is = rw (take-append-drop (cond (behind && nat_lt i (length line)) (i + 1) i) line) at is

module _ (glyphs : List GlyphId) where
  run_open : (c index count i : ℕ) (behind : Bool) (d : Buffer) → is_open c (insertion.inserted (insertion.run_for glyphs d index count) i behind d.line) ≡ true → is_open c d.line ≡ true
  run_open c index count i behind d =
      chosen (λ (new : List GlyphId). is_open c (insertion.inserted new i behind d.line) ≡ true → is_open c d.line ≡ true) (nat_lt 0 (length d.line) && nat_le (index + count) (length glyphs)) (slice_range glyphs index (index + count)) []
      (λ yes. let some : 0 < length d.line = grind (arith, nat_tests, yes) in inserted_open c (slice_range glyphs index (index + count)) i behind d.line some)
      (λ _. none_open c i behind d.line)

  insertion_opens : (R : ℕ → ℕ → Type 0) → OpensNoneAlong (insertion.act glyphs) insertion.IsFit R
  insertion_opens R e r b fit level ordered c is =
      insertion_laws.of_act glyphs (λ d. is_open c d.line ≡ true → is_open c b.line ≡ true) (λ n d k. k) (λ d i j k opens. k (unsafe_open c d i j opens))
      (λ index count i behind by d k opens. k (run_open c index count i behind d opens)) e r b (λ opens. opens) is

  insertion_keeping : IsKeeping (insertion.act glyphs) insertion.IsFit false
  insertion_keeping = record {
    keeps_fit = insertion_laws.keeps_fit glyphs;
    passes_fit = insertion_laws.passes_fit;
    pays = insertion_laws.pays glyphs;
    keeps_settings = insertion_laws.keeps_settings glyphs;
    keeps_order = order_kept (insertion.act glyphs) insertion.IsFit (λ R same e r b fit. insertion_kept R same glyphs e r b);
    spends = λ e r b fit.
        insertion_laws.of_act glyphs (λ d. operations_left d.max_ops ≤ operations_left b.max_ops) (λ n d k. let less = paid_less n d.max_ops in omega (arith, less, k)) (λ d i j k. k) (λ index count i behind by d k. k) e r b (omega arith);
    rising = insertion_opens (λ x y. x ≤ y);
    falling = λ whole. insertion_opens (λ x y. y ≤ x);
  }

  pub insertion_keeps : (on : ℕ → Bool) (table : TableValue insertion.Entry) → KeepsTold false (told_run on table (insertion_closing glyphs))
  insertion_keeps on table =
      told_keeps on table (insertion_closing glyphs) insertion.IsFit false
      (keeping_closed insertion.IsFit (insertion.act glyphs) insertion_from insertion_keeping) insertion_laws.fits_fresh

-- a change of each glyph alone that leaves a part of it as it was
map_same : {A : Type 0} (f : hb_glyph_info_t → A) (h : hb_glyph_info_t → hb_glyph_info_t) → ((g : hb_glyph_info_t) → f (h g) ≡ f g) → (line : List hb_glyph_info_t) → map f (map h line) ≡ map f line
map_same f h same [] = refl
map_same f h same (g ∷ gs) = λ i. same g i ∷ map_same f h same gs i

-- Noncontextual: each glyph keeps its cluster and its mask.
module _ (on : ℕ → Bool) (classes : Option (List (ℕ × ℕ))) (lookup : List (ℕ × ℕ)) where
  answered : {A : Type 0} (f : hb_glyph_info_t → A) → ((id props : ℕ) (g : hb_glyph_info_t) → f (record g { glyph_id = id; glyph_props = props }) ≡ f g) → (o : Option ℕ) (g : hb_glyph_info_t) → f (with_answer classes o g) ≡ f g
  answered f same None g = refl
  answered f same (Some v) g = same _ _ g

  valued : {A : Type 0} (f : hb_glyph_info_t → A) → ((id props : ℕ) (g : hb_glyph_info_t) → f (record g { glyph_id = id; glyph_props = props }) ≡ f g) → (g : hb_glyph_info_t) → f (with_looked_up_value on classes lookup g) ≡ f g
  valued f same g =
      chosen (λ (h : hb_glyph_info_t). f h ≡ f g) (on g.cluster) (with_answer classes (value_in lookup g.glyph_id) g) g (λ _. answered f same (value_in lookup g.glyph_id) g) (λ _. refl)

  left : Buffer → Buffer
  left b = with_line b (map (with_looked_up_value on classes lookup) b.line)

  same_clusters : (b : Buffer) → clusters (left b).line ≡ clusters b.line
  unfolding left
  same_clusters b = map_same (λ (g : hb_glyph_info_t). g.cluster) (with_looked_up_value on classes lookup) (valued (λ (g : hb_glyph_info_t). g.cluster) (λ id props g. refl)) b.line

  left_kept : (R : ℕ → ℕ → Type 0) (same : (x y : ℕ) → x ≡ y → R x y) (b : Buffer) → Kept R same b (left b)
  unfolding left
  left_kept R same b =
      kept_same R same b b (left b) refl (length-map b.line (with_looked_up_value on classes lookup)) (λ k low. same_at (λ (g : hb_glyph_info_t). g.cluster) (left b).line b.line k (same_clusters b)) (kept_refl R same b)

  left_opens : (b : Buffer) → OpensNone b (left b)
  unfolding left
  left_opens b c is =
      steady_open c b.line (left b).line (same_clusters b)
      (calm_masks b.line (left b).line (map_same (λ (g : hb_glyph_info_t). g.mask) (with_looked_up_value on classes lookup) (valued (λ (g : hb_glyph_info_t). g.mask) (λ id props g. refl)) b.line)) is

pub noncontextual_keeps : (z : Sizes) (on : ℕ → Bool) (lookup : List (ℕ × ℕ)) → KeepsTold false (closing_run z on (NonContextual lookup))
unfolding noncontextual_run left
noncontextual_keeps z on lookup = record {
  order = λ b. record {
    rising = λ level ordered. (left_kept on z.classes lookup (λ x y. x ≤ y) (λ x y same. omega (arith, same)) b).ordered level ordered;
    falling = λ level ordered. (left_kept on z.classes lookup (λ x y. y ≤ x) (λ x y same. omega (arith, same)) b).ordered level ordered;
    clusters = (left_kept on z.classes lookup (λ x y. x ≤ y) (λ x y same. omega (arith, same)) b).from;
  };
  settings = λ b. record { direction = refl; cluster_level = refl; flags = refl; scratch_flags = refl; max_len = refl; successful = refl };
  cursor = λ b front. front;
  budget = λ b. omega arith;
  rising = λ b ordered level. left_opens on z.classes lookup b;
  falling = λ whole b ordered level. left_opens on z.classes lookup b;
}

-- each kind
pub closing_runs_keep : ClosingRunsKeep
closing_runs_keep z on (Rearrangement table) slots = rearrangement_keeps z.bound on table
closing_runs_keep z on (Contextual s) slots = contextual_keeps z.classes s.lookups on s.state
closing_runs_keep z on (Ligature s) slots = ligature_keeps s.actions s.components s.ligatures z.slots slots on s.state
closing_runs_keep z on (NonContextual lookup) slots = noncontextual_keeps z on lookup
closing_runs_keep z on (Insertion s) slots = insertion_keeps s.glyphs on s.state
