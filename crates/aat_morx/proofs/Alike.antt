-- Runs under switches that say the same at the clusters of the line.
use Rattle.std.proofs.Common.{◌≡◌, ◌∙◌, ap, sym, refl, ℕ, zero, suc, ◌+◌, ◌-◌, ◌<◌, ◌≤◌, Bool, true, false, cond, not, List, [], ◌∷◌, map, length, Option, Some, None, arith, nat_lt}
use Rattle.std.proofs.lemmas.Bool.Decides.{nat_tests}
use Rattle.aat_buffer.specs.Buffer.{Buffer, with_cursor, with_line, glyph_at}
use Rattle.aat_buffer.specs.Clusters.{ComesFrom}
use Rattle.aat_buffer.specs.Marks.{cluster_at, unsafe_to_break}
use Rattle.aat_buffer.specs.facts.Cases.{chosen, either}
use Rattle.aat_buffer.specs.facts.Order.{Kept, kept_refl, kept_unsafe, comes_refl, comes_trans}
use Rattle.aat_lookup.specs.Keys.{value_in}
use Rattle.aat_machine_tables.specs.Table.{TableValue}
use Rattle.aat_machine_tables.specs.declared.morx.SubtableKind.{SubtableKind}
use Rattle.aat_machine_tables.specs.declared.morx.SubtableKind.TheVariants.{Rearrangement, Contextual, Ligature, NonContextual, Insertion}
use Rattle.aat_machine_tables.specs.declared.state_table.GenericStateEntry.{GenericStateEntry}
use Rattle.aat_glyph.specs.declared.glyph.GlyphPosition.{GlyphPosition}
use Rattle.aat_glyph.specs.declared.glyph.hb_glyph_info_t.{hb_glyph_info_t}
use Rattle.aat_kinds.proofs.LawsHold.{contexts_are_lawful}
use Rattle.aat_kinds.proofs.OrderOfKinds.{Rising, le_same}
use Rattle.aat_kinds.specs.Contextual as c
use Rattle.aat_kinds.specs.Insertion as i
use Rattle.aat_kinds.specs.Kinds.{Sizes, kind_run, rearrangement_run, contextual_run, ligature_run, insertion_run, noncontextual_run}
use Rattle.aat_kinds.specs.Ligature as l
use Rattle.aat_kinds.specs.Rearrangement as r
use Rattle.aat_kinds.specs.Values.{with_answer}
use Rattle.aat_kinds.specs.facts.OrderHolds.{rearrangement_kept, contextual_kept, ligature_kept, insertion_kept}
use Rattle.aat_run.specs.Context.{Context, Config, Machine, machine_of, start, is_at_end, class_at, cluster_seen}
use Rattle.aat_run.specs.Driven.{machine_run, outcome_of}
use Rattle.aat_run.specs.Laws.{IsLawful}
use Rattle.aat_run.specs.Machine.{Turn, Ends, Goes, left_by, run, settled_by, marked, stepped, acted, by_entry, off, passed, counted, turn, run_to_end}
use Rattle.aat_run.specs.Outcome.{Outcome}
use Rattle.aat_run.specs.Safe.{is_safe}
use Rattle.aat_run.specs.Budget.{potential}
use Rattle.aat_run.specs.facts.MachineRuns.{turn_falls, turn_keeps, whole_keeps, whole_makes_none, below_end}
use Rattle.aat_run.specs.facts.Runs.{OnGoes, followed, followed_same, run_step}
use Rattle.aat_run.specs.facts.Turns.{Lower}

-- two switches say the same at each cluster of a line, and at 0 of an empty one
pub record SayAlike (on other : ℕ → Bool) (gs : List hb_glyph_info_t) : Type 0 where
  pub each : (k : ℕ) → k < length gs → on (cluster_at gs k) ≡ other (cluster_at gs k)
  pub empty : length gs ≡ 0 → on 0 ≡ other 0

-- at the clusters of one line, and so at those of one that comes from it
pub alike_from : (on other : ℕ → Bool) (gs hs : List hb_glyph_info_t) → ComesFrom gs hs → length gs ≤ length hs → SayAlike on other gs → SayAlike on other hs
alike_from on other gs hs from longer alike = record {
  each = λ k low. let a = from k low in ap on a.2 ∙ (alike.each a.0 a.1 ∙ ap other (sym a.2));
  empty = λ none. alike.empty (omega (arith, none, longer));
}

module _ {T Q : Type 0} (table : TableValue (GenericStateEntry T)) (x : Context Q (GenericStateEntry T)) (fits : Q → ℕ → ℕ → Type 0) (law : IsLawful x fits) where
  module _ (on other : ℕ → Bool) (b : Buffer)
      (each : (e : GenericStateEntry T) (s : Q) (d : Buffer) → fits s d.cursor (length d.line) → Kept Rising le_same d (x.act e s d).buffer)
      (alike : SayAlike on other b.line)
    where
      abbrev m : Machine Q (GenericStateEntry T)
      m = machine_of on table x

      abbrev n : Machine Q (GenericStateEntry T)
      n = machine_of other table x

      -- a run stands over clusters of the line, and at the end where both switches say the same
      record Good (d : Config Q) : Type 0 where
        stands : fits d.registers d.buffer.cursor (length d.buffer.line)
        from : ComesFrom b.line d.buffer.line
        last : is_at_end d.buffer ≡ true → on d.last ≡ other d.last

      seen_alike : (d : Config Q) → Good d → on (cluster_seen d.buffer d.last) ≡ other (cluster_seen d.buffer d.last)
      seen_alike d good =
          chosen (λ (y : ℕ). on y ≡ other y) (is_at_end d.buffer) d.last (glyph_at d.buffer.line d.buffer.cursor).cluster (λ end. good.last end)
          (λ inside. let a = good.from d.buffer.cursor (below_end d.buffer inside) in ap on a.2 ∙ (alike.each a.0 a.1 ∙ ap other (sym a.2)))

      same_by_entry : (o : Option (GenericStateEntry T)) (d : Config Q) → by_entry m o d ≡ by_entry n o d
      unfolding by_entry acted marked is_safe
      same_by_entry None d = refl
      same_by_entry (Some e) d = refl

      same_turn : (d : Config Q) → Good d → turn m d ≡ turn n d
      unfolding turn off
      same_turn d good =
          let o = counted m d in
          let entry = m.entry o.state (class_at m.class_of o.buffer) in
          ap (λ (t : Bool). cond t (by_entry m entry o) (off m o)) (seen_alike d good)
          ∙ ap (λ (t : Turn (Config Q)). cond (other o.last) t (off m o)) (same_by_entry entry o)

      last_of_settled : (step : Buffer → Buffer) (d : Config Q) → (left_by (settled_by step d)).last ≡ d.last
      last_of_settled step d = either (λ (t : Turn (Config Q)). (left_by t).last) (is_at_end d.buffer) (Ends d) (Goes _) _ refl refl

      last_of_entry : (o : Option (GenericStateEntry T)) (d : Config Q) → (left_by (by_entry m o d)).last ≡ d.last
      unfolding by_entry acted
      last_of_entry None d = refl
      last_of_entry (Some e) d = last_of_settled (stepped (x.advances e)) _

      last_of_off : (d : Config Q) → (left_by (off m d)).last ≡ d.last
      unfolding off
      last_of_off d = either (λ (t : Turn (Config Q)). (left_by t).last) (is_at_end d.buffer) (Ends d) (Goes _) _ refl refl

      last_of_turn : (d : Config Q) → (left_by (turn m d)).last ≡ cluster_seen d.buffer d.last
      unfolding turn
      last_of_turn d =
          let o = counted m d in
          either (λ (t : Turn (Config Q)). (left_by t).last) (m.on o.last) (by_entry m (m.entry o.state (class_at m.class_of o.buffer)) o) (off m o) _
          (last_of_entry (m.entry o.state (class_at m.class_of o.buffer)) o) (last_of_off o)

      kept_turn : (d : Config Q) → Good d → ComesFrom b.line (left_by (turn m d)).buffer.line
      kept_turn d good =
          turn_keeps m fits law.keeps_fit law.passes_fit law.pays (λ (e : Buffer). ComesFrom b.line e.line)
          (λ e from. comes_trans b.line e.line (unsafe_to_break e (Some (e.cursor - 1)) (Some (e.cursor + 1))).line from (kept_unsafe Rising le_same e e (Some (e.cursor - 1)) (Some (e.cursor + 1)) (kept_refl Rising le_same e)).from)
          (λ e s d fit from. comes_trans b.line d.line (x.act e s d).buffer.line from (each e s d fit).from)
          (λ e from. from) (λ e from. from) d good.stands good.from

      good_turn : (d : Config Q) → Good d → OnGoes Good (turn m d)
      good_turn d good = by_turn (turn m d) (turn_falls m fits law.keeps_fit law.passes_fit law.pays d good.stands) (kept_turn d good) (rw (last_of_turn d) (seen_alike d good))
        where
          by_turn : (t : Turn (Config Q)) → OnGoes (Lower fits (potential d.buffer)) t → ComesFrom b.line (left_by t).buffer.line → on (left_by t).last ≡ other (left_by t).last → OnGoes Good t
          by_turn (Ends e) h from last = tt
          by_turn (Goes e) h from last = record { stands = h.1; from = from; last = λ _. last }

      same_run : (k : ℕ) (d : Config Q) → Good d → run (turn m) k d ≡ run (turn n) k d
      unfolding run
      same_run zero d good = refl
      same_run (suc k) d good =
          run_step (turn m) k d
          ∙ (followed_same (run (turn m) k) (run (turn n) k) Good (turn m d) (good_turn d good) (λ e h. same_run k e h)
          ∙ (ap (followed (run (turn n) k)) (same_turn d good) ∙ sym (run_step (turn n) k d)))

      same_whole : (d : Config Q) → Good d → run_to_end m d ≡ run_to_end n d
      unfolding run_to_end
      same_whole d good = same_run (potential d.buffer + 1) d good

      -- the runs under both are one
      pub machine_alike : machine_run on table x b ≡ machine_run other table x b
      unfolding machine_run
      machine_alike = by_place x.in_place
        where
          at_front : length b.line ≡ 0 → on 0 ≡ other 0
          at_front none = alike.empty none

          ended : (p : ℕ) → not (nat_lt 0 p) ≡ true → p ≡ 0
          ended p end = grind (arith, nat_tests, end)

          by_place : (p : Bool) → outcome_of (run_to_end (machine_of on table x) (start p b x.fresh)) ≡ outcome_of (run_to_end (machine_of other table x) (start p b x.fresh))
          by_place true = ap outcome_of (same_whole (start true b x.fresh) (record { stands = law.fresh (length b.line); from = comes_refl b.line; last = λ end. at_front (ended (length b.line) end) }))
          by_place false = ap outcome_of (same_whole (start false b x.fresh) (record { stands = law.fresh (length b.line); from = comes_refl b.line; last = λ end. at_front (ended (length b.line) end) }))

  -- a run that is on nowhere passes over the line
  off_everywhere : (d : Config Q) → with_cursor (left_by (turn (machine_of (λ _. false) table x) d)).buffer 0 ≡ with_cursor d.buffer 0
  unfolding turn off
  off_everywhere d =
      let o = counted (machine_of (λ _. false) table x) d in
      either (λ (t : Turn (Config Q)). with_cursor (left_by t).buffer 0) (is_at_end d.buffer) (Ends o) (Goes (record o { buffer = passed o.buffer; state = 0 })) _ refl refl

  pub machine_off : (b : Buffer) → b.positions ≡ None → (machine_run (λ _. false) table x b).buffer ≡ with_cursor b 0
  unfolding machine_run
  machine_off b none = by_place x.in_place
    where
      from_here : (d : Config Q) → fits d.registers d.buffer.cursor (length d.buffer.line) → with_cursor d.buffer 0 ≡ with_cursor b 0 → (outcome_of (run_to_end (machine_of (λ _. false) table x) d)).buffer ≡ with_cursor b 0
      from_here d stands same =
          whole_keeps (machine_of (λ _. false) table x) fits law.keeps_fit law.passes_fit law.pays (λ (e : Config Q). with_cursor e.buffer 0 ≡ with_cursor b 0) (λ e h p. off_everywhere e ∙ p) d stands same

      by_place : (p : Bool) → (outcome_of (run_to_end (machine_of (λ _. false) table x) (start p b x.fresh))).buffer ≡ with_cursor b 0
      by_place true = from_here (start true b x.fresh) (law.fresh (length b.line)) refl
      by_place false = from_here (start false b x.fresh) (law.fresh (length b.line)) (ap (λ (q : Option (List GlyphPosition)). record b { cursor = 0; positions = q }) (sym none))

  -- a run does not ask where the cursor stood
  pub machine_at_front : (on : ℕ → Bool) (b : Buffer) → machine_run on table x (with_cursor b 0) ≡ machine_run on table x b
  unfolding machine_run
  machine_at_front on b = by_place x.in_place
    where
      by_place : (p : Bool) → outcome_of (run_to_end (machine_of on table x) (start p (with_cursor b 0) x.fresh)) ≡ outcome_of (run_to_end (machine_of on table x) (start p b x.fresh))
      by_place true = refl
      by_place false = refl

  -- a run makes no positions
  pub machine_makes_none : (on : ℕ → Bool) (b : Buffer) → b.positions ≡ None → (machine_run on table x b).buffer.positions ≡ None
  unfolding machine_run
  machine_makes_none on b none = by_place x.in_place
    where
      by_place : (p : Bool) → (outcome_of (run_to_end (machine_of on table x) (start p b x.fresh))).buffer.positions ≡ None
      by_place true = whole_makes_none (machine_of on table x) fits law.keeps_fit law.passes_fit law.pays law.makes_no_positions (start true b x.fresh) (law.fresh (length b.line)) none
      by_place false = whole_makes_none (machine_of on table x) fits law.keeps_fit law.passes_fit law.pays law.makes_no_positions (start false b x.fresh) (law.fresh (length b.line)) refl

-- the noncontextual map under both is one
map_alike : (on other : ℕ → Bool) (f : hb_glyph_info_t → hb_glyph_info_t) (gs : List hb_glyph_info_t) → ((k : ℕ) → k < length gs → on (cluster_at gs k) ≡ other (cluster_at gs k))
    → map (λ g. cond (on g.cluster) (f g) g) gs ≡ map (λ g. cond (other g.cluster) (f g) g) gs
map_alike on other f [] each = refl
map_alike on other f (g ∷ gs) each =
    ap (λ (t : Bool). cond t (f g) g ∷ map (λ h. cond (on h.cluster) (f h) h) gs) (each 0 (omega arith))
    ∙ ap (λ (hs : List hb_glyph_info_t). cond (other g.cluster) (f g) g ∷ hs) (map_alike on other f gs (λ k low. each (suc k) (omega (arith, low))))

map_none : (gs : List hb_glyph_info_t) → map (λ g. g) gs ≡ gs
map_none [] = refl
map_none (g ∷ gs) = ap (λ (hs : List hb_glyph_info_t). g ∷ hs) (map_none gs)

-- the run of a subtable under two switches that say the same at the clusters of the line
pub kind_alike : (z : Sizes) (on other : ℕ → Bool) (k : SubtableKind) (b : Buffer) → 0 < z.slots → SayAlike on other b.line → kind_run z on k b ≡ kind_run z other k b
unfolding rearrangement_run contextual_run ligature_run insertion_run noncontextual_run
kind_alike z on other (Rearrangement table) b some alike =
    machine_alike table (r.context z.bound) r.IsFit (contexts_are_lawful.rearrangement_is_lawful z.bound) on other b (λ e s d fit. rearrangement_kept Rising le_same z.bound e s d fit) alike
kind_alike z on other (Contextual s) b some alike =
    machine_alike s.state (c.context z.classes s.lookups) c.IsFit (contexts_are_lawful.contextual_is_lawful z.classes s.lookups) on other b (λ e q d fit. contextual_kept Rising le_same z.classes s.lookups e q d) alike
kind_alike z on other (Ligature s) b some alike =
    machine_alike s.state (l.context s.actions s.components s.ligatures z.slots) l.IsFit (contexts_are_lawful.ligature_is_lawful s.actions s.components s.ligatures z.slots some) on other b
    (λ e q d fit. ligature_kept Rising le_same s.actions s.components s.ligatures e q d) alike
kind_alike z on other (Insertion s) b some alike =
    machine_alike s.state (i.context s.glyphs) i.IsFit (contexts_are_lawful.insertion_is_lawful s.glyphs) on other b (λ e q d fit. insertion_kept Rising le_same s.glyphs e q d) alike
kind_alike z on other (NonContextual lookup) b some alike =
    ap (λ (gs : List hb_glyph_info_t). record { buffer = with_line b gs; turns = length b.line }) (map_alike on other (λ g. with_answer z.classes (value_in lookup g.glyph_id) g) b.line alike.each)

-- the run of a subtable that is on nowhere
pub kind_off : (z : Sizes) (k : SubtableKind) (b : Buffer) → 0 < z.slots → b.positions ≡ None → with_cursor (kind_run z (λ _. false) k b).buffer 0 ≡ with_cursor b 0
unfolding rearrangement_run contextual_run ligature_run insertion_run noncontextual_run
kind_off z (Rearrangement table) b some none = ap (λ (d : Buffer). with_cursor d 0) (machine_off table (r.context z.bound) r.IsFit (contexts_are_lawful.rearrangement_is_lawful z.bound) b none)
kind_off z (Contextual s) b some none = ap (λ (d : Buffer). with_cursor d 0) (machine_off s.state (c.context z.classes s.lookups) c.IsFit (contexts_are_lawful.contextual_is_lawful z.classes s.lookups) b none)
kind_off z (Ligature s) b some none =
    ap (λ (d : Buffer). with_cursor d 0) (machine_off s.state (l.context s.actions s.components s.ligatures z.slots) l.IsFit (contexts_are_lawful.ligature_is_lawful s.actions s.components s.ligatures z.slots some) b none)
kind_off z (Insertion s) b some none = ap (λ (d : Buffer). with_cursor d 0) (machine_off s.state (i.context s.glyphs) i.IsFit (contexts_are_lawful.insertion_is_lawful s.glyphs) b none)
kind_off z (NonContextual lookup) b some none = ap (λ (gs : List hb_glyph_info_t). record b { cursor = 0; line = gs }) (map_none b.line)

-- where the cursor stood is not seen behind it
pub kind_at_front : (z : Sizes) (on : ℕ → Bool) (k : SubtableKind) (b : Buffer) → 0 < z.slots → with_cursor (kind_run z on k (with_cursor b 0)).buffer 0 ≡ with_cursor (kind_run z on k b).buffer 0
unfolding rearrangement_run contextual_run ligature_run insertion_run noncontextual_run
kind_at_front z on (Rearrangement table) b some = ap (λ (o : Outcome). with_cursor o.buffer 0) (machine_at_front table (r.context z.bound) r.IsFit (contexts_are_lawful.rearrangement_is_lawful z.bound) on b)
kind_at_front z on (Contextual s) b some = ap (λ (o : Outcome). with_cursor o.buffer 0) (machine_at_front s.state (c.context z.classes s.lookups) c.IsFit (contexts_are_lawful.contextual_is_lawful z.classes s.lookups) on b)
kind_at_front z on (Ligature s) b some =
    ap (λ (o : Outcome). with_cursor o.buffer 0) (machine_at_front s.state (l.context s.actions s.components s.ligatures z.slots) l.IsFit (contexts_are_lawful.ligature_is_lawful s.actions s.components s.ligatures z.slots some) on b)
kind_at_front z on (Insertion s) b some = ap (λ (o : Outcome). with_cursor o.buffer 0) (machine_at_front s.state (i.context s.glyphs) i.IsFit (contexts_are_lawful.insertion_is_lawful s.glyphs) on b)
kind_at_front z on (NonContextual lookup) b some = refl

-- nor do positions come to stand
pub kind_makes_none : (z : Sizes) (on : ℕ → Bool) (k : SubtableKind) (b : Buffer) → 0 < z.slots → b.positions ≡ None → (kind_run z on k b).buffer.positions ≡ None
unfolding rearrangement_run contextual_run ligature_run insertion_run noncontextual_run
kind_makes_none z on (Rearrangement table) b some none = machine_makes_none table (r.context z.bound) r.IsFit (contexts_are_lawful.rearrangement_is_lawful z.bound) on b none
kind_makes_none z on (Contextual s) b some none = machine_makes_none s.state (c.context z.classes s.lookups) c.IsFit (contexts_are_lawful.contextual_is_lawful z.classes s.lookups) on b none
kind_makes_none z on (Ligature s) b some none =
    machine_makes_none s.state (l.context s.actions s.components s.ligatures z.slots) l.IsFit (contexts_are_lawful.ligature_is_lawful s.actions s.components s.ligatures z.slots some) on b none
kind_makes_none z on (Insertion s) b some none = machine_makes_none s.state (i.context s.glyphs) i.IsFit (contexts_are_lawful.insertion_is_lawful s.glyphs) on b none
kind_makes_none z on (NonContextual lookup) b some none = none
