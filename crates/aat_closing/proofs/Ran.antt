-- What the driver ran over a fresh closing context is the closing run of a subtable.
use Rattle.std.proofs.Common.{◌≡◌, ◌∙◌, ap, arith, subst, ℕ, Bool, true, false, List, Option}
use Rattle.std.specs.Prelude.{Result, Ok, Err, IfErr, IfOk, OnOk}
use Rattle.aat_buffer.specs.Buffer.{Buffer}
use Rattle.aat_buffer.specs.Clusters.{IsSmall}
use Rattle.aat_machine_tables.specs.Entries.{goes_on}
use Rattle.aat_machine_tables.specs.Judged.{rearrangement_acts}
use Rattle.aat_machine_tables.specs.Subtables.{ContextualTables, InsertionTables, LigatureTables}
use Rattle.aat_machine_tables.specs.Table.{TableValue}
use Rattle.aat_machine_tables.specs.declared.state_table.GenericStateEntry.{GenericStateEntry}
use Rattle.aat_lookup.specs.declared.glyph_id.GlyphId.{GlyphId}
use Rattle.aat_run.specs.Context.{Context}
use Rattle.aat_run.specs.Driven.{IsRefusal, StaysWithin, comes_to_end, context_from, machine_run}
use Rattle.aat_run.specs.Laws.{IsBounded, SameSettings}
use Rattle.aat_run.specs.Outcome.{IsOutcome}
use Rattle.aat_run.specs.Ranges.{is_driven_on}
use Rattle.aat_run.specs.declared.driver.MachineRun.{MachineRun}
use Rattle.aat_run.specs.declared.error.AatError.{AatError}
use Rattle.aat_run.specs.facts.Switched.{driven_is_switched}
use Rattle.aat_kinds.specs.Contextual as contextual
use Rattle.aat_kinds.specs.Insertion as insertion
use Rattle.aat_kinds.specs.Ligature as ligature
use Rattle.aat_kinds.specs.Rearrangement as rearrangement
use Rattle.aat_kinds.specs.Runs.{HasFitRanges, is_on_in}
use Rattle.aat_kinds.specs.declared.run.SubtableRun.{SubtableRun}
use Rattle.aat_kinds.specs.facts.InsertionHeld as held_insertion
use Rattle.aat_kinds.specs.facts.LigatureHeld as held_ligature
use Rattle.aat_closing.specs.Closing.{insertion_may_act}
use Rattle.aat_closing.specs.ClosingRuns.{IsTold, Told, contextual_closing, insertion_closing, ligature_closing, rearrangement_closing, told_run}
use Rattle.aat_closing.specs.Held.{held_contextual_from, held_insertion_from, held_ligature_from, held_rearrangement_from}
use Rattle.aat_closing.specs.Watched.{Watched, watched_act, watched_actionable}
use Rattle.aat_closing.specs.facts.WatchedRuns.{contextual_told, insertion_told, ligature_told, rearrangement_told}

-- an answer of the driver stays within the bounds of a subtable
pub within_by : (answer : Result MachineRun AatError) (b d : Buffer) → OnOk answer (IsSmall d) → IfOk answer (λ o. IsBounded b (record { buffer = d; turns = o.turns }))
    → OnOk answer (SameSettings b d) → IfOk answer (λ o. StaysWithin 1 b d o.turns)
within_by (Ok o) b d ids bounded settings = record { ids = ids; counted = omega (arith, bounded.turns); extent = bounded.extent; settings = settings }
within_by (Err error) b d ids bounded settings = tt

-- what the driver answers of a run, told
module _ {T R : Type 0} (on : ℕ → Bool) (table : TableValue (GenericStateEntry T)) (x : Context R (GenericStateEntry T)) (b d : Buffer) where
  told_by : (answer : Result MachineRun AatError) → IfOk answer (λ o. IsOutcome (machine_run on table x b) d o.turns) → IfOk answer (λ o. o.is_through ≡ comes_to_end on table x b)
      → IfOk answer (IsTold (told_run on table x b) d)
  unfolding told_run
  told_by (Ok o) run through = λ i. record { buffer = (run i).buffer; turns = (run i).turns; is_told = through i }
  told_by (Err error) run through = tt

told_as : (answer : Result MachineRun AatError) (d : Buffer) (t u : Told) → t ≡ u → IfOk answer (IsTold t d) → IfOk answer (IsTold u d)
told_as answer d t u same = subst (λ (x : Told). IfOk answer (IsTold x d)) same

refused_as : (answer : Result MachineRun AatError) (b : Buffer) (t u : Told) → t ≡ u → IfErr answer (IsRefusal b t.buffer) → IfErr answer (IsRefusal b u.buffer)
refused_as answer b t u same = subst (λ (x : Told). IfErr answer (IsRefusal b x.buffer)) same

module _ (run : SubtableRun) (fit : HasFitRanges run) (b : Buffer) where
  abbrev driven : ℕ → Bool
  driven = is_driven_on run.ranges.now run.feature_flags

  driven_where_on : driven ≡ is_on_in run
  driven_where_on = driven_is_switched run.ranges.now run.feature_flags fit.gapless fit.whole fit.on

  module _ (answer : Result MachineRun AatError) (d : Buffer) where
    pub closed_rearrangement : (bound : ℕ) (table : TableValue rearrangement.Entry) (w : Watched (TableValue rearrangement.Entry) rearrangement.Registers)
        → w ≡ record { inner = rearrangement.fresh; subtable = table }
        → IfOk answer (λ o. IsOutcome (machine_run driven table (context_from true goes_on (watched_actionable (λ e r p n. rearrangement_acts e)) (watched_act held_rearrangement_from (rearrangement.act bound)) w) b) d o.turns)
        → IfOk answer (λ o. o.is_through ≡ comes_to_end driven table (context_from true goes_on (watched_actionable (λ e r p n. rearrangement_acts e)) (watched_act held_rearrangement_from (rearrangement.act bound)) w) b)
        → IfOk answer (IsTold (told_run (is_on_in run) table (rearrangement_closing bound) b) d)
    closed_rearrangement bound table w is outcome through =
        let x : Watched (TableValue rearrangement.Entry) rearrangement.Registers → Context (Watched (TableValue rearrangement.Entry) rearrangement.Registers) rearrangement.Entry =
        λ v. context_from true goes_on (watched_actionable (λ e r p n. rearrangement_acts e)) (watched_act held_rearrangement_from (rearrangement.act bound)) v in
        told_as answer d (told_run driven table (x w) b) (told_run (is_on_in run) table (rearrangement_closing bound) b)
        (ap (λ v. told_run driven table (x v) b) is
        ∙ ap (λ (on : ℕ → Bool). told_run on table (x (record { inner = rearrangement.fresh; subtable = table })) b) driven_where_on
        ∙ rearrangement_told bound (is_on_in run) table b)
        (told_by driven table (x w) b d answer outcome through)

    pub closed_contextual : (classes : Option (List (ℕ × ℕ))) (w v : ContextualTables) (x : Watched ContextualTables contextual.Held) → w ≡ v
        → x ≡ record { inner = contextual.held_fresh classes v.lookups; subtable = v }
        → IfOk answer (λ o. IsOutcome (machine_run driven w.state (context_from true goes_on (watched_actionable contextual.held_actionable) (watched_act held_contextual_from contextual.held_act) x) b) d o.turns)
        → IfOk answer (λ o. o.is_through ≡ comes_to_end driven w.state (context_from true goes_on (watched_actionable contextual.held_actionable) (watched_act held_contextual_from contextual.held_act) x) b)
        → IfOk answer (IsTold (told_run (is_on_in run) v.state (contextual_closing classes v.lookups) b) d)
    closed_contextual classes w v x view is outcome through =
        let c : Watched ContextualTables contextual.Held → Context (Watched ContextualTables contextual.Held) contextual.Entry =
        λ y. context_from true goes_on (watched_actionable contextual.held_actionable) (watched_act held_contextual_from contextual.held_act) y in
        told_as answer d (told_run driven w.state (c x) b) (told_run (is_on_in run) v.state (contextual_closing classes v.lookups) b)
        (ap (λ (u : ContextualTables). told_run driven u.state (c x) b) view
        ∙ ap (λ y. told_run driven v.state (c y) b) is
        ∙ ap (λ (on : ℕ → Bool). told_run on v.state (c (record { inner = contextual.held_fresh classes v.lookups; subtable = v })) b) driven_where_on
        ∙ contextual_told classes v (is_on_in run) b)
        (told_by driven w.state (c x) b d answer outcome through)

    pub closed_ligature : (slots : ℕ) (w v : LigatureTables) (x : Watched LigatureTables ligature.Held) → w ≡ v
        → x ≡ record { inner = held_ligature.held v.actions v.components v.ligatures (ligature.fresh slots); subtable = v }
        → IfOk answer (λ o. IsOutcome (machine_run driven w.state (context_from false goes_on (watched_actionable ligature.held_actionable) (watched_act held_ligature_from ligature.held_act) x) b) d o.turns)
        → IfOk answer (λ o. o.is_through ≡ comes_to_end driven w.state (context_from false goes_on (watched_actionable ligature.held_actionable) (watched_act held_ligature_from ligature.held_act) x) b)
        → IfOk answer (IsTold (told_run (is_on_in run) v.state (ligature_closing v.state v.actions v.components v.ligatures slots) b) d)
    closed_ligature slots w v x view is outcome through =
        let c : Watched LigatureTables ligature.Held → Context (Watched LigatureTables ligature.Held) (GenericStateEntry ℕ) =
        λ y. context_from false goes_on (watched_actionable ligature.held_actionable) (watched_act held_ligature_from ligature.held_act) y in
        told_as answer d (told_run driven w.state (c x) b) (told_run (is_on_in run) v.state (ligature_closing v.state v.actions v.components v.ligatures slots) b)
        (ap (λ (u : LigatureTables). told_run driven u.state (c x) b) view
        ∙ ap (λ y. told_run driven v.state (c y) b) is
        ∙ ap (λ (on : ℕ → Bool). told_run on v.state (c (record { inner = held_ligature.held v.actions v.components v.ligatures (ligature.fresh slots); subtable = v })) b) driven_where_on
        ∙ ligature_told slots v (is_on_in run) b)
        (told_by driven w.state (c x) b d answer outcome through)

  -- over the glyphs of a slice that are those of the subtable
  module _ (w v : InsertionTables) (glyphs : List GlyphId) (x : Watched InsertionTables insertion.Held) (view : w ≡ v) (read : glyphs ≡ w.glyphs)
      (is : x ≡ record { inner = held_insertion.held glyphs insertion.fresh; subtable = v })
    where
      abbrev insertion_watched : Watched InsertionTables insertion.Held → Context (Watched InsertionTables insertion.Held) insertion.Entry
      insertion_watched y = context_from false goes_on (watched_actionable (λ e r p n. insertion_may_act e)) (watched_act held_insertion_from insertion.held_act) y

      inserted : told_run driven w.state (insertion_watched x) b ≡ told_run (is_on_in run) v.state (insertion_closing v.glyphs) b
      inserted =
          ap (λ y. told_run driven w.state (insertion_watched y) b) (is ∙ ap (λ (gs : List GlyphId). record { inner = held_insertion.held gs insertion.fresh; subtable = v }) (read ∙ ap (λ (u : InsertionTables). u.glyphs) view))
          ∙ ap (λ (u : InsertionTables). told_run driven u.state (insertion_watched (record { inner = held_insertion.held v.glyphs insertion.fresh; subtable = v })) b) view
          ∙ ap (λ (on : ℕ → Bool). told_run on v.state (insertion_watched (record { inner = held_insertion.held v.glyphs insertion.fresh; subtable = v })) b) driven_where_on
          ∙ insertion_told v (is_on_in run) b

      pub closed_insertion : (answer : Result MachineRun AatError) (d : Buffer)
          → IfOk answer (λ o. IsOutcome (machine_run driven w.state (insertion_watched x) b) d o.turns) → IfOk answer (λ o. o.is_through ≡ comes_to_end driven w.state (insertion_watched x) b)
          → IfOk answer (IsTold (told_run (is_on_in run) v.state (insertion_closing v.glyphs) b) d)
      closed_insertion answer d outcome through =
          told_as answer d (told_run driven w.state (insertion_watched x) b) (told_run (is_on_in run) v.state (insertion_closing v.glyphs) b) inserted
          (told_by driven w.state (insertion_watched x) b d answer outcome through)

      pub refused_insertion : (answer : Result MachineRun AatError)
          → IfErr answer (IsRefusal b (machine_run driven w.state (insertion_watched x) b).buffer) → IfErr answer (IsRefusal b (told_run (is_on_in run) v.state (insertion_closing v.glyphs) b).buffer)
      unfolding told_run
      refused_insertion answer = refused_as answer b (told_run driven w.state (insertion_watched x) b) (told_run (is_on_in run) v.state (insertion_closing v.glyphs) b) inserted
