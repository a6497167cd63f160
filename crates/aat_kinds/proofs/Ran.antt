-- What the driver ran over a fresh context is the run of a subtable.
use Rattle.std.proofs.Common.{◌≡◌, ◌∙◌, ap, subst, ℕ, Bool, true, false, List, Option}
use Rattle.std.specs.Prelude.{Result, IfErr, IfOk}
use Rattle.aat_buffer.specs.Buffer.{Buffer}
use Rattle.aat_machine_tables.specs.Entries.{goes_on}
use Rattle.aat_machine_tables.specs.Subtables.{ContextualTables, InsertionTables, LigatureTables}
use Rattle.aat_machine_tables.specs.Table.{TableValue}
use Rattle.aat_lookup.specs.declared.glyph_id.GlyphId.{GlyphId}
use Rattle.aat_machine_tables.specs.declared.state_table.GenericStateEntry.{GenericStateEntry}
use Rattle.aat_run.specs.Driven.{IsRefusal, context_from, machine_run}
use Rattle.aat_run.specs.Outcome.{IsOutcome, Outcome}
use Rattle.aat_run.specs.Ranges.{is_driven_on}
use Rattle.aat_run.specs.declared.error.AatError.{AatError}
use Rattle.aat_run.specs.facts.Switched.{driven_is_switched}
use Rattle.aat_kinds.specs.Contextual as contextual
use Rattle.aat_kinds.specs.Insertion as insertion
use Rattle.aat_kinds.specs.Kinds.{contextual_run, insertion_run, ligature_run, rearrangement_run}
use Rattle.aat_kinds.specs.Ligature as ligature
use Rattle.aat_kinds.specs.Rearrangement as rearrangement
use Rattle.aat_kinds.specs.Runs.{HasFitRanges, is_on_in}
use Rattle.aat_kinds.specs.declared.run.SubtableRun.{SubtableRun}
use Rattle.aat_kinds.specs.facts.InPlaceRuns.{contextual_is_driven, rearrangement_is_driven}
use Rattle.aat_kinds.specs.facts.InsertionHeld.{held, insertion_is_driven}
use Rattle.aat_kinds.specs.facts.LigatureHeld as over_lists
use Rattle.aat_kinds.proofs.KindsKeep.{err_map}

-- an answer of one run is one of another that is the same
ran_as : (answer : Result ℕ AatError) (d : Buffer) (o q : Outcome) → o ≡ q → IfOk answer (IsOutcome o d) → IfOk answer (IsOutcome q d)
ran_as answer d o q same = subst (λ (x : Outcome). IfOk answer (IsOutcome x d)) same

module _ (run : SubtableRun) (fit : HasFitRanges run) (b : Buffer) where
  abbrev driven : ℕ → Bool
  driven = is_driven_on run.ranges.now run.feature_flags

  driven_where_on : driven ≡ is_on_in run
  driven_where_on = driven_is_switched run.ranges.now run.feature_flags fit.gapless fit.whole fit.on

  module _ (answer : Result ℕ AatError) (d : Buffer) where
    pub ran_rearrangement : (bound : ℕ) (table : TableValue (GenericStateEntry (Unit {0}))) (x : rearrangement.Registers) → x ≡ rearrangement.fresh
        → IfOk answer (IsOutcome (machine_run driven table (context_from true goes_on rearrangement.actionable (rearrangement.act bound) x) b) d)
        → IfOk answer (IsOutcome (rearrangement_run bound (is_on_in run) table b) d)
    ran_rearrangement bound table x is =
        ran_as answer d (machine_run driven table (context_from true goes_on rearrangement.actionable (rearrangement.act bound) x) b) (rearrangement_run bound (is_on_in run) table b)
        (ap (λ (y : rearrangement.Registers). machine_run driven table (context_from true goes_on rearrangement.actionable (rearrangement.act bound) y) b) is
        ∙ ap (λ (on : ℕ → Bool). machine_run on table (context_from true goes_on rearrangement.actionable (rearrangement.act bound) rearrangement.fresh) b) driven_where_on
        ∙ rearrangement_is_driven bound (is_on_in run) table b)

    pub ran_contextual : (classes : Option (List (ℕ × ℕ))) (w v : ContextualTables) (x : contextual.Held) → w ≡ v → x ≡ contextual.held_fresh classes v.lookups
        → IfOk answer (IsOutcome (machine_run driven w.state (context_from true goes_on contextual.held_actionable contextual.held_act x) b) d)
        → IfOk answer (IsOutcome (contextual_run (is_on_in run) classes v.state v.lookups b) d)
    ran_contextual classes w v x view is =
        ran_as answer d (machine_run driven w.state (context_from true goes_on contextual.held_actionable contextual.held_act x) b) (contextual_run (is_on_in run) classes v.state v.lookups b)
        (ap (λ (u : ContextualTables). machine_run driven u.state (context_from true goes_on contextual.held_actionable contextual.held_act x) b) view
        ∙ ap (λ (y : contextual.Held). machine_run driven v.state (context_from true goes_on contextual.held_actionable contextual.held_act y) b) is
        ∙ ap (λ (on : ℕ → Bool). machine_run on v.state (context_from true goes_on contextual.held_actionable contextual.held_act (contextual.held_fresh classes v.lookups)) b) driven_where_on
        ∙ contextual_is_driven classes v.lookups (is_on_in run) v.state b)

    pub ran_ligature : (slots : ℕ) (w v : LigatureTables) (x : ligature.Held) → w ≡ v → x ≡ over_lists.held v.actions v.components v.ligatures (ligature.fresh slots)
        → IfOk answer (IsOutcome (machine_run driven w.state (context_from false goes_on ligature.held_actionable ligature.held_act x) b) d)
        → IfOk answer (IsOutcome (ligature_run slots (is_on_in run) v.state v.actions v.components v.ligatures b) d)
    ran_ligature slots w v x view is =
        ran_as answer d (machine_run driven w.state (context_from false goes_on ligature.held_actionable ligature.held_act x) b)
        (ligature_run slots (is_on_in run) v.state v.actions v.components v.ligatures b)
        (ap (λ (u : LigatureTables). machine_run driven u.state (context_from false goes_on ligature.held_actionable ligature.held_act x) b) view
        ∙ ap (λ (y : ligature.Held). machine_run driven v.state (context_from false goes_on ligature.held_actionable ligature.held_act y) b) is
        ∙ ap (λ (on : ℕ → Bool). machine_run on v.state (context_from false goes_on ligature.held_actionable ligature.held_act (over_lists.held v.actions v.components v.ligatures (ligature.fresh slots))) b)
        driven_where_on
        ∙ over_lists.ligature_is_driven slots (is_on_in run) v.state v.actions v.components v.ligatures b)

  -- over the glyphs of a slice that are those of the subtable
  module _ (w v : InsertionTables) (glyphs : List GlyphId) (x : insertion.Held) (view : w ≡ v) (read : glyphs ≡ w.glyphs) (is : x ≡ held glyphs insertion.fresh) where
    inserted : machine_run driven w.state (context_from false goes_on insertion.held_actionable insertion.held_act x) b ≡ insertion_run (is_on_in run) v.state v.glyphs b
    inserted =
        ap (λ (y : insertion.Held). machine_run driven w.state (context_from false goes_on insertion.held_actionable insertion.held_act y) b) (is ∙ ap (λ (gs : List GlyphId). held gs insertion.fresh) read)
        ∙ ap (λ (u : InsertionTables). machine_run driven u.state (context_from false goes_on insertion.held_actionable insertion.held_act (held u.glyphs insertion.fresh)) b) view
        ∙ ap (λ (on : ℕ → Bool). machine_run on v.state (context_from false goes_on insertion.held_actionable insertion.held_act (held v.glyphs insertion.fresh)) b) driven_where_on
        ∙ insertion_is_driven (is_on_in run) v.state v.glyphs b

    pub ran_insertion : (answer : Result ℕ AatError) (d : Buffer)
        → IfOk answer (IsOutcome (machine_run driven w.state (context_from false goes_on insertion.held_actionable insertion.held_act x) b) d)
        → IfOk answer (IsOutcome (insertion_run (is_on_in run) v.state v.glyphs b) d)
    ran_insertion answer d =
        ran_as answer d (machine_run driven w.state (context_from false goes_on insertion.held_actionable insertion.held_act x) b) (insertion_run (is_on_in run) v.state v.glyphs b) inserted

    pub refused_insertion : (answer : Result ℕ AatError)
        → IfErr answer (IsRefusal b (machine_run driven w.state (context_from false goes_on insertion.held_actionable insertion.held_act x) b).buffer)
        → IfErr answer (IsRefusal b (insertion_run (is_on_in run) v.state v.glyphs b).buffer)
    refused_insertion answer =
        err_map answer (λ (o : Outcome) e. IsRefusal b o.buffer e) (machine_run driven w.state (context_from false goes_on insertion.held_actionable insertion.held_act x) b)
        (insertion_run (is_on_in run) v.state v.glyphs b) inserted
