-- What the run of a subtable leaves that closes what it looks at, but for the flags of the glyphs: what the subtable's run
-- leaves.
use Rattle.std.proofs.Common.{ℕ, Bool, List}
use Rattle.aat_buffer.specs.Buffer.{Buffer}
use Rattle.aat_machine_tables.specs.Judged.{rearrangement_acts}
use Rattle.aat_machine_tables.specs.Table.{TableValue}
use Rattle.aat_machine_tables.specs.declared.morx.SubtableKind.TheVariants.{Contextual, Insertion, Ligature, NonContextual, Rearrangement}
use Rattle.aat_machine_tables.specs.declared.state_table.GenericStateEntry.{GenericStateEntry}
use Rattle.aat_run.specs.Context.{Context}
use Rattle.aat_run.specs.Driven.{machine_run}
use Rattle.aat_run.specs.Outcome.{Outcome}
use Rattle.aat_kinds.specs.Contextual as contextual
use Rattle.aat_kinds.specs.Kinds.{Sizes, contextual_run, insertion_run, kind_run, ligature_run, rearrangement_run}
use Rattle.aat_kinds.specs.Ligature as ligature
use Rattle.aat_closing.specs.Closing.{contextual_from, insertion_from, insertion_may_act, ligature_from, rearrangement_from}
use Rattle.aat_closing.specs.ClosingRuns.{closing_run, contextual_closing, insertion_closing, ligature_closing, rearrangement_closing, told_run}
use Rattle.aat_closing.specs.Unflagged.{ClosingFlagsAlone, IsBlindRun, IsBlindTold}
use Rattle.aat_closing.specs.facts.ErasedKinds.{contextual_runs_alike, insertion_runs_alike, ligature_runs_alike, noncontextual_runs_alike, rearrangement_runs_alike}

-- a run that tells where it comes to the end of the line
told_alike : {T R : Type 0} (on : ℕ → Bool) (table : TableValue (GenericStateEntry T)) (x : Context R (GenericStateEntry T)) (run : Buffer → Outcome)
    → IsBlindRun (machine_run on table x) run → IsBlindTold (told_run on table x) run
unfolding told_run
told_alike on table x run blind a b same = let left = blind a b same in record { buffer = left.0; turns = left.1 }

noncontextual_alike : (z : Sizes) (on : ℕ → Bool) (lookup : List (ℕ × ℕ)) → IsBlindTold (closing_run z on (NonContextual lookup)) (kind_run z on (NonContextual lookup))
noncontextual_alike z on lookup a b same = let left = noncontextual_runs_alike on z.classes lookup a b same in record { buffer = left.0; turns = left.1 }

-- the runs of a subtable by its kind
pub closing_runs_alike : ClosingFlagsAlone
closing_runs_alike z on (Rearrangement table) =
    told_alike on table (rearrangement_closing z.bound) (rearrangement_run z.bound on table)
    (rearrangement_runs_alike z.bound on table rearrangement_from (λ e r p n. rearrangement_acts e))
closing_runs_alike z on (Contextual s) =
    told_alike on s.state (contextual_closing z.classes s.lookups) (contextual_run on z.classes s.state s.lookups)
    (contextual_runs_alike z.classes s.lookups on s.state contextual_from contextual.actionable)
closing_runs_alike z on (Ligature s) =
    told_alike on s.state (ligature_closing s.state s.actions s.components s.ligatures z.slots) (ligature_run z.slots on s.state s.actions s.components s.ligatures)
    (ligature_runs_alike z.slots s.actions s.components s.ligatures on s.state (ligature_from s.actions s.state) ligature.actionable)
closing_runs_alike z on (NonContextual lookup) = noncontextual_alike z on lookup
closing_runs_alike z on (Insertion s) =
    told_alike on s.state (insertion_closing s.glyphs) (insertion_run on s.state s.glyphs)
    (insertion_runs_alike s.glyphs on s.state insertion_from (λ e r p n. insertion_may_act e))
