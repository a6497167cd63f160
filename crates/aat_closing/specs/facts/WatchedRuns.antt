-- What a driver runs of a fresh closing context is the closing run of a subtable.
use Rattle.std.proofs.Common.{◌≡◌, ℕ, Bool, true, false, List, Option, refl, ap, sym}
use Rattle.aat_buffer.specs.Buffer.{Buffer}
use Rattle.aat_machine_tables.specs.Entries.{goes_on}
use Rattle.aat_machine_tables.specs.Judged.{rearrangement_acts}
use Rattle.aat_machine_tables.specs.Subtables.{ContextualTables, InsertionTables, LigatureTables}
use Rattle.aat_machine_tables.specs.Table.{TableValue, class_of, entry_of}
use Rattle.aat_machine_tables.specs.declared.state_table.GenericStateEntry.{GenericStateEntry}
use Rattle.aat_run.specs.Context.{Config, Moved, is_at_end, start}
use Rattle.aat_run.specs.Driven.{comes_to_end, context_from, machine_run, outcome_of}
use Rattle.aat_run.specs.facts.Views.{whole_is_seen}
use Rattle.aat_kinds.specs.Contextual as contextual
use Rattle.aat_kinds.specs.Insertion as insertion
use Rattle.aat_kinds.specs.Ligature as ligature
use Rattle.aat_kinds.specs.Rearrangement as rearrangement
use Rattle.aat_kinds.specs.facts.InsertionHeld as held_insertion
use Rattle.aat_kinds.specs.facts.LigatureHeld as held_ligature
use Rattle.aat_closing.specs.Closing.{closing, contextual_from, insertion_from, insertion_may_act, ligature_from, rearrangement_from}
use Rattle.aat_closing.specs.ClosingRuns.{Told, contextual_closing, insertion_closing, ligature_closing, rearrangement_closing, told_run}
use Rattle.aat_closing.specs.Held.{held_contextual_from, held_insertion_from, held_ligature_from, held_rearrangement_from}
use Rattle.aat_closing.specs.Watched.{Watched, watched_act, watched_actionable}

told_of : {R : Type 0} → Config R → Told
told_of c = record { buffer = (outcome_of c).buffer; turns = (outcome_of c).turns; is_told = is_at_end c.buffer }

-- a context whose registers hold more than those of the definition tells what the definition tells
module _ {T R S : Type 0} (on : ℕ → Bool) (table : TableValue (GenericStateEntry T)) (advances : GenericStateEntry T → Bool)
    (actionable : GenericStateEntry T → R → ℕ → ℕ → Bool) (act : GenericStateEntry T → R → Buffer → Moved R)
    (held_actionable : GenericStateEntry T → S → ℕ → ℕ → Bool) (held_act : GenericStateEntry T → S → Buffer → Moved S)
    (view : S → R) (Good : S → Type 0)
    (same_test : (e : GenericStateEntry T) (s : S) (p n : ℕ) → Good s → held_actionable e s p n ≡ actionable e (view s) p n)
    (same_act : (e : GenericStateEntry T) (s : S) (b : Buffer) → Good s → act e (view s) b ≡ record { registers = view (held_act e s b).registers; buffer = (held_act e s b).buffer })
    (stays_good : (e : GenericStateEntry T) (s : S) (b : Buffer) → Good s → Good (held_act e s b).registers)
  where
    told_is_seen : (in_place : Bool) (s : S) → Good s → (b : Buffer)
        → told_run on table (context_from in_place advances held_actionable held_act s) b ≡ told_run on table (context_from in_place advances actionable act (view s)) b
    unfolding told_run machine_run comes_to_end told_of
    told_is_seen in_place s good b =
        sym (ap told_of (whole_is_seen on (class_of table) (entry_of table) (λ (e : GenericStateEntry T). e.new_state) advances actionable act held_actionable held_act view Good same_test same_act stays_good
        (start in_place b s) good))

-- Contextual
module _ (classes : Option (List (ℕ × ℕ))) (tables : ContextualTables) where
  record HoldsContextual (w : Watched ContextualTables contextual.Held) : Type 0 where
    same_classes : w.inner.classes ≡ classes
    same_lookups : w.inner.lookups ≡ tables.lookups

  pub contextual_told : (on : ℕ → Bool) (b : Buffer)
      → told_run on tables.state (context_from true goes_on (watched_actionable contextual.held_actionable) (watched_act held_contextual_from contextual.held_act)
      (record { inner = contextual.held_fresh classes tables.lookups; subtable = tables })) b
      ≡ told_run on tables.state (contextual_closing classes tables.lookups) b
  contextual_told on b =
      told_is_seen on tables.state goes_on contextual.actionable (closing contextual_from (contextual.act classes tables.lookups)) (watched_actionable contextual.held_actionable) (watched_act held_contextual_from contextual.held_act)
      (λ w. w.inner.registers) HoldsContextual
      (λ e w p n good. refl)
      (λ e w d good. rw (good.same_classes, good.same_lookups) refl)
      (λ e w d good. record { same_classes = good.same_classes; same_lookups = good.same_lookups })
      true (record { inner = contextual.held_fresh classes tables.lookups; subtable = tables }) (record { same_classes = refl; same_lookups = refl }) b

-- Rearrangement
pub rearrangement_told : (bound : ℕ) (on : ℕ → Bool) (table : TableValue rearrangement.Entry) (b : Buffer)
    → told_run on table (context_from true goes_on (watched_actionable (λ e r p n. rearrangement_acts e)) (watched_act held_rearrangement_from (rearrangement.act bound))
    (record { inner = rearrangement.fresh; subtable = table })) b
    ≡ told_run on table (rearrangement_closing bound) b
rearrangement_told bound on table b =
    told_is_seen on table goes_on (λ e r p n. rearrangement_acts e) (closing rearrangement_from (rearrangement.act bound)) (watched_actionable (λ e r p n. rearrangement_acts e)) (watched_act held_rearrangement_from (rearrangement.act bound))
    (λ (w : Watched (TableValue rearrangement.Entry) rearrangement.Registers). w.inner) (λ w. Unit {0})
    (λ e w p n good. refl) (λ e w d good. refl) (λ e w d good. good)
    true (record { inner = rearrangement.fresh; subtable = table }) tt b

-- Ligature
module _ (size : ℕ) (tables : LigatureTables) where
  record HoldsLigature (w : Watched LigatureTables ligature.Held) : Type 0 where
    same_subtable : w.subtable ≡ tables
    same_actions : w.inner.actions ≡ tables.actions
    same_components : w.inner.components ≡ tables.components
    same_ligatures : w.inner.ligatures ≡ tables.ligatures

  pub ligature_told : (on : ℕ → Bool) (b : Buffer)
      → told_run on tables.state (context_from false goes_on (watched_actionable ligature.held_actionable) (watched_act held_ligature_from ligature.held_act)
      (record { inner = held_ligature.held tables.actions tables.components tables.ligatures (ligature.fresh size); subtable = tables })) b
      ≡ told_run on tables.state (ligature_closing tables.state tables.actions tables.components tables.ligatures size) b
  ligature_told on b =
      told_is_seen on tables.state goes_on ligature.actionable (closing (ligature_from tables.actions tables.state) (ligature.act tables.actions tables.components tables.ligatures)) (watched_actionable ligature.held_actionable) (watched_act held_ligature_from ligature.held_act)
      (λ w. w.inner.registers) HoldsLigature
      (λ e w p n good. refl)
      (λ e w d good. rw (good.same_subtable, good.same_actions, good.same_components, good.same_ligatures) refl)
      (λ e w d good. record { same_subtable = good.same_subtable; same_actions = good.same_actions; same_components = good.same_components; same_ligatures = good.same_ligatures })
      false (record { inner = held_ligature.held tables.actions tables.components tables.ligatures (ligature.fresh size); subtable = tables })
      (record { same_subtable = refl; same_actions = refl; same_components = refl; same_ligatures = refl }) b

-- Insertion
pub insertion_told : (tables : InsertionTables) (on : ℕ → Bool) (b : Buffer)
    → told_run on tables.state (context_from false goes_on (watched_actionable (λ e r p n. insertion_may_act e)) (watched_act held_insertion_from insertion.held_act)
    (record { inner = held_insertion.held tables.glyphs insertion.fresh; subtable = tables })) b
    ≡ told_run on tables.state (insertion_closing tables.glyphs) b
insertion_told tables on b =
    told_is_seen on tables.state goes_on (λ e r p n. insertion_may_act e) (closing insertion_from (insertion.act tables.glyphs)) (watched_actionable (λ e r p n. insertion_may_act e)) (watched_act held_insertion_from insertion.held_act)
    (λ (w : Watched InsertionTables insertion.Held). w.inner.registers) (λ w. w.inner.glyphs ≡ tables.glyphs)
    (λ e w p n good. refl) (λ e w d good. rw good refl) (λ e w d good. good)
    false (record { inner = held_insertion.held tables.glyphs insertion.fresh; subtable = tables }) refl b
