-- Runs of the fresh contexts in place, in the words of the kinds.
use Rattle.std.proofs.Common.{◌≡◌, ℕ, Bool, true, List, Option, refl, ap, sym, ◌∙◌}
use Rattle.aat_buffer.specs.Buffer.{Buffer}
use Rattle.aat_machine_tables.specs.Entries.{goes_on}
use Rattle.aat_machine_tables.specs.Table.{TableValue, class_of, entry_of}
use Rattle.aat_machine_tables.specs.declared.entries.ContextualEntryData.{ContextualEntryData}
use Rattle.aat_machine_tables.specs.declared.state_table.GenericStateEntry.{GenericStateEntry}
use Rattle.aat_run.specs.Context.{Moved, start}
use Rattle.aat_run.specs.Driven.{context_from, machine_run, outcome_of}
use Rattle.aat_run.specs.facts.Views.{whole_is_seen}
use Rattle.aat_kinds.specs.Contextual.{Held, held_act, held_actionable, held_fresh}
use Rattle.aat_kinds.specs.Contextual as contextual
use Rattle.aat_kinds.specs.Kinds.{contextual_run, rearrangement_run}
use Rattle.aat_kinds.specs.Rearrangement as rearrangement

-- what a driver runs of a fresh rearrangement context is the run of a rearrangement subtable
pub rearrangement_is_driven : (bound : ℕ) (on : ℕ → Bool) (table : TableValue (GenericStateEntry (Unit {0}))) (b : Buffer)
    → machine_run on table (context_from true goes_on rearrangement.actionable (rearrangement.act bound) rearrangement.fresh) b ≡ rearrangement_run bound on table b
unfolding rearrangement_run
rearrangement_is_driven bound on table b = refl

module _ (classes : Option (List (ℕ × ℕ))) (lookups : List (List (ℕ × ℕ))) where
  -- what is held of a font and of a subtable is this
  Holds : Held → Type 0
  Holds h = (h.classes ≡ classes) × (h.lookups ≡ lookups)

  same_act : (e : contextual.Entry) (h : Held) (b : Buffer) → Holds h
      → contextual.act classes lookups e h.registers b ≡ record { registers = (held_act e h b).registers.registers; buffer = (held_act e h b).buffer }
  unfolding Holds
  same_act e h b held =
      let m : Option (List (ℕ × ℕ)) → List (List (ℕ × ℕ)) → Moved contextual.Registers = λ cs ls. contextual.act cs ls e h.registers b in
      sym (ap (λ cs. m cs h.lookups) held.0 ∙ ap (m classes) held.1)

  stays_held : (e : contextual.Entry) (h : Held) (b : Buffer) → Holds h → Holds (held_act e h b).registers
  unfolding Holds
  stays_held e h b held = held

  -- what a driver runs of a fresh contextual context is the run of a contextual subtable
  pub contextual_is_driven : (on : ℕ → Bool) (table : TableValue (GenericStateEntry ContextualEntryData)) (b : Buffer)
      → machine_run on table (context_from true goes_on held_actionable held_act (held_fresh classes lookups)) b ≡ contextual_run on classes table lookups b
  unfolding machine_run contextual_run Holds
  contextual_is_driven on table b =
      sym (ap outcome_of (whole_is_seen on (class_of table) (entry_of table) (λ e. e.new_state) goes_on contextual.actionable (contextual.act classes lookups) held_actionable held_act
      (λ h. h.registers) Holds (λ e h p n held. refl) same_act stays_held (start true b (held_fresh classes lookups)) (refl, refl)))
