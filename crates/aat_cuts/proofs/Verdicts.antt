-- From what was found of the registers of a machine to a verdict on it.
use Rattle.std.proofs.Common.{◌≡◌, ℕ, ◌<◌, Bool, true, false, ◌&&◌, eqb, Option, Some, None, List, subst, sym, ◌∙◌, arith}
use Rattle.std.specs.List.{All, Contains}
use Rattle.std.proofs.lemmas.Bool.{eqb-true}
use Rattle.std.proofs.lemmas.List.Elements.{All-contains}
use Rattle.aat_machine_tables.specs.Table.{Rule, TableValue, entry_of}
use Rattle.aat_machine_tables.specs.declared.morx.SubtableKind.{SubtableKind}
use Rattle.aat_machine_tables.specs.declared.morx.SubtableKind.TheVariants.{Rearrangement, Contextual, Ligature, NonContextual, Insertion}
use Rattle.aat_machine_tables.specs.declared.state_table.GenericStateEntry.{GenericStateEntry}
use Rattle.aat_cuts.specs.Kinds.{IsQuietAtEnd, IsRearrangementSettled, IsSettled, IsVerdictOn, Shows, moves_and_ends, reason_of, state_of}
use Rattle.aat_cuts.specs.Reached.{AreReached, IsCell, IsReached, is_labelled, width}
use Rattle.aat_cuts.specs.Settled.{IsRegisterUnsettled, Register}
use Rattle.aat_cuts.specs.declared.steps.Trouble.{Trouble}
use Rattle.aat_cuts.specs.declared.steps.Trouble.TheVariants.{Unset, Taken}
use Rattle.aat_cuts.specs.declared.unsettled.UsedRegister.{UsedRegister}
use Rattle.aat_cuts.specs.inside.Steps.{IsFoundIn}
use Rattle.aat_cuts.proofs.Liveness.{and_true}
use Rattle.aat_cuts.proofs.Reaching.{followed_of}
use Rattle.aat_cuts.proofs.Settling.{cell_of}

module _ {T : Type 0} (table : TableValue (GenericStateEntry T)) (named : UsedRegister → Option (Register T))
    (moves : GenericStateEntry T → Bool) (is_reached : ℕ → Bool) (r : UsedRegister) (register : Register T)
    (is : named r ≡ Some register) (settled : Type 0) (never : IsRegisterUnsettled table register → settled → ⊥) where
  -- trouble with a register that a reason names
  pub trouble_shown : (trouble : Trouble) → IsFoundIn table register is_reached (Some trouble)
      → (settled → ⊥) × IsReached table (state_of (reason_of r trouble)) × Shows table named moves (reason_of r trouble)
  trouble_shown (Unset state class) (none, here, used) = (never none, here, (register, is, used))
  trouble_shown (Taken state class) (none, here, taken) = (never none, here, (register, is, taken))

module _ (table : TableValue (GenericStateEntry (Unit {0}))) (labels : List ℕ)
    (cells : List (Rule (GenericStateEntry (Unit {0})))) (reached : AreReached table labels cells) where
  -- an entry that moves glyphs at the end of the text
  pub moves_shown : (state : ℕ) (c : Rule (GenericStateEntry (Unit {0}))) → Contains cells c → c.0 ≡ state
      → (eqb c.1 0 && moves_and_ends c.2) ≡ true
      → (IsRearrangementSettled table → ⊥) × IsReached table state
      × ((e : GenericStateEntry (Unit {0})) × (entry_of table state 0 ≡ Some e) × (moves_and_ends e ≡ true))
  moves_shown state c here of_state both =
      let (zero, moves) = and_true (eqb c.1 0) (moves_and_ends c.2) both in
      let (labelled, cell) = All-contains (λ x. (is_labelled labels x.0 ≡ true) × IsCell table x) cells c reached.sound here in
      let class : c.1 ≡ 0 = eqb-true c.1 0 zero in
      let at_zero : entry_of table c.0 0 ≡ Some c.2 = subst (λ (n : ℕ). entry_of table c.0 n ≡ Some c.2) class cell in (
        λ (is_reached, complete, start, end, quiet).
            let clash : true ≡ false = sym moves ∙ quiet c.0 c.2 (reached.least c.0 labelled is_reached (followed_of table is_reached complete)) at_zero in cc,
        subst (IsReached table) of_state (reached.least c.0 labelled),
        (c.2, subst (λ (n : ℕ). entry_of table n 0 ≡ Some c.2) of_state at_zero, moves),
      )

  -- no entry does
  pub quiet_found : All (λ c. (eqb c.1 0 && moves_and_ends c.2) ≡ false) cells → IsQuietAtEnd table (is_labelled labels)
  quiet_found none s e here is =
      let within : 0 < width table = omega arith in
      All-contains (λ c. (eqb c.1 0 && moves_and_ends c.2) ≡ false) cells (s, 0, e) none (cell_of table labels cells reached s 0 e here within is)

-- a subtable of which no reason was found is settled
pub settled_of : (kind : SubtableKind) → IsVerdictOn kind None → IsSettled kind
settled_of (Rearrangement table) is = is
settled_of (Contextual s) is = is
settled_of (Ligature s) is = is
settled_of (NonContextual lookup) is = tt
settled_of (Insertion s) is = is
