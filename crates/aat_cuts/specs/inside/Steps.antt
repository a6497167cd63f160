-- The entries of a machine, as far as one register is concerned.
use Rattle.std.specs.Prelude.{◌≡◌, ℕ, ◌==◌, ◌&&◌, ◌||◌, Bool, true, false, not, if◌then◌else◌, List, Option, Some, None}
use Rattle.std.specs.List.{All, Contains}
use Rattle.aat_machine_tables.specs.Entries.{goes_on}
use Rattle.aat_machine_tables.specs.Table.{Rule, TableValue, class_of, entry_of}
use Rattle.aat_machine_tables.specs.declared.state_table.GenericStateEntry.{GenericStateEntry}
use Rattle.aat_cuts.specs.Reached.{IsReached, is_labelled}
use Rattle.aat_cuts.specs.Settled.{IsClassOfGlyph, IsRegisterSettled, IsRegisterUnsettled, IsTakenAt, IsUsedAt, Register}
use Rattle.aat_cuts.specs.declared.labels.Asked.TheVariants.{Nothing, Same, One}
use Rattle.aat_cuts.specs.declared.labels.Edge.{Edge}
use Rattle.aat_cuts.specs.declared.steps.Step.{Step}
use Rattle.aat_cuts.specs.declared.steps.Trouble.{Trouble}
use Rattle.aat_cuts.specs.declared.steps.Trouble.TheVariants.{Unset, Taken}

-- labels of the classes that some glyph has
pub record AreClasses {E : Type 0} (table : TableValue E) (labels : List ℕ) : Type 0 where
  pub one : is_labelled labels 1 ≡ true
  pub sound : (k : ℕ) → is_labelled labels k ≡ true → IsClassOfGlyph table k
  pub each : (k : ℕ) → IsClassOfGlyph table k → is_labelled labels k ≡ true

-- each labelled class is that of some glyph
abbrev pub AreOfGlyphs : {E : Type 0} → TableValue E → List ℕ → Type 0
AreOfGlyphs table labels = (k : ℕ) → is_labelled labels k ≡ true → IsClassOfGlyph table k

-- the class of a listed glyph is labelled
abbrev pub AreListed : {E : Type 0} → TableValue E → List ℕ → ℕ × ℕ → Type 0
AreListed table labels pair = (k : ℕ) → class_of table pair.0 ≡ Some k → is_labelled labels k ≡ true

abbrev pub is_same : Bool → Bool → Bool
is_same a b = if a then b else not b

module _ {T : Type 0} (register : Register T) where
  -- an entry and that of state 0 for its class may be taken for one, and set the register differently
  abbrev pub differs : GenericStateEntry T → Option (GenericStateEntry T) → Bool
  differs e None = false
  differs e (Some f) =
      register.may_idle e && register.may_idle f && (e.new_state == f.new_state) && is_same (goes_on e) (goes_on f)
      && not (is_same (register.sets e) (register.sets f))

  -- what an entry does to the register
  abbrev pub step_of : TableValue (GenericStateEntry T) → List ℕ → Rule (GenericStateEntry T) → Step
  step_of table classes c = record {
    state = c.0;
    class = c.1;
    next = c.2.new_state;
    uses = register.uses c.2 || (c.1 == 0 && register.uses_at_end c.2);
    keeps = is_labelled classes c.1 && not (register.sets c.2);
    differs = is_labelled classes c.1 && differs c.2 (entry_of table 0 c.1);
  }

-- an entry goes with a labelling by where the register is live
pub record IsFit (is_live : ℕ → Bool) (s : Step) : Type 0 where
  pub used : s.uses ≡ true → is_live s.state ≡ true
  pub kept : s.keeps ≡ true → is_live s.next ≡ true → is_live s.state ≡ true
  pub agreed : s.differs ≡ true → is_live s.next ≡ false

-- a labelling goes with each entry, and the register is not live in state 0
pub record AreFit (steps : List Step) (is_live : ℕ → Bool) : Type 0 where
  pub first : is_live 0 ≡ false
  pub each : All (IsFit is_live) steps

-- the label of a state where the register may not be set asks for one where an entry that does not set it goes to
abbrev pub unset_edge : Step → Edge
unset_edge s = record { from = s.next; to = s.state; asked = if s.keeps then Same else Nothing }

-- the label of a state from which the register may be used before it is set
abbrev pub live_edge : Step → Edge
live_edge s =
    record { from = s.state; to = s.next; asked = if s.uses then One else (if s.keeps then Same else Nothing) }

-- some states go with the entries that may not set the register: state 0, and with each the state that one leads to
pub record AreStepsUnset (steps : List Step) (states : ℕ → Bool) : Type 0 where
  pub first : states 0 ≡ true
  pub next : All (λ s. s.keeps ≡ true → states s.state ≡ true → states s.next ≡ true) steps

-- some states go with the entries that use the register, and with those that lead there and may not set it
pub record AreStepsBefore (steps : List Step) (states : ℕ → Bool) : Type 0 where
  pub used : All (λ s. s.uses ≡ true → states s.state ≡ true) steps
  pub before : All (λ s. s.keeps ≡ true → states s.next ≡ true → states s.state ≡ true) steps

-- no labelling goes with the entries, and an entry of the state and the class shows why
abbrev pub IsTrouble : List Step → Trouble → Type 0
IsTrouble steps (Unset state class) =
    ((is_live : ℕ → Bool) → AreFit steps is_live → ⊥)
    × (s : Step) × Contains steps s × (s.state ≡ state) × (s.class ≡ class) × (s.uses ≡ true)
    × ((states : ℕ → Bool) → AreStepsUnset steps states → states s.state ≡ true)
IsTrouble steps (Taken state class) =
    ((is_live : ℕ → Bool) → AreFit steps is_live → ⊥)
    × (s : Step) × Contains steps s × (s.state ≡ state) × (s.class ≡ class) × (s.differs ≡ true)
    × ((states : ℕ → Bool) → AreStepsBefore steps states → states s.next ≡ true)

-- what was found of entries: a labelling, or trouble
abbrev pub IsFoundOf : List Step → Option Trouble → Type 0
IsFoundOf steps None = (is_live : ℕ → Bool) × AreFit steps is_live
IsFoundOf steps (Some trouble) = IsTrouble steps trouble

-- what was found of a register: a labelling for the states, or that there is none
abbrev pub IsFoundIn :
    {T : Type 0} → TableValue (GenericStateEntry T) → Register T → (ℕ → Bool) → Option Trouble → Type 0
IsFoundIn table register is_reached None = IsRegisterSettled table register is_reached
IsFoundIn table register is_reached (Some (Unset state class)) =
    IsRegisterUnsettled table register × IsReached table state × IsUsedAt table register state class
IsFoundIn table register is_reached (Some (Taken state class)) =
    IsRegisterUnsettled table register × IsReached table state × IsTakenAt table register state class
