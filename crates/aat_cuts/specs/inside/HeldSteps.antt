-- The entries of a ligature machine, as far as its components are concerned.
use Rattle.std.specs.Prelude.{◌≡◌, ℕ, ◌<◌, ◌==◌, ◌&&◌, ◌⊎◌, Bool, true, false, not, nat_lt, min, if◌then◌else◌, List, Option, Some, None}
use Rattle.std.specs.List.{All, Contains}
use Rattle.aat_machine_tables.specs.Entries.{goes_on, has_flag}
use Rattle.aat_machine_tables.specs.Table.{Rule, TableValue, entry_of}
use Rattle.aat_machine_tables.specs.declared.state_table.GenericStateEntry.{GenericStateEntry}
use Rattle.aat_cuts.specs.Held.{taken_by}
use Rattle.aat_cuts.specs.Labels.{label_in}
use Rattle.aat_cuts.specs.Reached.{is_labelled}
use Rattle.aat_cuts.specs.inside.Steps.{is_same}
use Rattle.aat_cuts.specs.declared.labels.Asked.TheVariants.{Held, Nothing, Same, One}
use Rattle.aat_cuts.specs.declared.labels.Edge.{Edge}
use Rattle.aat_cuts.specs.declared.held.HeldStep.{HeldStep}
use Rattle.aat_cuts.specs.declared.unsettled.Unsettled.{Unsettled}
use Rattle.aat_cuts.specs.declared.unsettled.Unsettled.TheVariants.{MissingEntry, MovesAtEnd, TakenForOne, TooFewComponents, UsedBeforeSet}
use Rattle.aat_cuts.specs.declared.unsettled.UsedRegister.TheVariants.{Components}

-- an entry and that of state 0 for its class may be taken for one, and one of them alone pushes
abbrev pub differs_in_push : GenericStateEntry ℕ → Option (GenericStateEntry ℕ) → Bool
differs_in_push e None = false
differs_in_push e (Some f) =
    not (has_flag e 0x2000) && not (has_flag f 0x2000) && (e.new_state == f.new_state) && is_same (goes_on e) (goes_on f)
    && not (is_same (has_flag e 0x8000) (has_flag f 0x8000))

-- what an entry does to the components
abbrev pub held_step_of : TableValue (GenericStateEntry ℕ) → List ℕ → List ℕ → Rule (GenericStateEntry ℕ) → HeldStep
held_step_of table actions classes c = record {
  state = c.0;
  class = c.1;
  next = c.2.new_state;
  is_of_glyph = is_labelled classes c.1;
  pushes = has_flag c.2 0x8000;
  stays = not (goes_on c.2);
  taken = min 66 (taken_by actions c.2);
  differs = differs_in_push c.2 (entry_of table 0 c.1);
}

-- the label of a state where the newest component may be the glyph at the cursor
abbrev pub here_edge : HeldStep → Edge
here_edge s = record {
  from = s.next;
  to = s.state;
  asked = if s.is_of_glyph && s.stays then (if s.pushes then One else Same) else Nothing;
}

-- the number of components that have to be held in a state
abbrev pub held_edge : List ℕ → HeldStep → Edge
held_edge here s = record {
  from = s.state;
  to = s.next;
  asked = if s.is_of_glyph then Held s.pushes (is_labelled here s.state) s.taken else Nothing;
}

-- an entry is taken for that of state 0, which pushes otherwise, where components have to be held behind it
abbrev pub is_taken : List ℕ → HeldStep → Bool
is_taken held s = s.is_of_glyph && s.differs && is_labelled held s.next

-- a state is reached, and more components have to be held in it than there are slots
abbrev pub is_over : List ℕ → List ℕ → ℕ → Bool
is_over reached held s = is_labelled reached s && nat_lt 64 (label_in held s)

-- the numbers of components suit: none in state 0, and nowhere too many, and no entry is taken for another
pub record AreEnough (reached held : List ℕ) (steps : List HeldStep) : Type 0 where
  pub first : label_in held 0 ≡ 0
  pub few : (s : ℕ) → s < 65536 → is_over reached held s ≡ false
  pub agreed : All (λ s. is_taken held s ≡ false) steps

-- why they do not
abbrev pub IsLacking : List ℕ → List ℕ → List HeldStep → Unsettled → Type 0
IsLacking reached held steps (MissingEntry state class) = ⊥
IsLacking reached held steps (UsedBeforeSet r state class) = ⊥
IsLacking reached held steps (TakenForOne r state class) =
    (r ≡ Components) × (s : HeldStep) × Contains steps s × (s.state ≡ state) × (s.class ≡ class)
    × (is_taken held s ≡ true)
IsLacking reached held steps (MovesAtEnd state) = ⊥
IsLacking reached held steps (TooFewComponents state) =
    ((state ≡ 0) × (0 < label_in held 0)) ⊎ (is_over reached held state ≡ true)
