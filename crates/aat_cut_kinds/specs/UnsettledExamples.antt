-- The machines whose lines come out differently in two parts, though no mark says so: which of them are settled, and
-- which premise each of the others fails. Apple's TrueType Reference Manual, "The 'morx' table".
use Rattle.std.specs.Prelude.{ℕ, Bool, List, [], ◌∷◌, Some}
use Rattle.aat_machine_tables.specs.Table.{TableValue}
use Rattle.aat_machine_tables.specs.declared.morx.SubtableKind.{SubtableKind}
use Rattle.aat_machine_tables.specs.declared.morx.SubtableKind.TheVariants.{Contextual, Insertion, Ligature, Rearrangement}
use Rattle.aat_machine_tables.specs.declared.state_table.GenericStateEntry.{GenericStateEntry}
use Rattle.aat_kinds.specs.Contextual.{Entry}
use Rattle.aat_kinds.specs.Insertion as insertion
use Rattle.aat_cut_kinds.specs.CutExamples.{marked_till_end, marking_apart, missing_a_lookup, replacing_at_end, replacing_before_five, replacing_with_a_gap}
use Rattle.aat_cut_kinds.specs.EmptyRunExamples.{naming_a_run}
use Rattle.aat_cut_kinds.specs.FallExamples.{putting_in_between}
use Rattle.aat_cut_kinds.specs.OtherCutExamples.{ending_and_moving, moving_deleted, moving_to_start, pushing_apart, pushing_in_start, putting_in_at_end, putting_in_with_a_gap}
use Rattle.aat_cut_kinds.specs.PremiseExamples.{putting_in_on_return, replacing_on_return}
use Rattle.aat_cut_kinds.specs.Settled.{IsPlain}
use Rattle.aat_cuts.specs.Held.{IsLigatureAgreeing, IsLigatureTidy}
use Rattle.aat_cuts.specs.Kinds.{IsSettled, IsVerdictOn}
use Rattle.aat_cuts.specs.Reached.{IsComplete}
use Rattle.aat_cuts.specs.Settled.{IsRegisterUnsettled, IsTidy, Register, the_end_set_by, the_mark}
use Rattle.aat_cuts.specs.declared.unsettled.Unsettled.{Unsettled}
use Rattle.aat_cuts.specs.declared.unsettled.Unsettled.TheVariants.{MissingEntry, MovesAtEnd, TakenForOne, TooFewComponents, UsedBeforeSet}
use Rattle.aat_cuts.specs.declared.unsettled.UsedRegister.TheVariants.{Components, Mark, SpanStart}

-- the contextual subtable of a table, with one lookup
abbrev pub contextual_by : TableValue Entry → List (ℕ × ℕ) → SubtableKind
contextual_by table lookup = Contextual (record { state = table; lookups = lookup ∷ [] })

-- the ligature subtable of a table, with one action and one ligature, glyph 3
abbrev pub ligature_by : TableValue (GenericStateEntry ℕ) → ℕ → List ℕ → SubtableKind
ligature_by table action components = Ligature (record {
  state = table;
  actions = action ∷ [];
  components = components;
  ligatures = record { 0 = 3 } ∷ [];
})

-- the insertion subtable of a table, with glyph 1
abbrev pub insertion_by : TableValue insertion.Entry → SubtableKind
insertion_by table = Insertion (record { state = table; glyphs = record { 0 = 1 } ∷ [] })

-- a subtable is not settled, and this shows why
abbrev pub IsUnsettledBy : SubtableKind → Unsettled → Type 0
IsUnsettledBy kind reason = IsVerdictOn kind (Some reason)

-- Of the eleven machines, of the two others of the contextual examples, of those of the premises on a cut, and of that
-- of runs of no glyphs: which are settled, and why the others are not. The last one is not plain.
pub record CaseVerdicts : Type 0 where
  pub a_settled_table_is_cut : IsSettled (contextual_by replacing_before_five ((4, 7) ∷ []))
  pub a_mark_outlives_the_cut : IsUnsettledBy (contextual_by marked_till_end ((2, 3) ∷ [])) (UsedBeforeSet Mark 1 0)
  pub two_entries_set_the_mark_differently :
      IsUnsettledBy (contextual_by marking_apart ((1, 2) ∷ [])) (TakenForOne Mark 1 1)
  pub a_contextual_entry_is_missing : IsUnsettledBy (contextual_by replacing_with_a_gap ((3, 4) ∷ [])) (MissingEntry 0 3)
  pub a_missing_lookup_sets_no_mark :
      IsUnsettledBy (contextual_by missing_a_lookup ((1, 7) ∷ [])) (UsedBeforeSet Mark 1 4)
  pub a_contextual_subtable_is_off : IsSettled (contextual_by replacing_at_end ((1, 3) ∷ []))
  pub a_component_outlives_the_cut :
      IsUnsettledBy (ligature_by pushing_in_start 0xFFFFFFFF (0 ∷ 0 ∷ 1 ∷ 0 ∷ [])) (TooFewComponents 0)
  pub two_entries_push_differently :
      IsUnsettledBy (ligature_by pushing_apart 0xBFFFFFFF (0 ∷ 0 ∷ [])) (TakenForOne Components 1 1)
  pub the_end_of_the_text_acts : IsUnsettledBy (Rearrangement ending_and_moving) (MovesAtEnd 0)
  pub the_end_of_the_text_asks_for_a_start :
      IsUnsettledBy (Rearrangement ending_and_moving) (UsedBeforeSet SpanStart 0 0)
  pub the_marked_glyph_moves : IsSettled (Rearrangement moving_to_start)
  pub a_merge_splits_a_cluster : IsSettled (Rearrangement moving_deleted)
  pub an_insertion_subtable_is_off : IsSettled (insertion_by putting_in_at_end)
  pub an_insertion_entry_is_missing : IsUnsettledBy (insertion_by putting_in_with_a_gap) (MissingEntry 0 1)
  pub a_contextual_budget_is_spent : IsSettled (contextual_by replacing_on_return ((1, 3) ∷ []))
  pub an_insertion_budget_is_spent : IsSettled (insertion_by putting_in_on_return)
  pub a_glyph_goes_in_over_the_cut : IsSettled (insertion_by putting_in_between)
  pub a_run_of_no_glyphs_is_named : IsSettled (insertion_by naming_a_run)
  pub an_entry_is_not_plain : IsPlain naming_a_run → ⊥

module _ {T : Type 0} (table : TableValue (GenericStateEntry T)) where
  -- no states are complete
  abbrev pub IsIncomplete : Type 0
  IsIncomplete = (is_reached : ℕ → Bool) → IsComplete table is_reached → ⊥

  module _ (register : Register T) where
    -- no labelling of complete states by where the register is live is tidy
    abbrev pub IsNeverTidy : Type 0
    IsNeverTidy =
        (is_reached is_live : ℕ → Bool) → IsComplete table is_reached → IsTidy table register is_reached is_live → ⊥

    -- states are complete, but no labelling is tidy
    pub record IsUntidy : Type 0 where
      pub states : ℕ → Bool
      pub complete : IsComplete table states
      pub untidy : IsNeverTidy

    -- states are complete, and some labelling is tidy, but none that is tidy is agreeing
    pub record IsDisagreeing : Type 0 where
      pub states : ℕ → Bool
      pub complete : IsComplete table states
      pub live : ℕ → Bool
      pub tidy : IsTidy table register states live
      pub disagreeing : IsRegisterUnsettled table register

module _ (table : TableValue (GenericStateEntry ℕ)) (actions : List ℕ) where
  -- the same of the components of a ligature machine: states are complete, but no labelling is tidy
  pub record IsLigatureUntidy : Type 0 where
    pub states : ℕ → Bool
    pub complete : IsComplete table states
    pub untidy :
        (is_reached is_here : ℕ → Bool) (held : ℕ → ℕ) → IsComplete table is_reached
        → IsLigatureTidy table actions is_reached is_here held → ⊥

  -- and some labelling is tidy, but none that is tidy is agreeing
  pub record IsLigatureDisagreeing : Type 0 where
    pub states : ℕ → Bool
    pub complete : IsComplete table states
    pub here : ℕ → Bool
    pub number : ℕ → ℕ
    pub tidy : IsLigatureTidy table actions states here number
    pub disagreeing :
        (is_reached is_here : ℕ → Bool) (held : ℕ → ℕ) → IsComplete table is_reached
        → IsLigatureTidy table actions is_reached is_here held → IsLigatureAgreeing table is_reached held → ⊥

-- The premise that each of these machines fails, while those before it hold.
pub record FailedPremises : Type 0 where
  pub a_mark_outlives_the_cut : IsUntidy marked_till_end (the_mark 1)
  pub two_entries_set_the_mark_differently : IsDisagreeing marking_apart (the_mark 1)
  pub a_contextual_entry_is_missing : IsIncomplete replacing_with_a_gap
  pub a_missing_lookup_sets_no_mark : IsUntidy missing_a_lookup (the_mark 1)
  pub a_component_outlives_the_cut : IsLigatureUntidy pushing_in_start (0xFFFFFFFF ∷ [])
  pub two_entries_push_differently : IsLigatureDisagreeing pushing_apart (0xBFFFFFFF ∷ [])
  pub the_end_of_the_text_acts : IsUntidy ending_and_moving (the_end_set_by 0x8000)
  pub an_insertion_entry_is_missing : IsIncomplete putting_in_with_a_gap
