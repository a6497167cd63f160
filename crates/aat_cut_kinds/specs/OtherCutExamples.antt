-- Lines of ligature, rearrangement and insertion subtables that cannot be cut, though no mark says so: what the whole
-- line's run leaves, and what those of its parts leave.
use Rattle.std.specs.Prelude.{◌==◌, ℕ, Bool, List, [], ◌∷◌}
use Rattle.aat_buffer.specs.Buffer.{Buffer}
use Rattle.aat_machine_tables.specs.Table.{Rule, TableValue}
use Rattle.aat_machine_tables.specs.declared.state_table.GenericStateEntry.{GenericStateEntry}
use Rattle.aat_kinds.specs.Insertion as insertion
use Rattle.aat_kinds.specs.Kinds.{insertion_run, ligature_run, rearrangement_run, reversed_run}
use Rattle.aat_cut_kinds.specs.CutExamples.{Leaves, everywhere, line_of, table_with}

-- an entry to a state, with flags and what else it holds
abbrev pub entry_with : {T : Type 0} → ℕ → ℕ → T → GenericStateEntry T
entry_with state flags extra = record { new_state = state; flags = flags; extra = extra }

-- a ligature table of five classes, whose other entries do nothing
abbrev pub ligature_table : List (ℕ × ℕ) → List (Rule (GenericStateEntry ℕ)) → TableValue (GenericStateEntry ℕ)
ligature_table classes rules = table_with classes rules (entry_with 0 0 0)

-- state 0 pushes, and takes a component
abbrev pub pushing_in_start : TableValue (GenericStateEntry ℕ)
pushing_in_start =
    ligature_table ((1, 3) ∷ (4, 4) ∷ []) ((0, 4, entry_with 0 0x8000 0) ∷ (0, 3, entry_with 0 0x2000 0) ∷ [])

-- two entries for class 1 go to state 1, where a component is taken, and one of them pushes
abbrev pub pushing_apart : TableValue (GenericStateEntry ℕ)
pushing_apart =
    ligature_table ((1, 4) ∷ [])
    ((0, 1, entry_with 1 0x8000 0) ∷ (1, 1, entry_with 1 0 0) ∷ (1, 4, entry_with 0 0x2000 0) ∷ [])

-- a run of a ligature subtable, with one ligature, glyph 3
abbrev pub ligatures_by : TableValue (GenericStateEntry ℕ) → ℕ → List ℕ → Buffer → Buffer
ligatures_by table action components b =
    (ligature_run 64 everywhere table (action ∷ []) components (record { 0 = 3 } ∷ []) b).buffer

-- a rearrangement table of five classes, whose other entries do nothing
abbrev pub rearrangement_table :
    List (ℕ × ℕ) → List (Rule (GenericStateEntry (Unit {0}))) → TableValue (GenericStateEntry (Unit {0}))
rearrangement_table classes rules = table_with classes rules (entry_with 0 0 tt)

-- the entry for the end of the text sets the end of the span and has a verb
abbrev pub ending_and_moving : TableValue (GenericStateEntry (Unit {0}))
ending_and_moving =
    rearrangement_table ((2, 4) ∷ []) ((0, 4, entry_with 0 0x8000 tt) ∷ (0, 0, entry_with 0 0x2004 tt) ∷ [])

-- a glyph 2 begins a span, each glyph of class 1 begins it anew, and the next 2 ends it and moves to its front
abbrev pub moving_to_start : TableValue (GenericStateEntry (Unit {0}))
moving_to_start =
    rearrangement_table ((2, 4) ∷ [])
    ((0, 4, entry_with 1 0x8000 tt) ∷ (1, 1, entry_with 1 0x8000 tt) ∷ (1, 4, entry_with 0 0x2002 tt) ∷ [])

-- a deleted glyph begins a span, and one of class 1 ends it, so that the first glyph moves to its end
abbrev pub moving_deleted : TableValue (GenericStateEntry (Unit {0}))
moving_deleted = rearrangement_table [] ((0, 2, entry_with 1 0x8000 tt) ∷ (1, 1, entry_with 0 0x2001 tt) ∷ [])

-- a run of a rearrangement subtable
abbrev pub rearranged_by : TableValue (GenericStateEntry (Unit {0})) → Buffer → Buffer
rearranged_by table b = (rearrangement_run 64 everywhere table b).buffer

-- the same on the line in the opposite order
abbrev pub rearranged_backward_by : TableValue (GenericStateEntry (Unit {0})) → Buffer → Buffer
rearranged_backward_by table b = (reversed_run (rearrangement_run 64 everywhere table) b).buffer

-- an insertion entry to state 0 that puts one glyph in at the cursor, and one that puts none in
abbrev pub puts_in : insertion.Entry
puts_in = entry_with 0 0x20 (record { current_insert_index = 0; marked_insert_index = 0xFFFF })

abbrev pub puts_none : insertion.Entry
puts_none = entry_with 0 0 (record { current_insert_index = 0xFFFF; marked_insert_index = 0xFFFF })

-- a glyph goes in at the end of the text
abbrev pub putting_in_at_end : TableValue insertion.Entry
putting_in_at_end = table_with [] ((0, 0, puts_in) ∷ []) puts_none

-- a glyph goes in behind a deleted one, and state 0 has no entry for class 1
abbrev pub putting_in_with_a_gap : TableValue insertion.Entry
putting_in_with_a_gap = record {
  class_count = 5;
  classes = [];
  rules = (0, 0, puts_none) ∷ (0, 2, puts_in) ∷ (0, 3, puts_none) ∷ (0, 4, puts_none) ∷ [];
}

-- a run of an insertion subtable of glyph 1
abbrev pub put_in_by : (ℕ → Bool) → TableValue insertion.Entry → Buffer → Buffer
put_in_by on table b = (insertion_run on table (record { 0 = 1 } ∷ []) b).buffer

-- a component that was pushed before the cut is taken behind it; and two entries are taken for one of which one pushes
pub record LigatureCutExamples : Type 0 where
  pub a_component_outlives_the_cut :
      Leaves (ligatures_by pushing_in_start 0xFFFFFFFF (0 ∷ 0 ∷ 1 ∷ 0 ∷ [])) 1
      (line_of ((4, 5) ∷ (3, 6) ∷ (1, 7) ∷ []))
      ((3, 5, 0) ∷ (3, 6, 0) ∷ (1, 7, 3) ∷ []) ((4, 5, 0) ∷ []) ((3, 6, 0) ∷ (1, 7, 3) ∷ [])
  pub two_entries_are_taken_for_one :
      Leaves (ligatures_by pushing_apart 0xBFFFFFFF (0 ∷ 0 ∷ [])) 1 (line_of ((2, 2) ∷ (3, 3) ∷ (1, 4) ∷ []))
      ((3, 2, 0) ∷ (3, 3, 0) ∷ (1, 4, 3) ∷ []) ((2, 2, 0) ∷ []) ((3, 3, 0) ∷ (1, 4, 3) ∷ [])

-- the end of the text ends a span by itself; a marked glyph moves inside its cluster; and a merge splits a cluster where
-- the line is taken backward
pub record RearrangementCutExamples : Type 0 where
  pub the_end_of_the_text_acts :
      Leaves (rearranged_by ending_and_moving) 2 (line_of ((4, 3) ∷ (4, 4) ∷ (2, 5) ∷ []))
      ((4, 3, 0) ∷ (4, 4, 0) ∷ (2, 5, 0) ∷ []) ((4, 3, 0) ∷ (4, 3, 0) ∷ []) ((2, 5, 0) ∷ [])
  pub the_marked_glyph_moves :
      Leaves (rearranged_by moving_to_start) 1 (line_of ((2, 1) ∷ (3, 3) ∷ (2, 4) ∷ []))
      ((2, 1, 0) ∷ (2, 3, 0) ∷ (3, 3, 3) ∷ []) ((2, 1, 0) ∷ []) ((3, 3, 0) ∷ (2, 4, 0) ∷ [])
  pub a_merge_splits_a_cluster :
      Leaves (rearranged_backward_by moving_deleted) 1 (line_of ((2, 0) ∷ (65535, 2) ∷ (4, 2) ∷ []))
      ((65535, 0, 0) ∷ (2, 0, 0) ∷ (4, 2, 0) ∷ []) ((2, 0, 0) ∷ []) ((65535, 2, 0) ∷ (4, 2, 0) ∷ [])

-- the glyph behind the cut is off, so that no turn asks; and a missing entry ends the run
pub record InsertionCutExamples : Type 0 where
  pub no_turn_asks_where_it_is_off :
      Leaves (put_in_by (λ x. x == 6) putting_in_at_end) 1 (line_of ((2, 6) ∷ (4, 8) ∷ []))
      ((2, 6, 0) ∷ (4, 8, 0) ∷ []) ((2, 6, 0) ∷ (1, 6, 0) ∷ []) ((4, 8, 0) ∷ [])
  pub a_missing_entry_ends_the_run :
      Leaves (put_in_by everywhere putting_in_with_a_gap) 1 (line_of ((4, 0) ∷ (65535, 1) ∷ []))
      ((4, 0, 0) ∷ (65535, 1, 0) ∷ []) ((4, 0, 0) ∷ []) ((65535, 1, 0) ∷ (1, 1, 0) ∷ [])
