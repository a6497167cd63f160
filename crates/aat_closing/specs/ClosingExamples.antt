-- What closing runs tell of lines: of one that can be cut, and of lines whose parts leave something else though the first
-- glyph left behind the cut has no mark.
use Rattle.std.specs.Prelude.{◌≡◌, ◌&&◌, ℕ, Bool, true, false, List, [], ◌∷◌, None}
use Rattle.aat_machine_tables.specs.Table.{TableValue}
use Rattle.aat_machine_tables.specs.declared.state_table.GenericStateEntry.{GenericStateEntry}
use Rattle.aat_machine_tables.specs.declared.morx.SubtableKind.{SubtableKind}
use Rattle.aat_machine_tables.specs.declared.morx.SubtableKind.TheVariants.{Rearrangement, Contextual, Ligature}
use Rattle.aat_kinds.specs.Contextual.{Entry}
use Rattle.aat_cut_kinds.specs.CutExamples.{everywhere, line_of, marked_till_end, marking_apart, replacing_before_five, replacing_with_a_gap}
use Rattle.aat_cut_kinds.specs.Open.{is_open}
use Rattle.aat_cut_kinds.specs.OtherCutExamples.{ending_and_moving, moving_to_start, pushing_apart, pushing_in_start}
use Rattle.aat_closing.specs.ClosingRuns.{closing_run}

-- the closing run of a subtable that is on everywhere tells that a cluster is open
abbrev pub tells_open : SubtableKind → ℕ → List (ℕ × ℕ) → Bool
tells_open kind c glyphs =
    let o = closing_run (record { bound = 64; slots = 64; classes = None }) everywhere kind (line_of glyphs) in
    o.is_told && is_open c o.buffer.line

-- a contextual subtable with one lookup, and one of ligatures with one action and one ligature, glyph 3
abbrev pub contextual_of : TableValue Entry → List (ℕ × ℕ) → SubtableKind
contextual_of table lookup = Contextual (record { state = table; lookups = lookup ∷ [] })

abbrev pub ligature_of : TableValue (GenericStateEntry ℕ) → ℕ → List ℕ → SubtableKind
ligature_of table action components =
    Ligature (record { state = table; actions = action ∷ []; components = components; ligatures = record { 0 = 3 } ∷ [] })

-- The cluster behind each cut: told to be open in the first line; not told so where a mark is used at the end of the text,
-- where entries are taken for one of which one sets the mark or pushes, where a missing entry ends the run, where a
-- component from before the cut is taken, where the end of the text ends a span, and where a marked glyph moves.
pub record ClosingExamples : Type 0 where
  pub a_settled_table_is_open :
      tells_open (contextual_of replacing_before_five ((4, 7) ∷ [])) 2 ((4, 0) ∷ (5, 1) ∷ (4, 2) ∷ (5, 3) ∷ []) ≡ true
  pub a_mark_is_used_at_the_end :
      tells_open (contextual_of marked_till_end ((2, 3) ∷ [])) 4 ((4, 3) ∷ (2, 4) ∷ []) ≡ false
  pub a_mark_is_set_by_one_entry :
      tells_open (contextual_of marking_apart ((1, 2) ∷ [])) 2 ((4, 1) ∷ (1, 2) ∷ (3, 4) ∷ []) ≡ false
  pub a_missing_entry_ends_the_run :
      tells_open (contextual_of replacing_with_a_gap ((3, 4) ∷ [])) 7 ((4, 4) ∷ (3, 7) ∷ []) ≡ false
  pub a_component_is_taken_over_the_cut :
      tells_open (ligature_of pushing_in_start 0xFFFFFFFF (0 ∷ 0 ∷ 1 ∷ 0 ∷ [])) 6 ((4, 5) ∷ (3, 6) ∷ (1, 7) ∷ [])
      ≡ false
  pub one_entry_pushes :
      tells_open (ligature_of pushing_apart 0xBFFFFFFF (0 ∷ 0 ∷ [])) 3 ((2, 2) ∷ (3, 3) ∷ (1, 4) ∷ []) ≡ false
  pub the_end_ends_a_span :
      tells_open (Rearrangement ending_and_moving) 5 ((4, 3) ∷ (4, 4) ∷ (2, 5) ∷ []) ≡ false
  pub a_marked_glyph_moves :
      tells_open (Rearrangement moving_to_start) 3 ((2, 1) ∷ (3, 3) ∷ (2, 4) ∷ []) ≡ false
