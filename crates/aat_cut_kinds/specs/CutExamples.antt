-- Lines that are cut, and what their parts leave: one of a settled contextual subtable, and five that show what premises
-- on the subtable are for. A glyph of a line is an id and a cluster, and one that is left an id, a cluster and a mask.
use Rattle.std.specs.Prelude.{◌≡◌, ◌==◌, ℕ, ℤ, Bool, true, pos, List, [], ◌∷◌, ◌++◌, map, None}
use Rattle.aat_buffer.specs.Buffer.{Buffer, no_glyph}
use Rattle.aat_buffer.specs.Examples.{buffer_at}
use Rattle.aat_machine_tables.specs.Table.{Rule, TableValue}
use Rattle.aat_kinds.specs.Contextual.{Entry}
use Rattle.aat_kinds.specs.Kinds.{contextual_run}
use Rattle.aat_cut_kinds.specs.Parts.{back_part, front_part}

-- a line of these glyphs, with a budget
abbrev pub line_with_budget : ℤ → List (ℕ × ℕ) → Buffer
line_with_budget budget glyphs =
    record (buffer_at 0 (map (λ g. record no_glyph { glyph_id = g.0; cluster = g.1 }) glyphs)) { max_ops = budget }

-- with a budget that no example uses up
abbrev pub line_of : List (ℕ × ℕ) → Buffer
line_of glyphs = line_with_budget (pos 100) glyphs

-- the glyphs along a line
abbrev pub glyphs_of : Buffer → List (ℕ × ℕ × ℕ)
glyphs_of b = map (λ g. (g.glyph_id, g.cluster, g.mask)) b.line

-- what a run over a line leaves, over its glyphs before place q, and over those from there on
pub record Leaves (run : Buffer → Buffer) (q : ℕ) (b : Buffer) (whole front back : List (ℕ × ℕ × ℕ)) : Type 0 where
  pub left : glyphs_of (run b) ≡ whole
  pub left_of_front : glyphs_of (run (front_part q b)) ≡ front
  pub left_of_back : glyphs_of (run (back_part q b)) ≡ back

-- one entry for each class of states 0 and 1
abbrev pub all_idle : {E : Type 0} → E → List (Rule E)
all_idle e =
    (0, 0, e) ∷ (0, 1, e) ∷ (0, 2, e) ∷ (0, 3, e) ∷ (0, 4, e) ∷ (1, 0, e) ∷ (1, 1, e) ∷ (1, 2, e) ∷ (1, 3, e)
    ∷ (1, 4, e) ∷ []

-- a table of five classes with these rules, and else the same entry everywhere
abbrev pub table_with : {E : Type 0} → List (ℕ × ℕ) → List (Rule E) → E → TableValue E
table_with classes rules e = record { class_count = 5; classes = classes; rules = rules ++ all_idle e }

-- an entry to a state, with flags, and the indexes for the marked glyph and for the current one; 0xFFFF is none
abbrev pub entry_to : ℕ → ℕ → ℕ → ℕ → Entry
entry_to state flags marked current =
    record { new_state = state; flags = flags; extra = record { mark_index = marked; current_index = current } }

-- an entry to a state that does nothing
abbrev pub idle_to : ℕ → Entry
idle_to state = entry_to state 0 0xFFFF 0xFFFF

-- one that sets the mark (0x8000)
abbrev pub marks_to : ℕ → Entry
marks_to state = entry_to state 0x8000 0xFFFF 0xFFFF

-- entries to state 0 that ask lookup 0 for the marked glyph, and for the current one
abbrev pub replaces_marked : Entry
replaces_marked = entry_to 0 0 0 0xFFFF

abbrev pub replaces_current : Entry
replaces_current = entry_to 0 0 0xFFFF 0

-- a contextual table of five classes, whose other entries do nothing
abbrev pub contextual_table : List (ℕ × ℕ) → List (Rule Entry) → TableValue Entry
contextual_table classes rules = table_with classes rules (idle_to 0)

-- a run of such a table, with one lookup, on at the clusters that are given
abbrev pub run_by : (ℕ → Bool) → TableValue Entry → List (ℕ × ℕ) → Buffer → Buffer
run_by on table lookup b = (contextual_run on None table (lookup ∷ []) b).buffer

abbrev pub everywhere : ℕ → Bool
everywhere x = true

-- a glyph 4 before a glyph 5 is replaced
abbrev pub replacing_before_five : TableValue Entry
replacing_before_five =
    contextual_table ((4, 4) ∷ (5, 3) ∷ [])
    ((0, 4, marks_to 1) ∷ (1, 4, marks_to 1) ∷ (1, 3, replaces_marked) ∷ [])

-- the mark is set before the cut, and used at the end of the text
abbrev pub marked_till_end : TableValue Entry
marked_till_end =
    contextual_table ((2, 4) ∷ []) ((0, 1, marks_to 0) ∷ (0, 4, idle_to 1) ∷ (1, 0, replaces_current) ∷ [])

-- two entries for class 1 go to state 1, where the mark is used, and one of them sets it
abbrev pub marking_apart : TableValue Entry
marking_apart =
    contextual_table ((3, 4) ∷ []) ((0, 1, marks_to 1) ∷ (1, 1, idle_to 1) ∷ (1, 4, replaces_marked) ∷ [])

-- a glyph of class 1 is replaced, and state 0 has no entry for class 3
abbrev pub replacing_with_a_gap : TableValue Entry
replacing_with_a_gap = record {
  class_count = 5;
  classes = (4, 3) ∷ [];
  rules = (0, 0, idle_to 0) ∷ (0, 1, replaces_current) ∷ (0, 2, idle_to 0) ∷ (0, 4, idle_to 0) ∷ [];
}

-- an entry with the flag names a missing lookup, so that it does not set the mark
abbrev pub missing_a_lookup : TableValue Entry
missing_a_lookup =
    contextual_table ((5, 3) ∷ (6, 4) ∷ []) ((0, 3, entry_to 1 0x8000 0xFFFF 9) ∷ (1, 4, replaces_marked) ∷ [])

-- the end of the text acts where the mark is set
abbrev pub replacing_at_end : TableValue Entry
replacing_at_end = contextual_table [] ((0, 1, marks_to 1) ∷ (1, 0, replaces_current) ∷ [])

-- At an unmarked place the parts of a settled subtable leave what the whole line does. Without each premise on the
-- subtable they do not: where the mark is used that was not set since state 0, where entries that are taken for one set
-- it differently, where one is missing, where one names a missing lookup, and where it is switched off at the cut.
pub record CutExamples : Type 0 where
  pub a_settled_table_is_cut :
      Leaves (run_by everywhere replacing_before_five ((4, 7) ∷ [])) 2
      (line_of ((4, 0) ∷ (5, 1) ∷ (4, 2) ∷ (5, 3) ∷ []))
      ((7, 0, 0) ∷ (5, 1, 3) ∷ (7, 2, 0) ∷ (5, 3, 3) ∷ []) ((7, 0, 0) ∷ (5, 1, 3) ∷ []) ((7, 2, 0) ∷ (5, 3, 3) ∷ [])
  pub a_mark_outlives_the_cut :
      Leaves (run_by everywhere marked_till_end ((2, 3) ∷ [])) 1 (line_of ((4, 3) ∷ (2, 4) ∷ []))
      ((4, 3, 0) ∷ (3, 4, 0) ∷ []) ((4, 3, 0) ∷ []) ((2, 4, 0) ∷ [])
  pub two_entries_are_taken_for_one :
      Leaves (run_by everywhere marking_apart ((1, 2) ∷ [])) 1 (line_of ((4, 1) ∷ (1, 2) ∷ (3, 4) ∷ []))
      ((4, 1, 0) ∷ (1, 2, 0) ∷ (3, 4, 3) ∷ []) ((4, 1, 0) ∷ []) ((2, 2, 0) ∷ (3, 4, 3) ∷ [])
  pub a_missing_entry_ends_the_run :
      Leaves (run_by everywhere replacing_with_a_gap ((3, 4) ∷ [])) 1 (line_of ((4, 4) ∷ (3, 7) ∷ []))
      ((4, 4, 0) ∷ (3, 7, 0) ∷ []) ((4, 4, 0) ∷ []) ((4, 7, 0) ∷ [])
  pub a_missing_lookup_sets_no_mark :
      Leaves (run_by everywhere missing_a_lookup ((1, 7) ∷ [])) 1
      (line_of ((2, 0) ∷ (1, 1) ∷ (5, 2) ∷ (6, 3) ∷ []))
      ((2, 0, 0) ∷ (1, 1, 0) ∷ (5, 2, 3) ∷ (6, 3, 3) ∷ []) ((2, 0, 0) ∷ [])
      ((7, 1, 0) ∷ (5, 2, 3) ∷ (6, 3, 3) ∷ [])
  pub no_turn_asks_where_it_is_off :
      Leaves (run_by (λ x. x == 2) replacing_at_end ((1, 3) ∷ [])) 1 (line_of ((1, 2) ∷ (1, 3) ∷ []))
      ((1, 2, 0) ∷ (1, 3, 0) ∷ []) ((3, 2, 0) ∷ []) ((1, 3, 0) ∷ [])
