-- Lines of an insertion subtable whose clusters fall as it takes them: two that are cut, and one that is not.
use Rattle.std.specs.Prelude.{[], ◌∷◌}
use Rattle.aat_buffer.specs.Buffer.{Buffer, reversed}
use Rattle.aat_machine_tables.specs.Table.{TableValue}
use Rattle.aat_kinds.specs.Insertion as insertion
use Rattle.aat_cut_kinds.specs.CutExamples.{Leaves, everywhere, line_of, table_with}
use Rattle.aat_cut_kinds.specs.OtherCutExamples.{entry_with, put_in_by, puts_none}

-- an entry to state 1 that sets the mark
abbrev pub sets_the_mark : insertion.Entry
sets_the_mark = entry_with 1 0x8000 (record { current_insert_index = 0xFFFF; marked_insert_index = 0xFFFF })

-- an entry to state 0 that puts one glyph in behind the mark
abbrev pub puts_behind_mark : insertion.Entry
puts_behind_mark = entry_with 0 1 (record { current_insert_index = 0xFFFF; marked_insert_index = 0 })

-- a glyph goes in behind a glyph 4 that a glyph 2 follows
abbrev pub putting_in_between : TableValue insertion.Entry
putting_in_between =
    table_with ((2, 3) ∷ (4, 4) ∷ []) ((0, 4, sets_the_mark) ∷ (1, 3, puts_behind_mark) ∷ []) puts_none

abbrev pub put_in_between : Buffer → Buffer
put_in_between = put_in_by everywhere putting_in_between

-- the same on the line in the opposite order
abbrev pub put_in_backward : Buffer → Buffer
put_in_backward b = reversed (put_in_between (reversed b))

-- A glyph goes in on each side of the cut, and the last glyph before it has no mark; the same from the line's end. One
-- goes in over the cut, and the glyphs right before it are marked, but neither the first one of the line nor the one
-- behind the cut.
pub record FallExamples : Type 0 where
  pub a_falling_line_is_cut :
      Leaves put_in_between 2 (line_of ((4, 7) ∷ (2, 6) ∷ (4, 3) ∷ (2, 1) ∷ []))
      ((4, 7, 3) ∷ (1, 7, 3) ∷ (2, 6, 0) ∷ (4, 3, 3) ∷ (1, 3, 3) ∷ (2, 1, 0) ∷ [])
      ((4, 7, 3) ∷ (1, 7, 3) ∷ (2, 6, 0) ∷ []) ((4, 3, 3) ∷ (1, 3, 3) ∷ (2, 1, 0) ∷ [])
  pub a_line_is_cut_from_its_end :
      Leaves put_in_backward 2 (line_of ((2, 1) ∷ (4, 3) ∷ (2, 6) ∷ (4, 7) ∷ []))
      ((2, 1, 0) ∷ (1, 3, 3) ∷ (4, 3, 3) ∷ (2, 6, 0) ∷ (1, 7, 3) ∷ (4, 7, 3) ∷ [])
      ((2, 1, 0) ∷ (1, 3, 3) ∷ (4, 3, 3) ∷ []) ((2, 6, 0) ∷ (1, 7, 3) ∷ (4, 7, 3) ∷ [])
  pub the_glyph_before_the_cut_is_marked :
      Leaves put_in_between 2 (line_of ((2, 9) ∷ (4, 7) ∷ (2, 1) ∷ []))
      ((2, 9, 0) ∷ (4, 7, 3) ∷ (1, 7, 3) ∷ (2, 1, 0) ∷ []) ((2, 9, 0) ∷ (4, 7, 0) ∷ []) ((2, 1, 0) ∷ [])
