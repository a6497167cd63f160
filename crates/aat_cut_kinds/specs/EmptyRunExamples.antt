-- Lines of an insertion subtable of which an entry names a run and puts no glyphs in. Their parts have the glyphs and
-- the clusters of the whole line, and not its marks.
use Rattle.std.specs.Prelude.{[], ◌∷◌}
use Rattle.aat_buffer.specs.Buffer.{Buffer, reversed}
use Rattle.aat_machine_tables.specs.Table.{TableValue}
use Rattle.aat_kinds.specs.Insertion as insertion
use Rattle.aat_cut_kinds.specs.CutExamples.{Leaves, everywhere, line_of, table_with}
use Rattle.aat_cut_kinds.specs.FallExamples.{sets_the_mark}
use Rattle.aat_cut_kinds.specs.OtherCutExamples.{entry_with, put_in_by, puts_none}

-- an entry to state 0 that names a run at the mark, and puts no glyphs in
abbrev pub puts_none_at_mark : insertion.Entry
puts_none_at_mark = entry_with 0 0 (record { current_insert_index = 0xFFFF; marked_insert_index = 0 })

-- each glyph 4 is marked, and the end of the text names a run
abbrev pub naming_a_run : TableValue insertion.Entry
naming_a_run = table_with ((4, 4) ∷ []) ((0, 0, puts_none_at_mark) ∷ (0, 4, sets_the_mark) ∷ []) puts_none

abbrev pub run_of_none : Buffer → Buffer
run_of_none = put_in_by everywhere naming_a_run

-- the same on the line in the opposite order
abbrev pub run_of_none_backward : Buffer → Buffer
run_of_none_backward b = reversed (run_of_none (reversed b))

-- State 0 names the run at the end of the text. The part that the run takes first ends in state 0, and its glyphs are
-- unsafe from the glyph 4 on. The whole line ends with a glyph 4, in state 1, which names no run. The clusters rise,
-- they fall, and the line is taken from its end.
pub record EmptyRunExamples : Type 0 where
  pub rising :
      Leaves run_of_none 2 (line_of ((4, 2) ∷ (1, 4) ∷ (4, 6) ∷ [])) ((4, 2, 0) ∷ (1, 4, 0) ∷ (4, 6, 0) ∷ [])
      ((4, 2, 0) ∷ (1, 4, 3) ∷ []) ((4, 6, 0) ∷ [])
  pub falling :
      Leaves run_of_none 2 (line_of ((4, 6) ∷ (1, 4) ∷ (4, 2) ∷ [])) ((4, 6, 0) ∷ (1, 4, 0) ∷ (4, 2, 0) ∷ [])
      ((4, 6, 3) ∷ (1, 4, 0) ∷ []) ((4, 2, 0) ∷ [])
  pub backward :
      Leaves run_of_none_backward 1 (line_of ((4, 2) ∷ (1, 4) ∷ (4, 6) ∷ [])) ((4, 2, 0) ∷ (1, 4, 0) ∷ (4, 6, 0) ∷ [])
      ((4, 2, 0) ∷ []) ((1, 4, 0) ∷ (4, 6, 3) ∷ [])
