-- Lines of a subtable that is off behind a cut: where it is off before the cut too, the parts leave what the whole leaves,
-- and where it is on there, they may not.
use Rattle.std.specs.Prelude.{◌≡◌, ◌==◌, ◌&&◌, ◌||◌, ℕ, Bool, true, [], ◌∷◌, None}
use Rattle.aat_buffer.specs.Buffer.{Buffer}
use Rattle.aat_cut_kinds.specs.CutExamples.{Leaves, line_of, replacing_at_end}
use Rattle.aat_cut_kinds.specs.Open.{is_open}
use Rattle.aat_closing.specs.ClosingExamples.{contextual_of}
use Rattle.aat_closing.specs.ClosingRuns.{Told, closing_run}

-- the closing run of a table that replaces glyph 1 by glyph 3 at the end of the text, on at some clusters
abbrev pub replaced : (ℕ → Bool) → Buffer → Told
replaced on b =
    closing_run (record { bound = 64; slots = 64; classes = None }) on (contextual_of replacing_at_end ((1, 3) ∷ [])) b

abbrev pub left_by : (ℕ → Bool) → Buffer → Buffer
left_by on b = (replaced on b).buffer

-- it tells that a cluster is open
abbrev pub tells_of : (ℕ → Bool) → ℕ → Buffer → Bool
tells_of on c b = (replaced on b).is_told && is_open c (replaced on b).buffer.line

-- on at the first and the last cluster of a line, and at the first one
abbrev pub at_both_ends : ℕ → Bool
at_both_ends x = (x == 1) || (x == 4)

abbrev pub at_two : ℕ → Bool
at_two x = x == 2

-- Glyphs 1 of clusters in a row, cut before cluster 3, which is told to be open: off at 2 and 3, and off at 3 alone.
pub record AlikeExamples : Type 0 where
  pub off_on_both_sides_is_told : tells_of at_both_ends 3 (line_of ((1, 1) ∷ (1, 2) ∷ (1, 3) ∷ (1, 4) ∷ [])) ≡ true
  pub off_on_both_sides :
      Leaves (left_by at_both_ends) 2 (line_of ((1, 1) ∷ (1, 2) ∷ (1, 3) ∷ (1, 4) ∷ []))
      ((1, 1, 0) ∷ (1, 2, 0) ∷ (1, 3, 0) ∷ (3, 4, 3) ∷ []) ((1, 1, 0) ∷ (1, 2, 0) ∷ []) ((1, 3, 0) ∷ (3, 4, 3) ∷ [])
  pub off_behind_alone_is_told : tells_of at_two 3 (line_of ((1, 2) ∷ (1, 3) ∷ [])) ≡ true
  pub off_behind_alone :
      Leaves (left_by at_two) 1 (line_of ((1, 2) ∷ (1, 3) ∷ [])) ((1, 2, 0) ∷ (1, 3, 0) ∷ []) ((3, 2, 0) ∷ [])
      ((1, 3, 0) ∷ [])
