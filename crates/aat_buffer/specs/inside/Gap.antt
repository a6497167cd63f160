-- How a vector with a gap shows a line. No contract but those of the line itself cites this.
use Rattle.std.specs.Prelude.{ℕ, List, ◌++◌, ◌≤◌, take, drop, vec_len}
use Rattle.aat_buffer.specs.inside.Line.{Line}
use Rattle.aat_buffer.specs.declared.gap_line.GapLine.TheInside.{Inside}

-- the cells before place i and those from place j on
abbrev pub around_gap : {X : Type 0} → List X → ℕ → ℕ → List X
around_gap xs i j = take i xs ++ drop j xs

-- the glyphs round the gap, which stands at the cursor
abbrev pub line_of : {Z : Type 0} → Inside Z → Line
line_of a = record { glyphs = around_gap a.cells.items a.gap_start a.gap_end; cursor = a.gap_start }

-- the gap stands in the cells
pub record IsSoundGap {Z : Type 0} (a : Inside Z) : Type 0 where
  pub ordered : a.gap_start ≤ a.gap_end
  pub in_cells : a.gap_end ≤ vec_len a.cells
