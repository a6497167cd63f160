-- A line that is cut, and how its parts stand in it.
use Rattle.std.specs.Prelude.{◌≡◌, ℕ, ◌+◌, ◌≤◌, ℤ, List, ◌++◌, length, take, drop}
use Rattle.aat_buffer.specs.Buffer.{Buffer, with_line}
use Rattle.aat_run.specs.Budget.{operations_left}
use Rattle.aat_glyph.specs.declared.glyph.hb_glyph_info_t.{hb_glyph_info_t}

-- the glyphs before place q, in a buffer that is else the same
abbrev pub front_part : ℕ → Buffer → Buffer
front_part q b = with_line b (take q b.line)

-- the glyphs from place q on
abbrev pub back_part : ℕ → Buffer → Buffer
back_part q b = with_line b (drop q b.line)

-- gs stand behind the line
abbrev pub followed_by : List hb_glyph_info_t → Buffer → Buffer
followed_by gs b = with_line b (b.line ++ gs)

-- gs stand before the line, so that the cursor moves on by as many places; the budget is this
abbrev pub moved_on : List hb_glyph_info_t → ℤ → Buffer → Buffer
moved_on gs budget b = record b { line = gs ++ b.line; cursor = length gs + b.cursor; max_ops = budget }

-- the line that was left of the whole is that of the front part, and behind it that of the back part, with their masks;
-- and of the budget no less was left of either part
pub record LeftInParts (whole front back : Buffer) : Type 0 where
  pub line : whole.line ≡ front.line ++ back.line
  pub front_budget : operations_left whole.max_ops ≤ operations_left front.max_ops
  pub back_budget : operations_left whole.max_ops ≤ operations_left back.max_ops
