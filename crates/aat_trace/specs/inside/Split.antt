-- A line in two parts. (No chapter of the manual.)
use Rattle.std.specs.Prelude.{ℕ, ◌++◌, List, reverse}
use Rattle.aat_trace.specs.declared.split_line.SplitLine.{SplitLine}

-- the line of two parts, the second of which is held from its end on
abbrev pub line_of : SplitLine → List ℕ
line_of s = s.front.items ++ reverse s.behind.items
