use Rattle.std.proofs.Common.{◌≡◌, ◌++◌, drop, take}
use Rattle.aat_showing.specs.Marks.{zero_marks}
use Rattle.aat_showing.proofs.marks.zero_marks.Given as goal

-- the glyphs before this one are done, and those from it on are still to be
abbrev pub invariant-loop-i : goal.invariant-loop-i
invariant-loop-i l = l.glyphs ≡ zero_marks l.moves (take l.i l.initial.glyphs) ++ drop l.i l.initial.glyphs
