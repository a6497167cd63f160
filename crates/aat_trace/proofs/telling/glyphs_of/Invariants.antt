use Rattle.std.proofs.Common.{◌≡◌, take}
use Rattle.aat_trace.proofs.telling.glyphs_of.Given as goal

abbrev pub invariant-loop-i : goal.invariant-loop-i
invariant-loop-i g l = l.glyphs.items ≡ take l.i l.buffer.line
