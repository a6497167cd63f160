use Rattle.std.proofs.Common.{take}
use Rattle.aat_shaper.specs.inside.Filling.{AreAdded}
use Rattle.aat_shaper.proofs.lines.fill.add_glyphs.Given as goal

abbrev pub invariant-loop-i : goal.invariant-loop-i
invariant-loop-i g l = AreAdded (take l.i l.line) l.fn.glyphs.items l.glyphs.items
