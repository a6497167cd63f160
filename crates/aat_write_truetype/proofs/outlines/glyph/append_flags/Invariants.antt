use Rattle.std.proofs.Common.{◌≡◌, ◌++◌, map, take}
use Rattle.aat_write_truetype.specs.outlines.GlyphData.{flag_of}
use Rattle.aat_write_truetype.proofs.outlines.glyph.append_flags.Given as goal

abbrev pub invariant-loop-point : goal.invariant-loop-point
invariant-loop-point g l = l.out.items ≡ l.fn.out.items ++ map flag_of (take l.point-index l.points)
