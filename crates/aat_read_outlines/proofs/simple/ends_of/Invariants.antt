use Rattle.std.proofs.Common.{◌≡◌}
use Rattle.aat_read_outlines.specs.SimpleGlyphs.{ends_of}
use Rattle.aat_read_outlines.proofs.simple.ends_of.Given as goal

abbrev pub invariant-loop-contour : goal.invariant-loop-contour
invariant-loop-contour g l = l.ends.items ≡ ends_of l.bytes l.contour
