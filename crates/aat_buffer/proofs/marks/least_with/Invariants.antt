use Rattle.std.proofs.Common.{◌≡◌, fold, min, take}
use Rattle.aat_buffer.proofs.marks.least_with.Given as goal

abbrev pub invariant-loop-glyph : goal.invariant-loop-glyph
invariant-loop-glyph l = l.least ≡ fold (λ m g. min m g.cluster) l.cluster (take l.glyph-index l.glyphs)
