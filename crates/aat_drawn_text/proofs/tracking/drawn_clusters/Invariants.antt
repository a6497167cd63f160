use Rattle.std.proofs.Common.{◌≡◌, map, take}
use Rattle.aat_shaped_text.specs.ShapedText.{drawn_cluster}
use Rattle.aat_drawn_text.proofs.tracking.drawn_clusters.Given as goal

-- those of the glyphs so far
abbrev pub invariant-loop-glyph : goal.invariant-loop-glyph
invariant-loop-glyph g l = l.clusters.items ≡ map drawn_cluster (take l.glyph-index l.glyphs)
