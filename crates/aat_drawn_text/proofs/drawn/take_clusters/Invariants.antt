use Rattle.std.proofs.Common.{◌≡◌, ◌++◌, drop, length, take}
use Rattle.aat_shaped_text.specs.ShapedText.{with_clusters_of}
use Rattle.aat_drawn_text.proofs.drawn.take_clusters.Given as goal

abbrev pub invariant-loop-i : goal.invariant-loop-i
invariant-loop-i l = record {
  done : l.glyphs ≡ with_clusters_of (take l.i l.fn.line) (take l.i l.initial.glyphs) ++ drop l.i l.initial.glyphs;
  len : length l.glyphs ≡ length l.initial.glyphs;
}
