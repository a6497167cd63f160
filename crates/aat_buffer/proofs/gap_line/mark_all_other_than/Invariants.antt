use Rattle.std.proofs.Common.{◌≡◌, ◌++◌, drop, length, map, take}
use Rattle.aat_buffer.specs.Marks.{marked_above}
use Rattle.aat_buffer.proofs.gap_line.mark_all_other_than.Given as goal

abbrev pub invariant-loop-glyph : goal.invariant-loop-glyph
invariant-loop-glyph l = record {
  done : l.glyphs ≡ map (marked_above l.cluster 3) (take l.glyph-index l.initial.glyphs) ++ drop l.glyph-index l.initial.glyphs;
  len : length l.glyphs ≡ length l.initial.glyphs;
}
