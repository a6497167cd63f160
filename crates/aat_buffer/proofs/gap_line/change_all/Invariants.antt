use Rattle.std.proofs.Common.{◌≡◌, ◌++◌, drop, length, map, take}
use Rattle.aat_glyph.specs.declared.glyph.hb_glyph_info_t.{hb_glyph_info_t}
use Rattle.aat_buffer.specs.inside.Changes.{ChangesBy}
use Rattle.aat_buffer.proofs.gap_line.change_all.Given as goal

abbrev pub invariant-loop-glyph : goal.invariant-loop-glyph
invariant-loop-glyph g l = record {
  done : (f : hb_glyph_info_t → hb_glyph_info_t) → ChangesBy g.F.Fn l.change f → l.glyphs ≡ map f (take l.glyph-index l.initial.glyphs) ++ drop l.glyph-index l.initial.glyphs;
  len : length l.glyphs ≡ length l.initial.glyphs;
}
