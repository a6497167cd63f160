use Rattle.std.proofs.Common.{◌≡◌, ◌*◌, pos, ◌+ℤ◌, ◌≤ℤ◌, take}
use Rattle.std.specs.Prelude.{fold}
use Rattle.aat_shaper.specs.Lines.{room_of}
use Rattle.aat_shaper.specs.inside.Filling.{paragraph_of}
use Rattle.aat_shaper.proofs.lines.filling.Filling.room_of_all.Given as goal

abbrev pub invariant-loop-glyph : goal.invariant-loop-glyph
invariant-loop-glyph l = record {
  value :
      l.sum ≡ fold (λ s x. s +ℤ room_of (paragraph_of l.self) l.hang x) (pos 0) (take l.glyph-index l.glyphs);
  low : pos 0 ≤ℤ (l.sum +ℤ pos (0x8000_0000 * l.glyph-index));
  high : l.sum ≤ℤ pos (0x8000_0000 * l.glyph-index);
}
