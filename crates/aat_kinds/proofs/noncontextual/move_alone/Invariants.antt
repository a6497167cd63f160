use Rattle.std.proofs.Common.{◌≡◌, ◌++◌, map, take, drop, length, true, None, All}
use Rattle.aat_buffer.specs.Buffer.{Is16Bit}
use Rattle.aat_kinds.specs.Values.{with_looked_up_value}
use Rattle.aat_kinds.proofs.noncontextual.move_alone.Given as goal

abbrev pub invariant-loop-glyph : goal.invariant-loop-glyph
invariant-loop-glyph l = record {
  done : l.glyphs ≡ map (with_looked_up_value (λ _. true) None l.lookup) (take l.glyph-index l.initial.glyphs) ++ drop l.glyph-index l.initial.glyphs;
  same_length : length l.glyphs ≡ length l.initial.glyphs;
  small : All Is16Bit l.glyphs;
}
