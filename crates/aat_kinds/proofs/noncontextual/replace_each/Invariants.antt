use Rattle.std.proofs.Common.{◌≡◌, ◌++◌, map, take, drop, length, All}
use Rattle.aat_buffer.specs.Buffer.{Is16Bit}
use Rattle.aat_run.specs.Ranges.{switch_for}
use Rattle.aat_run.specs.Stretches.{IsSwitchedAlike}
use Rattle.aat_font.specs.Face.{glyph_classes_of}
use Rattle.aat_kinds.specs.Values.{with_looked_up_value}
use Rattle.aat_kinds.proofs.noncontextual.replace_each.Given as goal

abbrev pub invariant-loop-glyph : goal.invariant-loop-glyph
invariant-loop-glyph l = record {
  done : l.glyphs ≡ map (with_looked_up_value ((switch_for l.ranges).is_on l.run.feature_flags) (glyph_classes_of l.run.face.now) l.lookup) (take l.glyph-index l.initial.glyphs) ++ drop l.glyph-index l.initial.glyphs;
  same_length : length l.glyphs ≡ length l.initial.glyphs;
  small : All Is16Bit l.glyphs;
  alike : IsSwitchedAlike ((switch_for l.ranges).is_on l.run.feature_flags) l.stretch;
}
