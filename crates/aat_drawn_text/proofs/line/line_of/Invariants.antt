use Rattle.std.proofs.Common.{◌≡◌, length, map, take}
use Rattle.std.specs.Prelude.{All, vec_capacity, vec_len}
use Rattle.aat_buffer.specs.Buffer.{Is16Bit}
use Rattle.aat_shaped_text.specs.ShapedText.{line_glyph}
use Rattle.aat_drawn_text.proofs.line.line_of.Given as goal

abbrev pub invariant-loop-glyph : goal.invariant-loop-glyph
invariant-loop-glyph g l = record {
  made : l.line.items ≡ map (line_glyph l.fn.face l.fn.features) (take l.glyph-index l.fn.text);
  ids : All Is16Bit l.line.items;
  count : vec_len l.line ≡ l.glyph-index;
  room : vec_capacity l.line ≡ length l.fn.text;
}
