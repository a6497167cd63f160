use Rattle.std.proofs.Common.{◌≡◌, ◌≤◌, length, map, take}
use Rattle.std.specs.List.{range_with_len}
use Rattle.aat_write_machine.specs.Words.{long_bytes}
use Rattle.aat_write_truetype.specs.outlines.Tables.{glyf_bytes, offset_of}
use Rattle.aat_write_truetype.proofs.outlines.tables.write_outlines.Given as goal

abbrev pub invariant-loop-outline : goal.invariant-loop-outline
invariant-loop-outline g l = record {
  glyf : l.glyf.items ≡ glyf_bytes (take l.outline-index l.outlines);
  loca : l.loca.items ≡ long_bytes (map (offset_of l.outlines) (range_with_len 0 l.outline-index));
  short : length l.glyf.items ≤ 4294967295;
}
