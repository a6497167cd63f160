use Rattle.std.proofs.Common.{◌≡◌, length, map, take}
use Rattle.aat_records.specs.Lines.{glyphs_of}
use Rattle.aat_records.specs.Records.{as_it_is, filled, glyph_record}
use Rattle.aat_records.proofs.lines.put_glyphs.Given as goal

-- the glyphs of the lines before this one are counted and put
abbrev pub invariant-loop-i : goal.invariant-loop-i
invariant-loop-i l = record {
  counted : l.count ≡ length (glyphs_of (take l.i l.lines));
  put : l.out ≡ filled (map (glyph_record as_it_is) (glyphs_of (take l.i l.lines))) l.initial.out;
}
