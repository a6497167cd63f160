use Rattle.std.proofs.Common.{◌≡◌, drop, length, take}
use Rattle.aat_records.specs.Lines.{glyphs_of, line_records}
use Rattle.aat_records.specs.Records.{filled}
use Rattle.aat_records.proofs.lines.put_rows.Given as goal

-- the glyphs of the lines before this one are counted, their records are put, and those of the others follow
abbrev pub invariant-loop-i : goal.invariant-loop-i
invariant-loop-i l = record {
  counted : l.count ≡ length (glyphs_of (take l.i l.lines));
  put : l.rows ≡ filled (take l.i (line_records l.text l.size 0 l.lines)) l.initial.rows;
  follow : drop l.i (line_records l.text l.size 0 l.lines) ≡ line_records l.text l.size l.count (drop l.i l.lines);
}
