use Rattle.std.proofs.Common.{◌≡◌, ◌*◌, ◌≤◌, drop}
use Rattle.aat_kerning_tables.specs.AnchorPoints.{points_in_rows}
use Rattle.aat_read_extended.specs.kerx.Anchors.{rows_within}
use Rattle.aat_read_extended.proofs.kerx.AnchorRows.{behind}
use Rattle.aat_read_extended.proofs.kerx.ankr.rows.Given as goal

abbrev pub invariant-loop-i : goal.invariant-loop-i
invariant-loop-i l = record {
  behind : rows_within l.bytes 0 l.glyphs ≡ behind l.bytes (points_in_rows l.rows.items) l.used (drop l.i l.glyphs);
  small : l.used ≤ 34359738368 * l.i;
}
