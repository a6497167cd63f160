use Rattle.std.proofs.Common.{◌≡◌, ◌++◌, drop, None}
use Rattle.aat_kerning_tables.specs.AnchorPoints.{points_in_rows}
use Rattle.aat_write_kerx.specs.AnkrBytes.{offsets_from, refusal_from}
use Rattle.aat_write_kerx.proofs.ankr.offsets.Given as goal

abbrev pub invariant-loop-row : goal.invariant-loop-row
invariant-loop-row l = record {
  so_far :
      l.offsets.items ++ offsets_from l.offset (points_in_rows (drop l.row-index l.rows))
      ≡ offsets_from 0 (points_in_rows l.rows);
  fine : refusal_from l.row-index l.offset (points_in_rows (drop l.row-index l.rows)) ≡ None;
}
