use Rattle.std.proofs.Common.{◌≡◌, drop}
use Rattle.aat_kerning_tables.specs.AnchorPoints.{points_in_rows}
use Rattle.aat_write_kerx.specs.AnkrBytes.{refusal_from}
use Rattle.aat_write_kerx.proofs.ankr.refusal.Given as goal

abbrev pub invariant-loop-place : goal.invariant-loop-place
invariant-loop-place l =
    refusal_from l.place l.offset (points_in_rows (drop l.place l.rows)) ≡ refusal_from 0 0 (points_in_rows l.rows)
