use Rattle.std.proofs.Common.{◌≡◌, ◌++◌, take}
use Rattle.std.specs.List.{flat_map}
use Rattle.aat_kerning_tables.specs.AnchorPoints.{points_in_rows}
use Rattle.aat_write_kerx.specs.AnkrBytes.{points_bytes}
use Rattle.aat_write_kerx.proofs.ankr.append_rows.Given as goal

abbrev pub invariant-loop-row : goal.invariant-loop-row
invariant-loop-row l =
    l.out.items ≡ l.fn.out.items ++ flat_map (λ row. points_bytes row.1) (points_in_rows (take l.row-index l.rows))
