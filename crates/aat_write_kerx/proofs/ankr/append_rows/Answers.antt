use Rattle.std.proofs.Common.{rules, ◌≤◌, length}
use Rattle.aat_write_kerx.proofs.AnkrRows.{few_at}
use Rattle.aat_write_kerx.proofs.ankr.append_rows.Goals as goal

pub append_row-requires : goal.append_row-requires
append_row-requires c =
    let few : length c.row-item.result.1.items ≤ 65536 =
    few_at c.args.rows.now c.loop-row.row-index c.row-item.result c.loop-row-test.true c.row-item.is c.requires in
    search rules
