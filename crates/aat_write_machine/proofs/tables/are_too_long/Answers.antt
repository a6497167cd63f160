use Rattle.std.proofs.Common.{arith}
use Rattle.aat_write_machine.proofs.Joined.{too_long_by}
use Rattle.aat_write_machine.proofs.tables.are_too_long.Goals as goal

pub returns-then-len-total : goal.returns-then-len-total
returns-then-len-total c =
    too_long_by c.args.tables.now c.loop-table.table-index c.loop-table.total c.table-item.result c.loop-table-test.true c.table-item.is
    c.loop-table.invariant.total (omega (arith, c.if-len-total.true, c.loop-table.invariant.few, c.table-item.result.ok.0))
