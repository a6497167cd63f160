use Rattle.std.proofs.Common.{arith}
use Rattle.aat_write_machine.proofs.Joined.{length_more, length_within, start_is_appended}
use Rattle.aat_write_machine.proofs.tables.append_starts.Goals as goal

pub overflow_cast-start : goal.overflow_cast-start
overflow_cast-start c =
    let within = length_within c.args.tables.now c.loop-table.table-index c.table-item.result c.loop-table-test.true c.table-item.is in
    omega (arith, within, c.requires, c.len.ensures, c.table-item.result.ok.0)

pub overflow_add-start : goal.overflow_add-start
overflow_add-start c =
    let within = length_within c.args.tables.now c.loop-table.table-index c.table-item.result c.loop-table-test.true c.table-item.is in
    omega (arith, within, c.requires, c.len.ensures, c.table-item.result.ok.0, c.loop-table.invariant.start)

pub loop-table-preserved : goal.loop-table-preserved
loop-table-preserved c =
    let tables = c.args.tables.now in
    let i = c.loop-table.table-index in
    let more = length_more tables i c.table-item.result c.loop-table-test.true c.table-item.is in
    record {
      start = omega (arith, more, c.len.ensures, c.table-item.result.ok.0, c.loop-table.invariant.start);
      out = start_is_appended tables i c.table-item.result c.loop-table-test.true c.table-item.is c.args.first c.loop-table.start _ _ _
          c.loop-table.invariant.start c.loop-table.invariant.out c.in_ok-append_longs.ensures;
    }
