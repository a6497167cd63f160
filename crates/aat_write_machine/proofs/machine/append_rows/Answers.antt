use Rattle.aat_write_machine.proofs.Rows.{index_is_appended}
use Rattle.aat_write_machine.proofs.machine.append_rows.Goals as goal

pub loop-cell-preserved : goal.loop-cell-preserved
loop-cell-preserved g c = index_is_appended _ _ _ c.loop-cell.cell c.loop-cell.invariant c.in_ok-append_index.ensures
