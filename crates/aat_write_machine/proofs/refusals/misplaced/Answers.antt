use Rattle.std.proofs.Common.{sym, ◌∙◌}
use Rattle.aat_write_machine.proofs.Rows.{cell_is_other, cell_is_passed}
use Rattle.aat_write_machine.proofs.refusals.misplaced.Goals as goal

pub loop-cell-preserved : goal.loop-cell-preserved
loop-cell-preserved g c =
    cell_is_passed c.args.class_count c.loop-cell.cell c.key.result c.args.rules.now c.index-rules-cell.result _
    c.loop-cell-test.true c.index-rules-cell.is c.loop-cell.invariant c.key.ensures (c.if-key-cell_key.false ∙ c.cell_key.ensures)

pub returns-then-key-cell_key : goal.returns-then-key-cell_key
returns-then-key-cell_key g c =
    cell_is_other c.args.class_count c.loop-cell.cell c.key.result c.args.rules.now c.index-rules-cell.result _
    c.loop-cell-test.true c.index-rules-cell.is c.loop-cell.invariant c.key.ensures (λ same. c.if-key-cell_key.true (same ∙ sym c.cell_key.ensures))
