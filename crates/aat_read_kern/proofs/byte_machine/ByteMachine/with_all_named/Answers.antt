use Rattle.std.proofs.Common.{sym, ap, ◌∙◌}
use Rattle.aat_bytes.specs.facts.Ranges.{fold_more}
use Rattle.aat_read_kern.specs.ByteStates.{with_named}
use Rattle.aat_read_kern.specs.declared.rows.Rows.{Rows}
use Rattle.aat_read_kern.proofs.byte_machine.ByteMachine.with_all_named.Goals as goal

pub loop-cell-preserved : goal.loop-cell-preserved
loop-cell-preserved c =
    let step = with_named c.args.bytes.now c.args.self c.args.rows in
    record {
      is =
          c.with_named-found.ensures.is
          ∙ ap (λ (found : Rows). step found c.loop-cell.cell) c.loop-cell.invariant.is
          ∙ sym (fold_more step c.args.rows c.loop-cell.cell);
      near = c.with_named-found.ensures.near;
    }
