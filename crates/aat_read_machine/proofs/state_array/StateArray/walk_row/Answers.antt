use Rattle.std.proofs.Common.{◌*◌, ◌<◌, arith, ap}
use Rattle.aat_read_machine.specs.StateArray.{StateArray}
use Rattle.aat_read_machine.proofs.Counting.{more_cells}
use Rattle.aat_read_machine.proofs.Walks.{nothing_new}
use Rattle.aat_read_machine.proofs.state_array.StateArray.walk_row.Goals as goal
use Rattle.aat_read_machine.proofs.state_array.StateArray.walk_row.Goals.{then-index-walk, else-index-walk}

pub walk_on-walk-requires-clause-below : goal.walk_on-walk-requires-clause-below
walk_on-walk-requires-clause-below c =
    let width = ap (λ (m : StateArray). m.class_count) c.self.view_is in
    let below : c.loop-cell.cell < c.args.walk.count * c.args.self.now.class_count = omega (arith, width, c.loop-cell-test.true, c.requires.below) in
    more_cells c.args.walk.count c.loop-cell.walk.count c.args.self.now.class_count c.loop-cell.cell c.loop-cell.invariant.rises below

pub loop-cell-preserved : goal.loop-cell-preserved
loop-cell-preserved c =
    let width = ap (λ (m : StateArray). m.class_count) c.self.view_is in
    let cell = c.loop-cell.cell in
    let indexed = c.requires.indexed cell (omega (arith, width, c.loop-cell-test.true)) in
    elim c.if-index-walk.branch [
      | then-index-walk w ↦ record {
        walk = rw w.walk-is w.walk_on-walk.ensures.walk;
        rises = rw w.walk-is (omega (arith, w.walk_on-walk.ensures.rises, c.loop-cell.invariant.rises));
      }
      | else-index-walk w ↦ record {
        walk = rw w.walk-is (nothing_new c.args.self.now cell c.index.result c.loop-cell.walk indexed c.loop-cell.invariant.walk c.index.ensures (omega (arith, w.if-index-walk.false)));
        rises = rw w.walk-is c.loop-cell.invariant.rises;
      }
    ]
