use Rattle.std.proofs.Common.{◌≡◌, ◌&&◌, ◌==◌, ◌∙◌, false, List, sym, subst}
use Rattle.std.specs.List.{All}
use Rattle.std.proofs.lemmas.List.{take_all}
use Rattle.std.proofs.lemmas.List.Elements.{All-more}
use Rattle.aat_machine_tables.specs.Table.{Rule}
use Rattle.aat_machine_tables.specs.declared.state_table.GenericStateEntry.{GenericStateEntry}
use Rattle.aat_cuts.specs.Kinds.{moves_and_ends}
use Rattle.aat_cuts.proofs.settled.moving_end.Goals as goal

pub loop-cell-preserved : goal.loop-cell-preserved
loop-cell-preserved c =
    All-more (λ x. (x.1 == 0 && moves_and_ends x.2) ≡ false) c.args.cells.now c.loop-cell.cell-index _ c.loop-cell-test.true c.loop-cell.invariant (sym c.is_moving_end-moves.ensures ∙ c.if-moves.false)

pub returns-clause-none : goal.returns-clause-none
returns-clause-none c =
    subst (λ (xs : List (Rule (GenericStateEntry (Unit {0})))). All (λ x. (x.1 == 0 && moves_and_ends x.2) ≡ false) xs) (take_all c.loop-cell.cell-index c.args.cells.now c.loop-cell-test.false) c.loop-cell.invariant
