use Rattle.aat_machine_tables.proofs.GridAnswers.{grid_answers}
use Rattle.aat_machine_tables.proofs.state_table.grid_over.Goals as goal

pub returns-clause-answers : goal.returns-clause-answers
returns-clause-answers g c =
    grid_answers g.T.Acting.may_act c.args.class_count c.state_count-states.result c.args.rules.now _ c.in_ok-cells.ensures.long c.in_ok-cells.ensures.entries c.state_count-states.ensures.below
