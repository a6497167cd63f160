use Rattle.std.proofs.Common.{sym, ◌∙◌, arith}
use Rattle.aat_machine_tables.proofs.RowAnswers.{row_answers}
use Rattle.aat_machine_tables.proofs.rows.entry_in_rows.Goals as goal

pub returns : goal.returns
returns g c =
    c.entry_of_cell.ensures
    ∙ sym (row_answers c.args.class_count c.args.entries.now c.args.rows.now c.args.state c.args.class (omega arith) c.requires.class)
