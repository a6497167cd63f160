use Rattle.std.proofs.Common.{ℕ, ◌*◌, ◌<◌, sym, ap, ◌∙◌, arith}
use Rattle.aat_machine_tables.specs.Rows.{entry_of_cell, rules_of_rows}
use Rattle.aat_machine_tables.specs.inside.Grid.{judged, ruled_entry}
use Rattle.aat_machine_tables.proofs.RowAnswers.{row_answers}
use Rattle.aat_machine_tables.proofs.rows.judged_in_rows.Goals as goal

pub returns : goal.returns
returns g c =
    let count = c.args.class_count in
    let entries = c.args.entries.now in
    let rows = c.args.rows.now in
    let state = c.args.state in
    let class = c.args.class in
    let acts = g.T.Acting.may_act in
    let at = λ (cell : ℕ). entry_of_cell entries rows cell in
    let rules = rules_of_rows count entries rows in
    let narrow : count < 65536 = omega arith in
    let here = row_answers count entries rows state class narrow c.requires.class in
    let start = row_answers count entries rows 0 class narrow c.requires.class ∙ ap at (omega arith) in
    let end = row_answers count entries rows state 0 narrow (omega (arith, c.requires.class)) ∙ ap at (omega arith) in
    c.judged_cell.ensures
    ∙ ap (λ o. judged acts state o (at class) (at (state * count))) (sym here)
    ∙ ap (λ o. judged acts state (ruled_entry rules state class) o (at (state * count))) (sym start)
    ∙ ap (λ o. judged acts state (ruled_entry rules state class) (ruled_entry rules 0 class) o) (sym end)
