use Rattle.std.proofs.Common.{◌≡◌, ◌*◌, ◌∙◌, ap, le_refl, arith}
use Rattle.std.proofs.lemmas.Nat.{mul-le}
use Rattle.aat_machine_tables.proofs.GridAnswers.{row_more}
use Rattle.aat_machine_tables.proofs.state_table.cells_of.Goals as goal

pub overflow_cast-state : goal.overflow_cast-state
overflow_cast-state g c =
    let states = c.args.states in
    omega (arith, mul-le states 1 states c.args.class_count (le_refl states) c.requires.classes)

pub loop-state-preserved : goal.loop-state-preserved
loop-state-preserved g c =
    let before = c.loop-state.invariant in
    let made = c.in_ok-append_row.ensures in
    let state = c.loop-state.state in
    record {
      long = omega (arith, before.long, made.long);
      entries = row_more g.T.Acting.may_act c.args.class_count state c.args.rules.now c.loop-state.cells.items c.append_row.new.cells.items before.long made.kept made.entries before.entries;
    }

pub returns-clause-long : goal.returns-clause-long
returns-clause-long g c =
    let all : c.loop-state.state ≡ c.args.states = omega arith in
    c.loop-state.invariant.long ∙ ap (λ a. a * c.args.class_count) all
