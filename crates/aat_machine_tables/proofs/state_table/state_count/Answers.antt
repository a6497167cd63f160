use Rattle.std.proofs.Common.{◌<◌, length, arith}
use Rattle.std.proofs.lemmas.Bool.Decides.{nat_tests}
use Rattle.aat_machine_tables.proofs.GridAnswers.{rules_below}
use Rattle.aat_machine_tables.proofs.state_table.state_count.Goals as goal

pub returns-clause-below : goal.returns-clause-below
returns-clause-below g c some_state =
    let some : 0 < length c.args.rules.now = grind (arith, nat_tests) in
    let above = c.states_to.ensures.above some_state in
    rules_below c.args.rules.now c.index-rules-rules.result c.key.result c.states_to.result c.requires some c.index-rules-rules.is c.key.ensures above
