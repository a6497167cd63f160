use Rattle.aat_machine_tables.proofs.RuleFaults.{rules_rise}
use Rattle.aat_machine_tables.proofs.state_table.ExtendedStateTable.with_classes.Goals as goal

pub over-requires-clause-rising : goal.over-requires-clause-rising
over-requires-clause-rising g c =
    let no_fault = rw c.deref.ensures.value at (c.count_and_rules_fault.ensures.sound c.in-None.is) in
    rules_rise c.args.class_count c.args.rules.items no_fault
