use Rattle.std.proofs.Common.{◌≡◌, None, Some, arith}
use Rattle.aat_lookup.specs.Keys.{first, first_fall}
use Rattle.aat_machine_tables.specs.Table.{rules_fault}
use Rattle.aat_lookup.specs.facts.Falls.{rising}
use Rattle.aat_machine_tables.proofs.RuleFaults.{rules_rise, refused_for_rules}
use Rattle.aat_machine_tables.proofs.state_table.ExtendedStateTable.new.Goals as goal

pub returns-in-Some-faulty_rule-clause-refused : goal.returns-in-Some-faulty_rule-clause-refused
returns-in-Some-faulty_rule-clause-refused g c =
    let fault = c.in-Some-faulty_rule.fault in
    let none : first_fall first c.args.classes.now ≡ None = rw (← c.first_fall.ensures) c.in_default.is in
    let found : rules_fault c.args.class_count c.args.rules.now ≡ Some fault = rw (← c.faulty_rule.ensures) c.in-Some-faulty_rule.is in
    refused_for_rules c.args.class_count c.args.rules.now c.args.classes.now fault (omega arith) none found

pub of_rising-requires : goal.of_rising-requires
of_rising-requires g c =
    let none : first_fall first c.args.classes.now ≡ None = rw (← c.first_fall.ensures) c.in_default.is in
    rising first c.args.classes.now none

pub over-requires-clause-rising : goal.over-requires-clause-rising
over-requires-clause-rising g c =
    let no_fault : rules_fault c.args.class_count c.args.rules.now ≡ None = rw (← c.faulty_rule.ensures) c.in_default-faulty_rule.is in
    rw c.in_ok-rules.ensures.items (rules_rise c.args.class_count c.args.rules.now no_fault)
