use Rattle.std.proofs.Common.{sym}
use Rattle.aat_write_machine.specs.Machines.{class_table_written}
use Rattle.aat_write_machine.proofs.Refused.{refuses, rules_are_refused}
use Rattle.aat_write_machine.proofs.machine.class_table.Goals as goal

pub returns-in-Some-clause-writes : goal.returns-in-Some-clause-writes
returns-in-Some-clause-writes g c =
    refuses (class_table_written c.args.machine.now) c.in-Some.error (rules_are_refused c.args.machine.now c.in-Some.error (sym c.in-Some.ensures))
