use Rattle.std.proofs.Common.{rules}
use Rattle.aat_machine_tables.proofs.state_table.earlier_fault.Goals as goal

-- answered here, so that a wrong body is refused sooner
pub returns-in-Some-Some : goal.returns-in-Some-Some
returns-in-Some-Some c = search rules
