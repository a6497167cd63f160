use Rattle.std.proofs.Common.{rules}
use Rattle.aat_kinds.proofs.insertion.paid_run.Goals as goal

-- answered here, so that a wrong body is refused sooner
pub returns-clause-paid : goal.returns-clause-paid
returns-clause-paid g c = search rules
