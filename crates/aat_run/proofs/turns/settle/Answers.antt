use Rattle.std.proofs.Common.{rules}
use Rattle.aat_run.proofs.turns.settle.Goals as goal

-- answered here, so that a wrong body is refused sooner
pub returns-clause-settled : goal.returns-clause-settled
returns-clause-settled g c = search rules
