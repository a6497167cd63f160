use Rattle.std.proofs.Common.{rules}
use Rattle.aat_kinds.proofs.insertion.steps_over.Goals as goal

-- answered here, so that a wrong body is refused sooner
pub returns-else-has_advance-clause-steps : goal.returns-else-has_advance-clause-steps
returns-else-has_advance-clause-steps c = search rules
