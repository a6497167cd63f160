use Rattle.std.proofs.Common.{rules}
use Rattle.aat_kinds.proofs.contextual.replace.Goals as goal

-- answered here, so that a wrong body is refused sooner
pub returns-clause-replaced : goal.returns-clause-replaced
returns-clause-replaced g c = search rules
