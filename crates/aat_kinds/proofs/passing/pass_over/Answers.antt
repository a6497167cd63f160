use Rattle.std.proofs.Common.{rules}
use Rattle.aat_kinds.proofs.passing.pass_over.Goals as goal

-- answered here, so that a wrong body is refused sooner
pub returns : goal.returns
returns g c = search rules
