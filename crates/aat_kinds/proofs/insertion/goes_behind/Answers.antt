use Rattle.std.proofs.Common.{rules}
use Rattle.aat_kinds.proofs.insertion.goes_behind.Goals as goal

-- answered here, so that a wrong body is refused sooner
pub returns : goal.returns
returns c = search rules
