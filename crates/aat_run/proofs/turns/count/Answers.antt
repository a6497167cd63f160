use Rattle.std.proofs.Common.{rules}
use Rattle.aat_run.proofs.turns.count.Goals as goal

-- answered here, so that a wrong body is refused sooner
pub returns-then-has_current : goal.returns-then-has_current
returns-then-has_current g c = search rules

pub returns-else-has_current : goal.returns-else-has_current
returns-else-has_current g c = search rules
