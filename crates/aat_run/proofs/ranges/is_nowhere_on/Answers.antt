use Rattle.std.proofs.Common.{rules}
use Rattle.aat_run.proofs.ranges.is_nowhere_on.Goals as goal

-- answered here, so that a wrong body is refused sooner
pub returns-then-not-is_empty : goal.returns-then-not-is_empty
returns-then-not-is_empty c = search rules
