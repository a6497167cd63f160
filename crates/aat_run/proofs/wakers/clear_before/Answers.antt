use Rattle.std.proofs.Common.{rules}
use Rattle.aat_run.proofs.wakers.clear_before.Goals as goal

-- answered here, so that a wrong body is refused sooner
pub returns-then-has_bit-clause-clear : goal.returns-then-has_bit-clause-clear
returns-then-has_bit-clause-clear c = search rules

pub returns-then-has_bit-clause-all : goal.returns-then-has_bit-clause-all
returns-then-has_bit-clause-all c = search rules
