use Rattle.std.proofs.Common.{rules}
use Rattle.aat_buffer.proofs.buffer.hb_buffer_t.add.Goals as goal

-- answered here, so that a wrong body is refused sooner
pub returns-clause-ok : goal.returns-clause-ok
returns-clause-ok g c = search rules

pub returns-then-len-self-clause-too_long : goal.returns-then-len-self-clause-too_long
returns-then-len-self-clause-too_long g c = search rules
