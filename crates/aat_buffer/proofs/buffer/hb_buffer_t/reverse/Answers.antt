use Rattle.std.proofs.Common.{rules}
use Rattle.aat_buffer.proofs.buffer.hb_buffer_t.reverse.Goals as goal

-- answered here, so that a wrong body is refused sooner
pub returns-then-self-clause-after : goal.returns-then-self-clause-after
returns-then-self-clause-after g c = search rules
