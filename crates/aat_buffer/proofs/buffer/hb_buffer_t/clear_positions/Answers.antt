use Rattle.std.proofs.Common.{rules}
use Rattle.aat_buffer.proofs.buffer.hb_buffer_t.clear_positions.Goals as goal

-- answered here, so that a wrong body is refused sooner
pub returns-clause-ok : goal.returns-clause-ok
returns-clause-ok g c = search rules
