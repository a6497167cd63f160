use Rattle.std.proofs.Common.{rules}
use Rattle.aat_buffer.proofs.buffer.hb_buffer_t.unsafe_to_concat.Goals as goal

-- answered here, so that a wrong body is refused sooner
pub returns-then-start-end-clause-after : goal.returns-then-start-end-clause-after
returns-then-start-end-clause-after g c = search rules
