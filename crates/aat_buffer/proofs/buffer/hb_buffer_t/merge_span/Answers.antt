use Rattle.std.proofs.Common.{rules}
use Rattle.aat_buffer.specs.Marks.{merged}
use Rattle.aat_buffer.proofs.buffer.hb_buffer_t.merge_span.Goals as goal

-- answered here, so that a wrong body is refused sooner
pub returns-clause-after : goal.returns-clause-after
unfolding merged
returns-clause-after g c = search rules
