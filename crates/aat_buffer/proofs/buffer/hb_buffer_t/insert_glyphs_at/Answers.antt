use Rattle.std.proofs.Common.{arith}
use Rattle.std.proofs.lemmas.Grind.{common_steps}
use Rattle.aat_buffer.proofs.buffer.hb_buffer_t.insert_glyphs_at.Goals as goal

-- answered here, so that a wrong body is refused sooner
pub returns-clause-ok : goal.returns-clause-ok
returns-clause-ok g c = grind (arith, common_steps)
