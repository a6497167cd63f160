use Rattle.std.proofs.Common.{rules}
use Rattle.aat_buffer.proofs.buffer.hb_buffer_t.skip_glyph.Goals as goal

-- answered here, so that a wrong body is refused sooner
pub returns : goal.returns
returns g c = search rules
