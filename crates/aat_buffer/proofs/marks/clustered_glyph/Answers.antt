use Rattle.std.proofs.Common.{rules}
use Rattle.aat_buffer.proofs.marks.clustered_glyph.Goals as goal

-- answered here, so that a wrong body is refused sooner
pub returns : goal.returns
returns c = search rules
