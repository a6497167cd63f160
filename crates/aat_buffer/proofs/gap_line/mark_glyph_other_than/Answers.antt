use Rattle.std.proofs.Common.{rules}
use Rattle.aat_buffer.proofs.gap_line.mark_glyph_other_than.Goals as goal

-- answered here, so that a wrong body is refused sooner
pub returns-then-glyph-cluster : goal.returns-then-glyph-cluster
returns-then-glyph-cluster c = search rules
