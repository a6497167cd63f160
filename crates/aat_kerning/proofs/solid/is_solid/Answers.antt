use Rattle.std.proofs.Common.{rules}
use Rattle.aat_kerning.proofs.solid.is_solid.Goals as goal

-- answered here, so that a wrong body is refused sooner
pub returns-else-glyph-bits-eq0 : goal.returns-else-glyph-bits-eq0
returns-else-glyph-bits-eq0 c = search rules
