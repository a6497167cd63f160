use Rattle.std.proofs.Common.{rules}
use Rattle.aat_glyph.proofs.glyph.Direction.is_backward.Goals as goal

-- answered here, so that a wrong body is refused sooner
pub returns-in_default : goal.returns-in_default
returns-in_default c = search rules
