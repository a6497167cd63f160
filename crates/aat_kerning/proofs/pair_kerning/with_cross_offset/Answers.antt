use Rattle.std.proofs.Common.{rules}
use Rattle.aat_kerning.proofs.pair_kerning.with_cross_offset.Goals as goal

-- answered here, so that a wrong body is refused sooner
pub returns-then-is_horizontal : goal.returns-then-is_horizontal
returns-then-is_horizontal c = search rules
