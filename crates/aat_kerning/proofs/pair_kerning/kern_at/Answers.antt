use Rattle.std.proofs.Common.{rules}
use Rattle.aat_kerning.proofs.pair_kerning.kern_at.Goals as goal

-- answered here, so that a wrong body is refused sooner
pub returns-then-not-is_solid-clause-left : goal.returns-then-not-is_solid-clause-left
returns-then-not-is_solid-clause-left g c = search rules
