use Rattle.std.proofs.Common.{rules}
use Rattle.aat_kinds.specs.Rearrangement.{moved}
use Rattle.aat_kinds.proofs.rearrangement.RearrangementCtx.move_marked.Goals as goal

-- answered here, so that a wrong body is refused sooner
pub returns : goal.returns
unfolding moved
returns g c = search rules
