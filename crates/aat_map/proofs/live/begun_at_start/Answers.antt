use Rattle.std.proofs.Common.{arith}
use Rattle.std.proofs.lemmas.Grind.{common_steps}
use Rattle.aat_map.proofs.live.begun_at_start.Goals as goal

-- answered here, so that a wrong body is refused sooner
pub loop-request-preserved : goal.loop-request-preserved
loop-request-preserved g c = grind (arith, common_steps)
