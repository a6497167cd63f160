use Rattle.std.proofs.Common.{arith}
use Rattle.std.proofs.lemmas.Grind.{common_steps}
use Rattle.aat_lookup.proofs.segments.first_segment_fall.Goals as goal

-- answered here, so that a wrong body is refused sooner
pub loop-i-preserved : goal.loop-i-preserved
loop-i-preserved c = grind (arith, common_steps)
