use Rattle.std.proofs.Common.{arith}
use Rattle.aat_glyph.proofs.placement.TrackedSteps.{one_more}
use Rattle.aat_glyph.proofs.placement.tracked_line.track.Goals as goal

pub loop-i-preserved : goal.loop-i-preserved
loop-i-preserved c =
    one_more c.args.direction _ c.loop-i.last c.or-last.result _ c.args.clusters.now c.loop-i.positions _ _ c.tracked_at.result c.loop-i.i
    (omega arith) (omega arith) c.or-last.ensures c.tracked_at.ensures c.loop-i.invariant
