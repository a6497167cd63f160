use Rattle.aat_write_truetype.proofs.outlines.Near.{near_at}
use Rattle.aat_write_truetype.proofs.outlines.bounds.bounds_of.Goals as goal

pub widened-bounds-requires-clause-point : goal.widened-bounds-requires-clause-point
widened-bounds-requires-clause-point c = near_at c.args.points.now c.loop-point.point-index _ c.loop-point-test.true c.requires
