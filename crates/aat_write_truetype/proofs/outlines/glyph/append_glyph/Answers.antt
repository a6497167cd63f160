use Rattle.std.proofs.Common.{ap, arith, length}
use Rattle.aat_write_truetype.proofs.outlines.Ends.{end_few, end_some}
use Rattle.aat_write_truetype.proofs.outlines.glyph.append_glyph.Goals as goal

pub append_simple-requires-clause-some : goal.append_simple-requires-clause-some
append_simple-requires-clause-some g c =
    end_some c.ends-ends.result.now (length c.args.outline.now.points) c.ends-ends.ensures.divided

pub append_simple-requires-clause-few : goal.append_simple-requires-clause-few
append_simple-requires-clause-few g c =
    end_few c.ends-ends.result.now (length c.args.outline.now.points) c.ends-ends.ensures.divided (omega (arith, c.points-points.ensures.few, ap length c.points-points.ensures.points))
