use Rattle.aat_glyph.proofs.placement.PenSteps.{pen_more, pens_more}
use Rattle.aat_glyph.proofs.placement.pens.pens_of.Goals as goal

pub loop-position-preserved : goal.loop-position-preserved
loop-position-preserved g c =
    let loop = c.loop-position in
    let qs = c.args.positions.now in (
      pens_more qs loop.pens.items c.push.new.self.items loop.pen loop.position-index loop.invariant.0 loop.invariant.1
          c.in_ok-push.ensures.items,
      pen_more qs loop.pen loop.position-index c.loop-position-test.true loop.invariant.1,
    )
