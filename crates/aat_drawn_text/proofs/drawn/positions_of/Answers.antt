use Rattle.std.proofs.Common.{arith}
use Rattle.aat_drawn_text.proofs.DrawnPlaces.{positions_more}
use Rattle.aat_drawn_text.proofs.drawn.positions_of.Goals as goal

pub loop-i-preserved : goal.loop-i-preserved
loop-i-preserved g c =
    positions_more c.args.buffer.now c.loop-i.i c.loop-i.positions.items c.pos.result.now (omega (arith, c.requires)) c.in_ok-push.ensures.items c.loop-i.invariant c.pos.ensures.read
