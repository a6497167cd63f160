use Rattle.aat_read_outlines.proofs.Contours.{end_pushed}
use Rattle.aat_read_outlines.proofs.simple.ends_of.Goals as goal

pub loop-contour-preserved : goal.loop-contour-preserved
loop-contour-preserved g c =
    end_pushed c.args.bytes.now c.loop-contour.ends.items c.push.new.self.items c.loop-contour.contour c.end_of.result c.loop-contour.invariant c.end_of.ensures.end c.in_ok-push.ensures.items
