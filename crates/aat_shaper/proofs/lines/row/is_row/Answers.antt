use Rattle.std.proofs.lemmas.Bool.{eqb-true}
use Rattle.aat_shaper.proofs.Stops.{all_taken, take_next}
use Rattle.aat_shaper.proofs.lines.row.is_row.Goals as goal

pub loop-stop-preserved : goal.loop-stop-preserved
loop-stop-preserved c =
    take_next c.args.stops.now c.loop-stop.stop-index c.loop-stop.place c.args.len c.loop-stop-test.true
    c.loop-stop.invariant c.if-stop-place.false c.if-len-stop.false

pub returns : goal.returns
returns c =
    λ is.
    all_taken c.args.stops.now c.loop-stop.stop-index c.loop-stop.place c.args.len c.loop-stop-test.false
    c.loop-stop.invariant (eqb-true c.loop-stop.place c.args.len is)
