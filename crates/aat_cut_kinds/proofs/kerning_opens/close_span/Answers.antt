use Rattle.aat_cut_kinds.proofs.ClosedPlaces.{all_closed}
use Rattle.aat_cut_kinds.proofs.kerning_opens.close_span.Goals as goal

pub returns-clause-closed : goal.returns-clause-closed
returns-clause-closed c = λ q.
    let l = c.loop-place in
    all_closed c.args.opens.now l.opens q l.place c.args.least c.args.cursor l.invariant.above
    c.loop-place-test.false (l.invariant.closed q)
