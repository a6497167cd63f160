use Rattle.aat_cuts.specs.Reached.{is_labelled}
use Rattle.aat_cuts.proofs.Settling.{complete_found}
use Rattle.aat_cuts.proofs.settled.find_in_insertion.Goals as goal

pub returns-in-Missing : goal.returns-in-Missing
returns-in-Missing c =
    let (here, none, never) = rw c.in-Missing.is at c.in_ok-reach.ensures in
    (λ (is_reached, complete). never is_reached complete, here, none)

pub returns-in-Complete : goal.returns-in-Complete
returns-in-Complete c =
    let found = rw c.in-Complete.is at c.in_ok-reach.ensures in
    (is_labelled c.in-Complete._reached.labels.items, complete_found c.args.table.now c.in-Complete._reached.labels.items c.in-Complete._reached.cells.items found)
