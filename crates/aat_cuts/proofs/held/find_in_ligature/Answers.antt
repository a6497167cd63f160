use Rattle.aat_cuts.proofs.held.find_in_ligature.Goals as goal

pub returns-in-Missing : goal.returns-in-Missing
returns-in-Missing c =
    let (here, none, never) = rw c.in-Missing.is at c.in_ok-reach.ensures in
    (λ (is_reached, complete, is_here, number, tidy, agreeing). never is_reached complete, here, none)
