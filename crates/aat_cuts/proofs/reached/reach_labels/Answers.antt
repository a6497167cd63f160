use Rattle.std.proofs.Common.{◌≡◌, ◌++◌, ◌∷◌, [], map, ap, ◌∙◌}
use Rattle.aat_cuts.specs.Reached.{follow_edge, start_edge}
use Rattle.aat_cuts.proofs.Reaching.{reach_labels}
use Rattle.aat_cuts.proofs.reached.reach_labels.Goals as goal

pub returns : goal.returns
returns g c =
    let are : c.deref.result.now ≡ map follow_edge c.args.cells.now ++ start_edge ∷ [] =
    c.deref.ensures.value ∙ c.in_ok-push.ensures.items ∙ ap (λ es. es ++ start_edge ∷ []) c.in_ok-edges.ensures
    in
    let found = c.in_ok-labels.ensures in
    reach_labels c.args.cells.now c.deref.result.now c.in_ok-labels.labels.items are found.are found.met found.least
