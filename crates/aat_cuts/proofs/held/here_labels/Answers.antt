use Rattle.std.proofs.Common.{◌≡◌, List, map, ◌∙◌, subst}
use Rattle.aat_cuts.specs.Labels.{AreLeast}
use Rattle.aat_cuts.specs.declared.labels.Edge.{Edge}
use Rattle.aat_cuts.specs.inside.HeldSteps.{here_edge}
use Rattle.aat_cuts.proofs.held.here_labels.Goals as goal

pub returns : goal.returns
returns c =
    let are : c.deref.result.now ≡ map here_edge c.args.steps.now = c.deref.ensures.value ∙ c.in_ok-edges.ensures in
    subst (λ (es : List Edge). AreLeast es c.in_ok-labels.labels.items) are c.in_ok-labels.ensures
