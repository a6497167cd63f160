use Rattle.std.proofs.Common.{◌≡◌, ◌++◌, ◌∷◌, [], List, map, ap, ◌∙◌, subst}
use Rattle.aat_cuts.specs.Labels.{AreLeast}
use Rattle.aat_cuts.specs.Reached.{start_edge}
use Rattle.aat_cuts.specs.declared.labels.Edge.{Edge}
use Rattle.aat_cuts.specs.inside.Steps.{unset_edge}
use Rattle.aat_cuts.proofs.steps.unset_labels.Goals as goal

pub returns : goal.returns
returns c =
    let are : c.deref.result.now ≡ map unset_edge c.args.steps.now ++ start_edge ∷ [] =
    c.deref.ensures.value ∙ c.in_ok-push.ensures.items ∙ ap (λ es. es ++ start_edge ∷ []) c.in_ok-edges.ensures
    in
    subst (λ (es : List Edge). AreLeast es c.in_ok-labels.labels.items) are c.in_ok-labels.ensures
