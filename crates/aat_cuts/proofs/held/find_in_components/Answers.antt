use Rattle.std.proofs.Common.{◌≡◌, ◌∙◌, ℕ, List, IfNone, IfSome, map, ap, subst, sym}
use Rattle.aat_cuts.specs.Labels.{AreLeast}
use Rattle.aat_cuts.specs.inside.HeldSteps.{AreEnough, IsLacking, held_edge, held_step_of, here_edge}
use Rattle.aat_cuts.specs.inside.Steps.{AreClasses}
use Rattle.aat_cuts.proofs.Holding.{verdict_by}
use Rattle.aat_cuts.proofs.held.find_in_components.Goals as goal

pub returns : goal.returns
returns c =
    let table = c.args.table.now in
    let actions = c.args.actions.now in
    let labels = c.args.reached.now.labels.items in
    let cells = c.args.reached.now.cells.items in
    let classes = c.as_slice-of_classes.result.now in
    let steps = c.as_slice-of_steps.result.now in
    let here = c.as_slice-of_here.result.now in
    let held = c.as_slice-of_held.result.now in
    let found = c.find_lacking-found.result in
    let of_glyphs = subst (λ (l : List ℕ). AreClasses table l) (sym c.as_slice-of_classes.ensures.value) c.in_ok-classes.ensures.classes in
    let are : steps ≡ map (held_step_of table actions classes) cells =
    c.as_slice-of_steps.ensures.value ∙ c.in_ok-steps.ensures ∙ ap (map (held_step_of table actions classes)) c.as_slice-of_cells.ensures.value
    in
    let least_here = subst (λ (l : List ℕ). AreLeast (map here_edge steps) l) (sym c.as_slice-of_here.ensures.value) c.in_ok-here.ensures in
    let least_held = subst (λ (l : List ℕ). AreLeast (map (held_edge here) steps) l) (sym c.as_slice-of_held.ensures.value) c.in_ok-held.ensures in
    let enough = subst (λ (l : List ℕ). IfNone found (AreEnough l held steps)) c.as_slice-of_states.ensures.value c.find_lacking-found.ensures.none in
    let lacking = subst (λ (l : List ℕ). IfSome found (IsLacking l held steps)) c.as_slice-of_states.ensures.value c.find_lacking-found.ensures.some in
    verdict_by table labels cells c.requires.reached actions classes of_glyphs steps are here least_here held least_held found enough lacking
