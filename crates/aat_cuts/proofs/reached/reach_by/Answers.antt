use Rattle.std.proofs.Common.{◌≡◌, ◌<◌, ℕ, List, true, subst}
use Rattle.aat_cuts.specs.Reached.{IsWhole, is_labelled}
use Rattle.aat_cuts.proofs.Reaching.{all_reached, least_by, never_complete}
use Rattle.aat_cuts.proofs.reached.reach_by.Goals as goal

pub returns-in-Some : goal.returns-in-Some
returns-in-Some g c =
    let here = c.in-Some.ensures.some in
    let labelled = rw c.as_slice-of_states.ensures.value at here.0 in
    (least_by c.args.table.now c.args.cells.now c.args.labels.items c.requires.cells c.requires.labels c.in-Some.state labelled, here.1, never_complete c.args.table.now c.args.cells.now c.args.labels.items c.requires.cells c.requires.labels c.in-Some.state c.in-Some.class labelled here.1)

pub returns : goal.returns
returns g c =
    let whole = subst (λ (l : List ℕ). (s : ℕ) → s < 65536 → is_labelled l s ≡ true → IsWhole c.args.table.now s) c.as_slice-of_states.ensures.value c.in_default.ensures.none in
    let found = simp c.as_slice-of_states.ensures.value at c.in_ok-cells.ensures in
    all_reached c.args.table.now c.args.cells.now c.args.labels.items c.requires.cells c.requires.labels whole c.in_ok-cells.cells.items found
