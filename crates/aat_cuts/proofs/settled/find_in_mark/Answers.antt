use Rattle.std.proofs.Common.{length, false, refl}
use Rattle.aat_cuts.specs.Kinds.{IsContextualSettled, mark_named}
use Rattle.aat_cuts.specs.Reached.{is_labelled}
use Rattle.aat_cuts.specs.Settled.{the_mark}
use Rattle.aat_cuts.specs.declared.unsettled.UsedRegister.TheVariants.{Mark}
use Rattle.aat_cuts.proofs.Settling.{complete_found}
use Rattle.aat_cuts.proofs.Verdicts.{trouble_shown}
use Rattle.aat_cuts.proofs.settled.find_in_mark.Goals as goal

pub returns-in-None : goal.returns-in-None
returns-in-None c =
    let labels = c.args.reached.now.labels.items in
    (is_labelled labels, complete_found c.args.table.now labels c.args.reached.now.cells.items c.requires, rw c.in-None.is at c.in_ok-found.ensures)

pub returns : goal.returns
returns c =
    let count = length c.args.lookups.now in
    let found = rw c.in-Some.is at c.in_ok-found.ensures in
    rw c.reason_of.ensures (trouble_shown c.args.table.now (mark_named count) (λ e. false) (is_labelled c.args.reached.now.labels.items) Mark (the_mark count) refl (IsContextualSettled c.args.table.now count) (λ never (is_reached, complete, (live, tidy, agreeing)). never is_reached live complete tidy agreeing) c.in-Some.trouble found)
