use Rattle.std.proofs.Common.{refl}
use Rattle.aat_cuts.specs.Kinds.{IsRearrangementSettled, end_named, moves_and_ends}
use Rattle.aat_cuts.specs.Reached.{is_labelled}
use Rattle.aat_cuts.specs.Settled.{the_end_set_by}
use Rattle.aat_cuts.specs.declared.unsettled.UsedRegister.TheVariants.{SpanEnd, SpanStart}
use Rattle.aat_cuts.proofs.Settling.{complete_found}
use Rattle.aat_cuts.proofs.Verdicts.{moves_shown, quiet_found, trouble_shown}
use Rattle.aat_cuts.proofs.settled.find_in_ends.Goals as goal

pub returns-in-Some : goal.returns-in-Some
returns-in-Some c =
    let (cell, here, of_state, both) = c.in-Some.ensures.some in
    moves_shown c.args.table.now c.args.reached.now.labels.items c.args.reached.now.cells.items c.requires c.in-Some.state cell (rw c.as_slice-cells.ensures.value at here) of_state both

pub returns-in-Some-start : goal.returns-in-Some-start
returns-in-Some-start c =
    let found = rw c.in-Some-start.is at c.in_ok-start.ensures in
    rw c.reason_of.ensures (trouble_shown c.args.table.now end_named moves_and_ends (is_labelled c.args.reached.now.labels.items) SpanStart (the_end_set_by 0x8000) refl (IsRearrangementSettled c.args.table.now) (λ never (is_reached, complete, (live, tidy, agreeing), end, quiet). never is_reached live complete tidy agreeing) c.in-Some-start.trouble found)

pub returns-in-Some-end : goal.returns-in-Some-end
returns-in-Some-end c =
    let found = rw c.in-Some-end.is at c.in_ok-end.ensures in
    rw c.reason_of-in-Some-end.ensures (trouble_shown c.args.table.now end_named moves_and_ends (is_labelled c.args.reached.now.labels.items) SpanEnd (the_end_set_by 0x2000) refl (IsRearrangementSettled c.args.table.now) (λ never (is_reached, complete, start, (live, tidy, agreeing), quiet). never is_reached live complete tidy agreeing) c.in-Some-end.trouble found)

pub returns : goal.returns
returns c =
    let labels = c.args.reached.now.labels.items in
    let cells = c.args.reached.now.cells.items in
    let quiet = rw c.as_slice-cells.ensures.value at c.in_default.ensures.none in
    (is_labelled labels, complete_found c.args.table.now labels cells c.requires, rw c.in_default-start.is at c.in_ok-start.ensures, rw c.in_default-end.is at c.in_ok-end.ensures, quiet_found c.args.table.now labels cells c.requires quiet)
