use Rattle.std.proofs.Common.{refl}
use Rattle.aat_showing.specs.Lengths.{half, minus, plus, signed}
use Rattle.aat_showing.specs.MarkPlaces.{above, at_far_edge, below, in_middle}
use Rattle.aat_showing.proofs.worked.placed.Goals as goal

pub returns-clause-stacked : goal.returns-clause-stacked
unfolding above at_far_edge below half in_middle minus plus
returns-clause-stacked c = refl

pub returns-clause-sides : goal.returns-clause-sides
unfolding above at_far_edge below half in_middle minus plus
returns-clause-sides c = refl

pub returns-clause-beyond : goal.returns-clause-beyond
unfolding above at_far_edge below half in_middle minus plus
returns-clause-beyond c = refl

pub returns-clause-boxless : goal.returns-clause-boxless
unfolding above at_far_edge below half in_middle minus plus
returns-clause-boxless c = refl

pub returns-clause-backward : goal.returns-clause-backward
unfolding above at_far_edge below half in_middle minus plus
returns-clause-backward c = refl

pub returns-clause-columns : goal.returns-clause-columns
unfolding minus plus signed
returns-clause-columns c = refl

pub returns-clause-widened : goal.returns-clause-widened
unfolding minus plus signed
returns-clause-widened c = (refl, refl)
