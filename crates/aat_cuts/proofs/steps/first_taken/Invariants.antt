use Rattle.std.proofs.Common.{◌≡◌, ◌&&◌, false, take}
use Rattle.std.specs.List.{All}
use Rattle.aat_cuts.specs.Reached.{is_labelled}
use Rattle.aat_cuts.proofs.steps.first_taken.Given as goal

abbrev pub invariant-loop-step : goal.invariant-loop-step
invariant-loop-step l = All (λ s. (s.differs && is_labelled l.labels s.next) ≡ false) (take l.step-index l.steps)
