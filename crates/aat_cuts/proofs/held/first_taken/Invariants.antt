use Rattle.std.proofs.Common.{◌≡◌, false, take}
use Rattle.std.specs.List.{All}
use Rattle.aat_cuts.specs.inside.HeldSteps.{is_taken}
use Rattle.aat_cuts.proofs.held.first_taken.Given as goal

abbrev pub invariant-loop-step : goal.invariant-loop-step
invariant-loop-step l = All (λ s. is_taken l.held s ≡ false) (take l.step-index l.steps)
