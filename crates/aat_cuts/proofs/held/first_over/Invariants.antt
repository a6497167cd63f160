use Rattle.std.proofs.Common.{◌≡◌, ◌<◌, ℕ, false}
use Rattle.aat_cuts.specs.inside.HeldSteps.{is_over}
use Rattle.aat_cuts.proofs.held.first_over.Given as goal

abbrev pub invariant-loop-state : goal.invariant-loop-state
invariant-loop-state l = (s : ℕ) → s < l.state → is_over l.reached l.held s ≡ false
