use Rattle.std.proofs.Common.{◌≡◌, ◌+◌, ◌-◌, ◌≤◌}
use Rattle.aat_closing.specs.Closing.{steps_of}
use Rattle.aat_closing.proofs.ligature.steps_of.Given as goal

abbrev pub invariant-loop-n : goal.invariant-loop-n
invariant-loop-n l = record {
  within : l.n ≤ l.held;
  steps : steps_of l.actions (l.first + l.n) + l.n ≡ steps_of l.fn.actions l.fn.first;
}

abbrev pub decreases-loop-n : goal.decreases-loop-n
decreases-loop-n l = l.held - l.n
