use Rattle.std.proofs.Common.{ℕ, ◌+◌, ◌-◌, ◌*◌, ◌≤◌, length, sum}
use Rattle.std.specs.List.{All}
use Rattle.aat_cuts.specs.Labels.{AreBelow, AreLabels, IsMet}
use Rattle.aat_cuts.specs.inside.Waiting.{IsMetOrWaits, count_waiting, label_sum}
use Rattle.aat_cuts.proofs.least.settle.Given as goal

abbrev pub invariant-loop-state : goal.invariant-loop-state
invariant-loop-state l = record {
  labels : AreLabels l.labels;
  met : All (IsMetOrWaits l.labels l.waiting.items) l.edges;
  looks : l.looks + count_waiting l.edges l.waiting.items ≤ length l.edges + label_sum l.edges l.labels;
  least : (label : ℕ → ℕ) → All (IsMet label) l.edges → AreBelow l.fn.labels label → AreBelow l.labels label;
}

abbrev pub decreases-loop-state : goal.decreases-loop-state
decreases-loop-state l = 65536 * 65 + length l.waiting.items - sum l.labels
