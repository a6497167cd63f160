use Rattle.std.proofs.Common.{ℕ, take}
use Rattle.std.specs.List.{All}
use Rattle.aat_cuts.specs.Labels.{AreBelow, AreLabels, IsMet}
use Rattle.aat_cuts.specs.inside.Waiting.{AreEdgesPaid, IsMetOrWaits}
use Rattle.aat_cuts.proofs.least.raise_each.Given as goal

abbrev pub invariant-loop-edge : goal.invariant-loop-edge
invariant-loop-edge l = record {
  labels : AreLabels l.labels;
  met : All (IsMetOrWaits l.labels l.waiting.items) (take l.edge-index l.edges);
  looks : AreEdgesPaid l.initial.labels l.initial.waiting.items l.labels l.waiting.items;
  least : (label : ℕ → ℕ) → All (IsMet label) l.edges → AreBelow l.initial.labels label → AreBelow l.labels label;
}
