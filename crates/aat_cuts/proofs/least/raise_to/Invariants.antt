use Rattle.std.proofs.Common.{◌≡◌, ◌+◌, ◌≤◌, ℕ, get_or, length, take}
use Rattle.std.specs.List.{All}
use Rattle.aat_cuts.specs.Labels.{AreBelow, AreLabels, IsMet}
use Rattle.aat_cuts.specs.inside.Waiting.{AreEdgesPaid, ArePaid, count_to}
use Rattle.aat_cuts.specs.declared.labels.Edge.{Edge}
use Rattle.aat_cuts.proofs.Linked.{AreMetPast}
use Rattle.aat_cuts.proofs.least.raise_to.Given as goal

abbrev pub invariant-loop-link : goal.invariant-loop-link
invariant-loop-link l = record {
  labels : AreLabels l.labels;
  within : l.count + l.link ≤ length l.edges;
  last : (i : ℕ) (d : Edge) → i + 1 ≡ l.link → (get_or l.edges i d).to ≡ l.state;
  met : AreMetPast l.edges l.state l.labels l.waiting.items l.link;
  paid : ArePaid l.initial.labels l.initial.waiting.items l.labels l.waiting.items;
  looks : AreEdgesPaid l.initial.labels l.initial.waiting.items l.labels l.waiting.items;
  count : l.count + count_to (take l.link l.edges) l.state ≡ count_to l.edges l.state;
  least : (label : ℕ → ℕ) → All (IsMet label) l.edges → AreBelow l.initial.labels label → AreBelow l.labels label;
}

abbrev pub decreases-loop-link : goal.decreases-loop-link
decreases-loop-link l = l.link
