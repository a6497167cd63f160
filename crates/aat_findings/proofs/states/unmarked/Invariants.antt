use Rattle.std.proofs.Common.{◌≡◌, ◌<◌, true}
use Rattle.aat_findings.specs.Reached.{AreExactly}
use Rattle.aat_findings.specs.inside.Marks.{is_unmarked}
use Rattle.aat_findings.proofs.states.unmarked.Given as goal

abbrev pub invariant-loop-state : goal.invariant-loop-state
invariant-loop-state l = AreExactly (λ s. (s < l.state) × (is_unmarked l.marks s ≡ true)) l.states.items
