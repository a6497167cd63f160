use Rattle.std.proofs.Common.{◌≡◌, ◌<◌, true}
use Rattle.aat_findings.specs.Chained.{is_unset_at}
use Rattle.aat_findings.specs.Reached.{AreExactly}
use Rattle.aat_findings.proofs.chains.unset_subtables.Given as goal

abbrev pub invariant-loop-place : goal.invariant-loop-place
invariant-loop-place l = AreExactly (λ i. (i < l.place) × (is_unset_at l.chain i ≡ true)) l.places.items
