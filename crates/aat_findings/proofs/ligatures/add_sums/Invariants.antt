use Rattle.std.proofs.Common.{◌≡◌, ◌<◌, true}
use Rattle.aat_findings.specs.inside.Making.{AreMore, IsAmong, IsSummed}
use Rattle.aat_findings.proofs.ligatures.add_sums.Given as goal

abbrev pub invariant-loop-sum : goal.invariant-loop-sum
invariant-loop-sum l =
    AreMore l.fn.marks (λ n. IsAmong l.sums l.sum
    (λ sum mark. (l.wanted ≡ true) × (0 < mark) × IsSummed l.values l.held l.action sum n)) l.marks
