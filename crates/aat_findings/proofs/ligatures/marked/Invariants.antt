use Rattle.std.proofs.Common.{◌≡◌, ◌<◌, true}
use Rattle.aat_findings.specs.Reached.{AreExactly}
use Rattle.aat_findings.specs.inside.Marks.{is_marked}
use Rattle.aat_findings.proofs.ligatures.marked.Given as goal

abbrev pub invariant-loop-number : goal.invariant-loop-number
invariant-loop-number l = AreExactly (λ n. (n < l.number) × (is_marked l.marks n ≡ true)) l.numbers.items
