use Rattle.std.proofs.Common.{◌<◌, ℕ}
use Rattle.aat_findings.specs.Reached.{IsReached}
use Rattle.aat_findings.specs.Stays.{MovesOn}
use Rattle.aat_findings.proofs.turns.stays.Given as goal

abbrev pub invariant-loop-class : goal.invariant-loop-class
invariant-loop-class g l = (s k : ℕ) → 0 < k → k < l.class → IsReached l.table s → MovesOn l.table k s
