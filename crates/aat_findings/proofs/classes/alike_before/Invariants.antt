use Rattle.std.proofs.Common.{◌<◌, ℕ}
use Rattle.aat_findings.specs.Alike.{AreAlike}
use Rattle.aat_findings.proofs.classes.alike_before.Given as goal

abbrev pub invariant-loop-before : goal.invariant-loop-before
invariant-loop-before g l = (j : ℕ) → j < l.before → AreAlike l.table j l.class → ⊥
