use Rattle.std.proofs.Common.{◌≡◌, drop}
use Rattle.aat_findings.specs.Reached.{state_after}
use Rattle.aat_findings.proofs.lines.state_after.Given as goal

abbrev pub invariant-loop-class : goal.invariant-loop-class
invariant-loop-class g l = state_after l.table l.start l.line ≡ state_after l.table l.state (drop l.class-index l.line)
