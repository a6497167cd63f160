use Rattle.std.proofs.Common.{◌≡◌, ◌≤◌, drop, max}
use Rattle.aat_findings.specs.Reached.{state_count}
use Rattle.aat_findings.proofs.states.state_count.Given as goal

abbrev pub invariant-loop-rule : goal.invariant-loop-rule
invariant-loop-rule g l = record {
  count : state_count l.rule-items ≡ max l.count (state_count (drop l.rule-index l.rule-items));
  few : l.count ≤ 65536;
}
