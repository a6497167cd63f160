use Rattle.std.proofs.Common.{◌≡◌, ◌+◌, ◌<◌, ℕ, true, get_or}
use Rattle.aat_findings.specs.inside.Marks.{is_marked}
use Rattle.aat_findings.specs.inside.Walks.{AreEnded}
use Rattle.aat_findings.proofs.turns.cycle_in.Given as goal

abbrev pub invariant-loop-state : goal.invariant-loop-state
invariant-loop-state g l = record {
  ended : AreEnded l.table l.class l.walks (l.state + 1);
  here : (s : ℕ) → s < l.state → is_marked l.marks s ≡ true → 0 < get_or l.walks s 0;
}
