use Rattle.std.proofs.Common.{◌≡◌, ◌<◌, ◌⊎◌, ℕ, get_or}
use Rattle.std.specs.List.{sum_by}
use Rattle.aat_findings.specs.Reached.{IsReached}
use Rattle.aat_findings.specs.inside.Walks.{AreWalked}
use Rattle.aat_findings.proofs.Staying.{no_walk}
use Rattle.aat_findings.proofs.turns.walk.Given as goal

abbrev pub invariant-turns : goal.invariant-turns
invariant-turns g l = record {
  walked : AreWalked l.table l.class l.walks l.number l.state;
  started : (0 < get_or l.walks l.start 0) ⊎ (l.state ≡ l.start);
  kept : (s : ℕ) → 0 < get_or l.fn.walks s 0 → 0 < get_or l.walks s 0;
  reached : IsReached l.table l.state;
}

abbrev pub decreases-turns : goal.decreases-turns
decreases-turns g l = sum_by no_walk l.walks
