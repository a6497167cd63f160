use Rattle.std.proofs.Common.{◌≡◌, ◌<◌, ℕ, true}
use Rattle.aat_cuts.specs.Reached.{IsWhole, is_labelled}
use Rattle.aat_cuts.proofs.reached.missing_entry.Given as goal

abbrev pub invariant-loop-state : goal.invariant-loop-state
invariant-loop-state g l = (s : ℕ) → s < l.state → is_labelled l.labels s ≡ true → IsWhole l.table s
