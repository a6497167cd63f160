use Rattle.std.proofs.Common.{◌≡◌, ◌<◌, ℕ}
use Rattle.aat_machine_tables.specs.Table.{entry_of}
use Rattle.aat_findings.proofs.classes.are_alike.Given as goal

abbrev pub invariant-loop-state : goal.invariant-loop-state
invariant-loop-state g l = (s : ℕ) → s < l.state → entry_of l.table s l.class ≡ entry_of l.table s l.other
