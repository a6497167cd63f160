use Rattle.std.proofs.Common.{◌≡◌, ◌≢◌, ◌<◌, ℕ, None, true}
use Rattle.aat_machine_tables.specs.Table.{entry_of}
use Rattle.aat_findings.specs.Reached.{width}
use Rattle.aat_findings.specs.inside.Marks.{is_marked}
use Rattle.aat_findings.proofs.missing.missing_marked.Given as goal

abbrev pub invariant-loop-state : goal.invariant-loop-state
invariant-loop-state g l =
    (s : ℕ) → s < l.state → is_marked l.marks s ≡ true → (k : ℕ) → k < width l.table → entry_of l.table s k ≢ None
