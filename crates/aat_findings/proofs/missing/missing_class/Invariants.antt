use Rattle.std.proofs.Common.{◌≢◌, ◌<◌, ℕ, None}
use Rattle.aat_machine_tables.specs.Table.{entry_of}
use Rattle.aat_findings.proofs.missing.missing_class.Given as goal

abbrev pub invariant-loop-class : goal.invariant-loop-class
invariant-loop-class g l = (k : ℕ) → k < l.class → entry_of l.table l.state k ≢ None
