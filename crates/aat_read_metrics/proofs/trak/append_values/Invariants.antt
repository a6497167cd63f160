use Rattle.std.proofs.Common.{◌≡◌, ◌++◌}
use Rattle.aat_read_metrics.specs.Trak.{values_from}
use Rattle.aat_read_metrics.proofs.trak.append_values.Given as goal

abbrev pub invariant-loop-s : goal.invariant-loop-s
invariant-loop-s g l = l.values.items ≡ l.initial.values.items ++ values_from l.bytes l.place l.s
