use Rattle.std.proofs.Common.{◌≡◌}
use Rattle.aat_read_metrics.specs.Trak.{sizes_from}
use Rattle.aat_read_metrics.proofs.trak.sizes_from.Given as goal

abbrev pub invariant-loop-s : goal.invariant-loop-s
invariant-loop-s g l = l.sizes.items ≡ sizes_from l.bytes l.place l.s
