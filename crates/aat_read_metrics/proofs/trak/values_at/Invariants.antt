use Rattle.std.proofs.Common.{◌≡◌}
use Rattle.std.specs.List.{flat_map, range_with_len}
use Rattle.aat_read_metrics.specs.Trak.{track_values}
use Rattle.aat_read_metrics.proofs.trak.values_at.Given as goal

abbrev pub invariant-loop-k : goal.invariant-loop-k
invariant-loop-k g l = l.values.items ≡ flat_map (track_values l.bytes l.at) (range_with_len 0 l.k)
