use Rattle.std.proofs.Common.{◌≡◌, map}
use Rattle.std.specs.List.{range_with_len}
use Rattle.aat_read_metrics.specs.Trak.{track_at}
use Rattle.aat_read_metrics.proofs.trak.tracks_at.Given as goal

abbrev pub invariant-loop-k : goal.invariant-loop-k
invariant-loop-k g l = l.tracks.items ≡ map (track_at l.bytes l.at) (range_with_len 0 l.k)
