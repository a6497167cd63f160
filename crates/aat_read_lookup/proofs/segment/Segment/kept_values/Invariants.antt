use Rattle.std.proofs.Common.{◌≡◌, map}
use Rattle.std.specs.List.{range_with_len}
use Rattle.aat_read_lookup.specs.Kept.{kept_value}
use Rattle.aat_read_lookup.proofs.segment.Segment.kept_values.Given as goal

abbrev pub invariant-loop-k : goal.invariant-loop-k
invariant-loop-k g l = l.values.items ≡ map (kept_value l.bytes l.keep l.self.values) (range_with_len 0 l.k)
