use Rattle.std.proofs.Common.{◌≡◌, ◌++◌, map}
use Rattle.std.specs.List.{range_with_len}
use Rattle.aat_read_lookup.specs.Kept.{single_segment}
use Rattle.aat_read_lookup.proofs.segment.Segment.append_singles.Given as goal

abbrev pub invariant-loop-k : goal.invariant-loop-k
invariant-loop-k g l =
    l.segments.items ≡ l.fn.segments.items ++ map (single_segment l.bytes l.keep l.self) (range_with_len 0 l.k)
