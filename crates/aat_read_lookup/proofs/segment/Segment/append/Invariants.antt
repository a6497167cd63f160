use Rattle.std.proofs.Common.{◌≡◌, ◌+◌, ◌++◌, map}
use Rattle.std.specs.List.{range_with_len}
use Rattle.aat_read_lookup.specs.Kept.{kept_value}
use Rattle.aat_read_lookup.proofs.segment.Segment.append.Given as goal

abbrev pub invariant-loop-k : goal.invariant-loop-k
invariant-loop-k g l =
    l.pairs.items
    ≡ l.fn.pairs.items
    ++ map (λ k. (l.self.first + k, kept_value l.bytes l.keep l.self.values k)) (range_with_len 0 l.k)
