use Rattle.std.proofs.Common.{◌≡◌, ◌+◌, ◌++◌, map}
use Rattle.std.specs.List.{range_with_len}
use Rattle.aat_lookup.proofs.segments.append_segment.Given as goal

abbrev pub invariant-loop-k : goal.invariant-loop-k
invariant-loop-k g l =
    l.pairs.items
    ≡ l.fn.pairs.items ++ map (λ k. (l.segment.first_glyph + k, l.segment.value)) (range_with_len 0 l.k)
