use Rattle.std.proofs.Common.{◌≡◌, ◌+◌, map, get_or}
use Rattle.std.specs.List.{range_with_len}
use Rattle.aat_lookup.proofs.listing.pairs_from.Given as goal

abbrev pub invariant-loop-k : goal.invariant-loop-k
invariant-loop-k g l = l.pairs.items ≡ map (λ k. (l.lowest + k, get_or l.values k 0)) (range_with_len 0 l.k)
