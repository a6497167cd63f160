use Rattle.std.proofs.Common.{◌≡◌, map}
use Rattle.std.specs.List.{filter, range_with_len}
use Rattle.aat_bytes.specs.Bisection.{is_found}
use Rattle.aat_read_pairs.specs.ListedPairs.{key_at, pair_at}
use Rattle.aat_read_pairs.proofs.listed.bisected_pairs.Given as goal

abbrev pub invariant-loop-i : goal.invariant-loop-i
invariant-loop-i g l =
    l.pairs.items
    ≡ map (pair_at l.bytes l.tuples l.place)
    (filter (is_found (key_at l.bytes l.place) l.count) (range_with_len 0 l.i))
