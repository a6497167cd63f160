use Rattle.std.proofs.Common.{◌≡◌, ◌++◌, map}
use Rattle.std.specs.List.{flat_map, range_with_len}
use Rattle.aat_read_lookup.specs.Kept.{kept_value}
use Rattle.aat_read_lookup.specs.Layouts.{segment_of}
use Rattle.aat_read_lookup.specs.Segments.{pairs_by}
use Rattle.aat_read_lookup.proofs.lookup.append_each.Given as goal

abbrev pub invariant-loop-i : goal.invariant-loop-i
invariant-loop-i g l =
    l.pairs.items
    ≡ l.fn.pairs.items
    ++ flat_map (pairs_by (kept_value l.bytes l.keep)) (map (segment_of l.bytes l.units) (range_with_len 0 l.i))
