use Rattle.std.proofs.Common.{◌≡◌, ◌++◌, map}
use Rattle.std.specs.List.{flat_map, range_with_len}
use Rattle.aat_read_lookup.specs.Kept.{kept_segments}
use Rattle.aat_read_lookup.specs.Layouts.{segment_of}
use Rattle.aat_read_lookup.proofs.units.Units.append_each_kept.Given as goal

abbrev pub invariant-loop-i : goal.invariant-loop-i
invariant-loop-i g l =
    l.segments.items
    ≡ l.fn.segments.items
    ++ flat_map (kept_segments l.bytes l.keep) (map (segment_of l.bytes l.self) (range_with_len 0 l.i))
