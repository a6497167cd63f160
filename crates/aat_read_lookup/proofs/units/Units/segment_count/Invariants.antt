use Rattle.std.proofs.Common.{◌≡◌, ◌*◌, ◌≤◌, length, map}
use Rattle.std.specs.List.{flat_map, range_with_len}
use Rattle.aat_read_lookup.specs.Kept.{kept_segments}
use Rattle.aat_read_lookup.specs.Layouts.{segment_of}
use Rattle.aat_read_lookup.specs.declared.kept.Keep.TheVariants.{Value}
use Rattle.aat_read_lookup.proofs.units.Units.segment_count.Given as goal

abbrev pub invariant-loop-i : goal.invariant-loop-i
invariant-loop-i l =
    (l.count ≡ length (flat_map (kept_segments l.bytes Value) (map (segment_of l.bytes l.self) (range_with_len 0 l.i))))
    × (l.count ≤ 65536 * l.i)
