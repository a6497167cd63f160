use Rattle.std.proofs.Common.{◌≡◌, ◌*◌, ◌≤◌, map}
use Rattle.std.specs.List.{range_with_len, sum_by}
use Rattle.aat_read_lookup.specs.Layouts.{unit_at}
use Rattle.aat_read_lookup.proofs.units.Units.named_glyphs.Given as goal

abbrev pub invariant-loop-i : goal.invariant-loop-i
invariant-loop-i l =
    (l.glyphs ≡ sum_by (λ unit. unit.count) (map (unit_at l.bytes l.self) (range_with_len 0 l.i)))
    × (l.glyphs ≤ 65536 * l.i)
