use Rattle.std.proofs.Common.{◌≡◌, ◌+◌, ◌*◌, ◌≤◌}
use Rattle.std.specs.List.{range_with_len}
use Rattle.std.specs.Prelude.{sum_by}
use Rattle.aat_read_machine.specs.Room.{unit_size}
use Rattle.aat_read_machine.proofs.room.units_size.Given as goal

abbrev pub invariant-loop-i : goal.invariant-loop-i
invariant-loop-i l = record {
  total : l.total ≡ sum_by (λ i. unit_size l.bytes (l.place + l.size * i)) (range_with_len 0 l.i);
  small : l.total ≤ 262144 * l.i;
}
