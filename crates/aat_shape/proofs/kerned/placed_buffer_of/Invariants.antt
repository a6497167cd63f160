use Rattle.std.proofs.Common.{IsSome, ◌≡◌, length}
use Rattle.aat_layout.specs.Buffer.{position_list}
use Rattle.aat_layout.specs.Clusters.{IsSmall}
use Rattle.aat_shape.proofs.kerned.placed_buffer_of.Given as goal

abbrev pub invariant-loop-i : goal.invariant-loop-i
invariant-loop-i l = record {
  places : length (position_list l.buffer) ≡ l.i-end;
  ids : IsSmall l.buffer;
  placed : IsSome l.buffer.positions;
}
