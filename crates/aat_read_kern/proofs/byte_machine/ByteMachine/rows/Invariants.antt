use Rattle.std.proofs.Common.{◌≡◌, ◌-◌}
use Rattle.aat_read_kern.specs.ByteStates.{closed_rows, first_row}
use Rattle.aat_read_kern.specs.inside.Whole.{AreNear}
use Rattle.aat_read_kern.proofs.byte_machine.ByteMachine.rows.Given as goal

abbrev pub invariant-loop : goal.invariant-loop
invariant-loop l = record {
  left : closed_rows l.bytes l.self (65536 - l.counter) l.rows ≡ closed_rows l.bytes l.self 65536 first_row;
  near : AreNear l.self l.rows;
}
