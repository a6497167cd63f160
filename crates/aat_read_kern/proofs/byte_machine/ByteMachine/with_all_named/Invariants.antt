use Rattle.std.proofs.Common.{◌≡◌}
use Rattle.std.specs.List.{fold, range_with_len}
use Rattle.aat_read_kern.specs.ByteStates.{with_named}
use Rattle.aat_read_kern.specs.inside.Whole.{AreNear}
use Rattle.aat_read_kern.proofs.byte_machine.ByteMachine.with_all_named.Given as goal

abbrev pub invariant-loop-cell : goal.invariant-loop-cell
invariant-loop-cell l = record {
  is : l.found ≡ fold (with_named l.bytes l.self l.rows) l.rows (range_with_len 0 l.cell);
  near : AreNear l.self l.found;
}
