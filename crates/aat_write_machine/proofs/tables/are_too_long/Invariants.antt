use Rattle.std.proofs.Common.{◌≡◌, ◌≤◌, length, take}
use Rattle.aat_write_machine.specs.Contextual.{byte_lists, joined}
use Rattle.aat_write_machine.proofs.tables.are_too_long.Given as goal

abbrev pub invariant-loop-table : goal.invariant-loop-table
invariant-loop-table l = record {
  total : l.total ≡ length (joined (byte_lists (take l.table-index l.tables)));
  few : l.total ≤ 268435455;
}
