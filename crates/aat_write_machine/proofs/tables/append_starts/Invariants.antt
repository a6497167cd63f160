use Rattle.std.proofs.Common.{◌≡◌, ◌+◌, ◌++◌, length, take}
use Rattle.aat_write_machine.specs.Contextual.{byte_lists, joined, starts_from}
use Rattle.aat_write_machine.specs.Words.{long_bytes}
use Rattle.aat_write_machine.proofs.tables.append_starts.Given as goal

abbrev pub invariant-loop-table : goal.invariant-loop-table
invariant-loop-table l = record {
  start : l.start ≡ l.first + length (joined (byte_lists (take l.table-index l.tables)));
  out : l.out.items ≡ l.fn.out.items ++ long_bytes (starts_from l.first (byte_lists (take l.table-index l.tables)));
}
