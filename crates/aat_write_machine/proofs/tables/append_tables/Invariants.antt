use Rattle.std.proofs.Common.{◌≡◌, ◌++◌, take}
use Rattle.aat_write_machine.specs.Contextual.{byte_lists, joined}
use Rattle.aat_write_machine.proofs.tables.append_tables.Given as goal

abbrev pub invariant-loop-table : goal.invariant-loop-table
invariant-loop-table l = l.out.items ≡ l.fn.out.items ++ joined (byte_lists (take l.table-index l.tables))
