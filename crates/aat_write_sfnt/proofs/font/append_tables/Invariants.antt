use Rattle.std.proofs.Common.{◌≡◌, ◌++◌, take}
use Rattle.aat_write_sfnt.specs.Fonts.{table_bytes}
use Rattle.aat_write_sfnt.proofs.font.append_tables.Given as goal

abbrev pub invariant-loop-table : goal.invariant-loop-table
invariant-loop-table g l = l.out.items ≡ l.fn.out.items ++ table_bytes (take l.table-index l.tables)
