use Rattle.std.proofs.Common.{◌≡◌, ◌+◌, ◌*◌, length, take}
use Rattle.aat_write_sfnt.specs.Fonts.{table_bytes}
use Rattle.aat_write_sfnt.proofs.font.is_within.Given as goal

abbrev pub invariant-loop-table : goal.invariant-loop-table
invariant-loop-table l =
    l.rest + (12 + 16 * length l.tables + length (table_bytes (take l.table-index l.tables))) ≡ 4294967295
