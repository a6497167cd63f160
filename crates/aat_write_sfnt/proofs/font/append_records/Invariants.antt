use Rattle.std.proofs.Common.{◌≡◌, ◌+◌, ◌++◌, drop, length}
use Rattle.aat_write_sfnt.specs.Fonts.{padded, record_words, table_bytes}
use Rattle.aat_write_sfnt.specs.Records.{records}
use Rattle.aat_write_machine.specs.Words.{word_bytes}
use Rattle.aat_write_sfnt.proofs.font.append_records.Given as goal

abbrev pub invariant-loop-table : goal.invariant-loop-table
invariant-loop-table g l =
    (l.out.items ++ word_bytes (records padded record_words l.place (drop l.table-index l.tables))
    ≡ l.fn.out.items ++ word_bytes (records padded record_words l.start l.tables))
    × (l.place + length (table_bytes (drop l.table-index l.tables)) ≡ l.start + length (table_bytes l.tables))
