use Rattle.std.proofs.Common.{◌≡◌, ◌+◌, ◌++◌, drop, length}
use Rattle.aat_write_sfnt.specs.NameTables.{name_record_words, text_bytes, text_of_name}
use Rattle.aat_write_sfnt.specs.Records.{records}
use Rattle.aat_write_machine.specs.Words.{word_bytes}
use Rattle.aat_write_sfnt.proofs.name.append_records.Given as goal

abbrev pub invariant-loop-name : goal.invariant-loop-name
invariant-loop-name g l =
    (l.out.items ++ word_bytes (records text_of_name name_record_words l.place (drop l.name-index l.names))
    ≡ l.fn.out.items ++ word_bytes (records text_of_name name_record_words 0 l.names))
    × (l.place + length (text_bytes (drop l.name-index l.names)) ≡ length (text_bytes l.names))
