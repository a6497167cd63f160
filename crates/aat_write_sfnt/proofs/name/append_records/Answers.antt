use Rattle.std.proofs.Common.{◌∙◌, sym, ap, ℕ, ◌+◌, ◌++◌, drop, arith}
use Rattle.aat_write_sfnt.specs.NameTables.{name_record_words, text_of_name}
use Rattle.aat_write_sfnt.specs.Records.{records}
use Rattle.aat_write_machine.specs.Words.{word_bytes}
use Rattle.aat_write_sfnt.proofs.Appending.{part_remains, record_appended}
use Rattle.aat_write_sfnt.proofs.name.append_records.Goals as goal

pub loop-name-preserved : goal.loop-name-preserved
loop-name-preserved g c =
    let names = c.args.names.now in
    let loop = c.loop-name in
    let i = loop.name-index in
    let name = c.name-item.result in
    let new = c.append_record.new.out.items in
    let below = c.loop-name-test.true in
    let at = sym c.name-item.is in
    let size = c.text_length.ensures in
    let appended = record_appended text_of_name name_record_words names i loop.place name loop.out.items new below at c.in_ok-append_record.ensures in
    let remains = part_remains text_of_name name_record_words names i name below at in
    let next = ap (λ (n : ℕ). new ++ word_bytes (records text_of_name name_record_words (loop.place + n) (drop (i + 1) names))) size in
    (next ∙ appended ∙ loop.invariant.0, omega (arith, size, remains, loop.invariant.1))
