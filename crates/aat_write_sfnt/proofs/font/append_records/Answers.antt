use Rattle.std.proofs.Common.{◌∙◌, sym, ap, ℕ, ◌+◌, ◌++◌, drop, arith}
use Rattle.aat_write_sfnt.specs.Fonts.{padded, record_words}
use Rattle.aat_write_sfnt.specs.Records.{records}
use Rattle.aat_write_machine.specs.Words.{word_bytes}
use Rattle.aat_write_sfnt.proofs.Appending.{part_remains, record_appended}
use Rattle.aat_write_sfnt.proofs.font.append_records.Goals as goal

pub loop-table-preserved : goal.loop-table-preserved
loop-table-preserved g c =
    let tables = c.args.tables.now in
    let loop = c.loop-table in
    let i = loop.table-index in
    let table = c.table-item.result in
    let new = c.append_record.new.out.items in
    let below = c.loop-table-test.true in
    let at = sym c.table-item.is in
    let size = c.padded_length.ensures in
    let appended = record_appended padded record_words tables i loop.place table loop.out.items new below at c.in_ok-append_record.ensures in
    let remains = part_remains padded record_words tables i table below at in
    let next = ap (λ (n : ℕ). new ++ word_bytes (records padded record_words (loop.place + n) (drop (i + 1) tables))) size in
    (next ∙ appended ∙ loop.invariant.0, omega (arith, size, remains, loop.invariant.1))
