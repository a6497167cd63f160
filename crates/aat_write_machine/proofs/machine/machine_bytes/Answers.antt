use Rattle.aat_write_machine.proofs.Behind.{parts_are_appended}
use Rattle.aat_write_machine.proofs.machine.machine_bytes.Goals as goal

pub returns : goal.returns
returns g c =
    parts_are_appended g.T.EntryWrite.words_of c.args.further.now c.args.class_count c.args.classes.now c.args.rules.now
    c.new-out.result.items c.append_header.new.out.items c.extend_from_slice.new.self.items c.append_rows.new.out.items c.append_entries.new.out.items
    c.new-out.ensures.items c.in_ok-append_header.ensures c.in_ok-extend_from_slice.ensures.items c.in_ok-append_rows.ensures c.in_ok-append_entries.ensures
