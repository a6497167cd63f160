use Rattle.std.proofs.Common.{[]}
use Rattle.std.proofs.lemmas.Result.{err_from_is_err_and}
use Rattle.aat_write_machine.proofs.Behind.{machine_is_refused, machine_is_written}
use Rattle.aat_write_machine.proofs.machine.write_machine.Goals as goal

pub returns-in_err-classes : goal.returns-in_err-classes
returns-in_err-classes g c =
    let p = err_from_is_err_and c.from_residual-in_err-classes.result c.from_residual-in_err-classes.ensures.1 in
    rw (p.1, p.2) (machine_is_refused g.T.EntryWrite.words_of [] c.args.machine.now c.in_err-classes.field-0.0 c.in_err-classes.ensures.writes)

pub returns : goal.returns
returns g c =
    machine_is_written g.T.EntryWrite.words_of [] c.args.machine.now c.class_count.result c.in_ok-classes.classes.items c.deref-2.result.now
    c.in_ok-rules.rules.items c.deref-3.result.now c.in_ok-machine_bytes.field-0.items
    c.in_ok-classes.ensures.writes c.deref-2.ensures.value c.in_ok-rules.ensures c.deref-3.ensures.value c.class_count.ensures
    c.in_ok-machine_bytes.ensures
