use Rattle.std.proofs.Common.{subst}
use Rattle.std.proofs.lemmas.Result.{err_from_is_err_and}
use Rattle.aat_machine_tables.specs.Subtables.{InsertionTables}
use Rattle.aat_write_machine.specs.Machines.{class_table_written}
use Rattle.aat_write_machine.specs.MorxWriteErrors.{RefusesWithin}
use Rattle.aat_write_machine.proofs.Behind.{insertion_is_refused}
use Rattle.aat_write_machine.proofs.lists.write_insertion.Goals as goal

pub returns-in_err-classes : goal.returns-in_err-classes
returns-in_err-classes c =
    let e = c.in_err-classes.field-0.0 in
    let p = err_from_is_err_and c.from_residual-in_err-classes.result c.from_residual-in_err-classes.ensures.1 in
    rw (p.1, p.2) (insertion_is_refused c.args.subtable.now e
    (subst (λ (t : InsertionTables). RefusesWithin (class_table_written t.state) e) c.subtable.view_is c.in_err-classes.ensures.writes))
