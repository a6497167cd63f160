use Rattle.std.proofs.Common.{sym, ap, ◌∙◌, subst}
use Rattle.std.proofs.lemmas.Result.{err_from_is_err_and}
use Rattle.aat_machine_tables.specs.Subtables.{LigatureTables}
use Rattle.aat_write_machine.specs.Machines.{class_table_written}
use Rattle.aat_write_machine.specs.MorxWriteErrors.{RefusesWithin}
use Rattle.aat_write_machine.proofs.Behind.{ligature_is_refused, ligature_is_written}
use Rattle.aat_write_machine.proofs.lists.write_ligature.Goals as goal

pub returns-in_err-classes : goal.returns-in_err-classes
returns-in_err-classes c =
    let e = c.in_err-classes.field-0.0 in
    let p = err_from_is_err_and c.from_residual-in_err-classes.result c.from_residual-in_err-classes.ensures.1 in
    rw (p.1, p.2) (ligature_is_refused c.args.subtable.now e
    (subst (λ (t : LigatureTables). RefusesWithin (class_table_written t.state) e) c.subtable.view_is c.in_err-classes.ensures.writes))

pub returns : goal.returns
returns c =
    ligature_is_written c.args.subtable.now c.in_ok-classes.classes.items c.deref-2.result.now c.in_ok-ligature_bytes.field-0.items
    (sym (ap (λ (t : LigatureTables). class_table_written t.state) c.subtable.view_is) ∙ c.in_ok-classes.ensures.writes)
    c.deref-2.ensures.value (sym c.if-has_long_list.ensures) c.in_ok-ligature_bytes.ensures
