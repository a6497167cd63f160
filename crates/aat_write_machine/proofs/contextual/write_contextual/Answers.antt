use Rattle.std.proofs.Common.{sym, ap, ◌∙◌}
use Rattle.aat_machine_tables.specs.Subtables.{ContextualTables}
use Rattle.aat_write_machine.specs.Machines.{class_table_written}
use Rattle.aat_write_machine.proofs.Substituted.{lookups_refuse}
use Rattle.aat_write_machine.proofs.contextual.write_contextual.Goals as goal

pub returns-in-Err : goal.returns-in-Err
returns-in-Err c =
    lookups_refuse c.args.subtable.now c.in_ok-classes.classes.items c.in-Err.error
    (sym (ap (λ (t : ContextualTables). class_table_written t.state) c.subtable.view_is) ∙ c.in_ok-classes.ensures.writes)
    c.in-Err.ensures.writes
