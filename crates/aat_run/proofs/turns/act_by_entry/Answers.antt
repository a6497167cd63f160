use Rattle.std.proofs.Common.{◌≡◌, sym, ◌∙◌}
use Rattle.std.specs.Prelude.{Some}
use Rattle.aat_machine_tables.specs.Table.{class_of, entry_of}
use Rattle.aat_run.specs.Context.{class_at}
use Rattle.aat_run.specs.Machine.{by_entry}
use Rattle.aat_run.proofs.turns.act_by_entry.Goals as goal

pub returns-in-Some-clause-reason : goal.returns-in-Some-clause-reason
unfolding by_entry
returns-in-Some-clause-reason g c on =
    let read : entry_of c.args.machine.now c.args.run_state.now.state (class_at (class_of c.args.machine.now) c.args.buffer.now) ≡ Some c.in-Some.entry =
    sym (rw c.class_at_cursor-class.ensures at c.judged_entry-judged.ensures.entry) ∙ sym c.entry.ensures ∙ c.in-Some.is in
    rw read (c.act.ensures.reason on)
