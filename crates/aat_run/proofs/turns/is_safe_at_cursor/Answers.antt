use Rattle.std.proofs.Common.{refl}
use Rattle.aat_machine_tables.specs.Table.{entry_of}
use Rattle.aat_run.specs.Context.{machine_with}
use Rattle.aat_run.specs.facts.SafeBranches.{safe_by_entries}
use Rattle.aat_run.specs.inside.Places.{config}
use Rattle.aat_run.proofs.turns.is_safe_at_cursor.Goals as goal

pub returns-then-acts_by_entries : goal.returns-then-acts_by_entries
returns-then-acts_by_entries g c on =
    let context = g.C.driver_context_t in
    let table = c.args.machine.now in
    let m = machine_with on table context.advances context.actionable context.act in
    let here = config c.args.buffer.now c.args.context.now c.args.run_state in
    let by_entries = c.acts_by_entries.ensures c.if-acts_by_entries.true in
    rw (safe_by_entries m here g.T.Acting.may_act (λ e. refl) by_entries c.args.entry.now (entry_of table 0 c.args.class) (entry_of table c.args.run_state.state 0)) c.requires.judged
