use Rattle.std.proofs.Common.{◌∙◌, ap}
use Rattle.aat_closing.proofs.Ran.{closed_rearrangement, within_by}
use Rattle.aat_closing.proofs.machines.close_rearrangement.Goals as goal

pub returns-clause-run : goal.returns-clause-run
returns-clause-run g c =
    closed_rearrangement c.args.run.now c.requires.ranges c.args.buffer.now c.run_machine_through.result c.run_machine_through.new.buffer g.row.LONGEST c.args.table.now c.new-context.result
    (c.new-context.ensures ∙ ap (λ r. record { inner = r; subtable = c.args.table.now }) c.with_longest-inner.ensures.value) c.run_machine_through.ensures.run c.run_machine_through.ensures.through

pub returns-clause-within : goal.returns-clause-within
returns-clause-within g c =
    within_by c.run_machine_through.result c.args.buffer.now c.run_machine_through.new.buffer c.run_machine_through.ensures.ids c.run_machine_through.ensures.bounded c.run_machine_through.ensures.settings
