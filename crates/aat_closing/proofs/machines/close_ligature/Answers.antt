use Rattle.std.proofs.Common.{◌∙◌, ap}
use Rattle.aat_closing.proofs.Ran.{closed_ligature}
use Rattle.aat_closing.proofs.machines.close_ligature.Goals as goal

pub returns-clause-run : goal.returns-clause-run
returns-clause-run g c =
    let a = c.subtable.inside in
    closed_ligature c.args.run.now c.requires.ranges c.args.buffer.now c.run_machine_through.result c.run_machine_through.new.buffer g.row.SLOTS
    (record { state = a.state; actions = a.ligature_actions.items; components = a.components.items; ligatures = a.ligatures.items }) c.args.subtable.now c.new-context.result c.subtable.view_is
    (c.new-context.ensures ∙ ap (λ r. record { inner = r; subtable = c.args.subtable.now }) c.with_slots-inner.ensures.value) c.run_machine_through.ensures.run c.run_machine_through.ensures.through
