use Rattle.std.proofs.Common.{◌∙◌, ap}
use Rattle.aat_closing.proofs.Ran.{closed_insertion, refused_insertion}
use Rattle.aat_closing.proofs.machines.close_insertion.Goals as goal

pub returns-clause-run : goal.returns-clause-run
returns-clause-run g c =
    let a = c.subtable.inside in
    closed_insertion c.args.run.now c.requires.ranges c.args.buffer.now (record { state = a.state; glyphs = a.glyphs.items }) c.args.subtable.now c.deref.result.now c.new-context.result
    c.subtable.view_is c.deref.ensures.value (c.new-context.ensures ∙ ap (λ r. record { inner = r; subtable = c.args.subtable.now }) c.new-inner.ensures.value)
    c.run_machine_through.result c.run_machine_through.new.buffer c.run_machine_through.ensures.run c.run_machine_through.ensures.through

pub returns-clause-reason : goal.returns-clause-reason
returns-clause-reason g c =
    let a = c.subtable.inside in
    refused_insertion c.args.run.now c.requires.ranges c.args.buffer.now (record { state = a.state; glyphs = a.glyphs.items }) c.args.subtable.now c.deref.result.now c.new-context.result
    c.subtable.view_is c.deref.ensures.value (c.new-context.ensures ∙ ap (λ r. record { inner = r; subtable = c.args.subtable.now }) c.new-inner.ensures.value)
    c.run_machine_through.result c.run_machine_through.ensures.reason
