use Rattle.std.proofs.Common.{◌∙◌}
use Rattle.aat_font.specs.Face.{glyph_classes_of}
use Rattle.aat_kinds.proofs.KindsKeep.{within_by}
use Rattle.aat_kinds.proofs.Ran.{ran_contextual}
use Rattle.aat_trace.proofs.machines.run_contextual.Goals as goal

pub returns-clause-run : goal.returns-clause-run
returns-clause-run g c =
    let a = c.subtable.inside in
    ran_contextual c.args.run.now c.requires.ranges c.args.buffer.now c.run_machine.result c.run_machine.new.buffer (glyph_classes_of c.args.run.now.face.now)
    (record { state = a.state; lookups = a.lookups.items }) c.args.subtable.now c.new-context.result c.subtable.view_is (c.new-context.ensures ∙ c.new-inner.ensures.value) c.run_machine.ensures.run

pub returns-clause-within : goal.returns-clause-within
returns-clause-within g c =
    within_by c.run_machine.result c.args.buffer.now c.run_machine.new.buffer c.run_machine.ensures.ids c.run_machine.ensures.bounded c.run_machine.ensures.settings
