use Rattle.std.proofs.Common.{◌∙◌, ap}
use Rattle.aat_font.specs.Face.{glyph_classes_of}
use Rattle.aat_closing.proofs.Ran.{closed_contextual}
use Rattle.aat_closing.proofs.machines.close_contextual.Goals as goal

pub returns-clause-run : goal.returns-clause-run
returns-clause-run g c =
    let a = c.subtable.inside in
    closed_contextual c.args.run.now c.requires.ranges c.args.buffer.now c.run_machine_through.result c.run_machine_through.new.buffer (glyph_classes_of c.args.run.now.face.now)
    (record { state = a.state; lookups = a.lookups.items }) c.args.subtable.now c.new-context.result c.subtable.view_is
    (c.new-context.ensures ∙ ap (λ r. record { inner = r; subtable = c.args.subtable.now }) c.new-inner.ensures.value) c.run_machine_through.ensures.run c.run_machine_through.ensures.through
