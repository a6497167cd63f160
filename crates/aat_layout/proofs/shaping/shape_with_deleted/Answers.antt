use Rattle.std.proofs.Common.{ap, length, arith}
use Rattle.aat_font.specs.Face.{advance_of}
use Rattle.aat_buffer.specs.Buffer.{Buffer}
use Rattle.aat_layout.proofs.Shaped.{settings_behind, shaped_so}
use Rattle.aat_layout.proofs.ShapedLines.{order_behind}
use Rattle.aat_layout.specs.Shaping.{kerned_by_font, substituted_by_plan}
use Rattle.aat_layout.proofs.shaping.shape_with_deleted.Goals as goal

pub returns-clause-shaped : goal.returns-clause-shaped
returns-clause-shaped g c =
    let plan = c.args.plan.now in
    let face = c.args.face.now in
    shaped_so (substituted_by_plan plan face) (advance_of face) (kerned_by_font plan face) c.args.buffer.now
    c.substitute_by_plan.new.buffer c.place_with_deleted.new.buffer c.in_ok-substituting.substituting c.in_ok-kerning.kerning
    c.in_ok-substituting.ensures.substituted c.in_ok-kerning.ensures.placing

pub returns-clause-bounded : goal.returns-clause-bounded
returns-clause-bounded g c = omega (arith, c.in_ok-kerning.ensures.number, c.in_ok-substituting.ensures.bounded)

pub returns-clause-unlengthened : goal.returns-clause-unlengthened
returns-clause-unlengthened g c unapplied =
    omega (arith, c.in_ok-kerning.ensures.number, ap (λ (x : Buffer). length x.line) (c.in_ok-substituting.ensures.number unapplied))

pub returns-clause-settings : goal.returns-clause-settings
returns-clause-settings g c =
    settings_behind c.args.buffer.now c.substitute_by_plan.new.buffer c.place_with_deleted.new.buffer
    c.in_ok-substituting.ensures.settings c.in_ok-kerning.ensures.settings

pub returns-clause-order : goal.returns-clause-order
returns-clause-order g c =
    order_behind c.args.plan.now.apply_morx c.args.buffer.now c.substitute_by_plan.new.buffer c.place_with_deleted.new.buffer
    c.in_ok-substituting.ensures.order c.in_ok-kerning.ensures.order
