use Rattle.std.proofs.Common.{◌≡◌, ◌∙◌, ap, is_some, rules}
use Rattle.aat_font.specs.Face.{tables_of}
use Rattle.aat_kerning.specs.Positioning.{line_marked}
use Rattle.aat_shaped_text.proofs.OpenTables.{closed_so, kerned_so}
use Rattle.aat_shaped_text.proofs.kerned_places.kern_openly.Goals as goal

pub returns-clause-kerned : goal.returns-clause-kerned
returns-clause-kerned g c =
    let face = c.args.kerning.now.face.now in
    let asked : c.is_some.result ≡ is_some (tables_of face).kerx = search rules in
    kerned_so c.args.kerning.now.plan.now face c.args.buffer.now c.mark_line.new.buffer c.turn.new.buffer
    c.kern_ordered.new.buffer c.turn-2.new.buffer c.args.places.now c.kern_ordered.new.places c.requires.mask
    (c.mark_line.ensures.marked ∙ ap (λ t. line_marked t c.args.buffer.now) asked) c.turn.ensures.after
    c.in_ok-kern_ordered.ensures.kerned c.turn-2.ensures.after

pub returns-clause-closed : goal.returns-clause-closed
returns-clause-closed g c features asks =
    let face = c.args.kerning.now.face.now in
    let asked : c.is_some.result ≡ is_some (tables_of face).kerx = search rules in
    closed_so c.args.kerning.now.plan.now face c.args.buffer.now c.mark_line.new.buffer c.turn.new.buffer
    c.kern_ordered.new.buffer c.turn-2.new.buffer c.args.places.now c.kern_ordered.new.places c.requires.mask
    (c.mark_line.ensures.marked ∙ ap (λ t. line_marked t c.args.buffer.now) asked) c.turn.ensures.after
    c.in_ok-kern_ordered.ensures.kerned c.turn-2.ensures.after features asks
