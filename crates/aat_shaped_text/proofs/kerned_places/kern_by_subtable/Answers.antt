use Rattle.std.proofs.Common.{◌≡◌, ◌∙◌, ◌&&◌, Bool, ap, false, not, rules, sym, true}
use Rattle.aat_font.specs.Face.{tables_of}
use Rattle.aat_glyph.specs.declared.glyph.Direction.{Direction}
use Rattle.aat_kerning.specs.Positioning.{is_for_direction}
use Rattle.aat_shaped_text.proofs.OpenRuns.{left_out, noted_so, passed_over, taken, unnoted}
use Rattle.aat_shaped_text.proofs.kerned_places.kern_by_subtable.Goals as goal

pub returns-then-not-is_for_text-clause-kerned : goal.returns-then-not-is_for_text-clause-kerned
returns-then-not-is_for_text-clause-kerned g c =
    let points = (tables_of c.args.kerning.now.face.now).ankr in
    let s = g.S.OpenKerning.kerned points c.args.subtable.now in
    let b = c.args.buffer.now in
    let answer : c.is_for_text.result ≡ false = search rules in
    let away : is_for_direction s.kerning b.direction ≡ false =
    ap (is_for_direction s.kerning) (sym c.direction.ensures) ∙ (sym (c.is_for_text.ensures points) ∙ answer) in
    passed_over c.args.kerning.now.plan.now.requested_kerning c.args.is_attached.now s b c.args.places.now away

pub returns-then-not-is_for_text-clause-noted : goal.returns-then-not-is_for_text-clause-noted
returns-then-not-is_for_text-clause-noted g c =
    let points = (tables_of c.args.kerning.now.face.now).ankr in
    let s = g.S.OpenKerning.kerned points c.args.subtable.now in
    let b = c.args.buffer.now in
    let answer : c.is_for_text.result ≡ false = search rules in
    let away : is_for_direction s.kerning b.direction ≡ false =
    ap (is_for_direction s.kerning) (sym c.direction.ensures) ∙ (sym (c.is_for_text.ensures points) ∙ answer) in
    unnoted c.args.kerning.now.plan.now.requested_kerning c.args.is_attached.now s b c.args.places.now away
