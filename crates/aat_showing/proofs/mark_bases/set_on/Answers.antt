use Rattle.std.proofs.Common.{◌≡◌, ◌∙◌, ℤ, ap, ap₂, of_z, rules, sym, to_z, w32}
use Rattle.std.specs.Prelude.{Option}
use Rattle.aat_showing.specs.Lengths.{plus}
use Rattle.aat_showing.specs.MarkPlaces.{beside, over}
use Rattle.aat_read_metrics.specs.declared.glyph_metrics.GlyphBox.{GlyphBox}
use Rattle.aat_showing.specs.MarkBoxes.{drawn_at, set_on, stack_for}
use Rattle.aat_showing.proofs.mark_bases.set_on.Goals as goal

pub returns-in-Some : goal.returns-in-Some
returns-in-Some c =
    let a = c.args in
    let mark = c.in-Some.mark in
    let x : to_z w32 (of_z w32 c.plus-x.result) ≡ plus (beside a.direction a.class (stack_for a.base a.class) mark) a.base.x = search rules in
    let y : to_z w32 (of_z w32 c.plus-y.result) ≡ plus (over a.gap a.class (stack_for a.base a.class) mark) a.base.y = search rules in
    c.drawn_at.ensures
    ∙ (ap₂ (λ (x y : ℤ). drawn_at x y a.glyph) x y
    ∙ sym (ap (λ (o : Option GlyphBox). set_on a.direction a.gap a.base a.class o a.glyph) c.in-Some.is))
