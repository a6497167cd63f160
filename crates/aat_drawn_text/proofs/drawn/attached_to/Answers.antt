use Rattle.std.proofs.Common.{◌≡◌, ◌∙◌, ap, arith, ℕ, List}
use Rattle.std.specs.Prelude.{Option}
use Rattle.aat_buffer.specs.Buffer.{position_list}
use Rattle.aat_glyph.specs.declared.glyph.hb_glyph_info_t.{hb_glyph_info_t}
use Rattle.aat_glyph.specs.placement.Attachments.{parent}
use Rattle.aat_shaped_text.specs.ShapedText.{kept_place}
use Rattle.aat_drawn_text.specs.inside.Drawing.{IsDrawn}
use Rattle.aat_drawn_text.proofs.DrawnPlaces.{length_of_added}
use Rattle.aat_drawn_text.proofs.Unattached.{parent_added}
use Rattle.aat_drawn_text.proofs.drawn.attached_to.Goals as goal

pub parent_of-parent-requires : goal.parent_of-parent-requires
parent_of-parent-requires g c =
    let b = c.args.buffer.now in
    let known : IsDrawn b c.in-Some.drawn = rw c.in-Some.is at c.requires.attached in
    omega (arith, c.requires.in_line, c.requires.placed, length_of_added b.direction (position_list b) c.in-Some.drawn.added.now known.added)

pub returns-in-Some : goal.returns-in-Some
returns-in-Some g c =
    let b = c.args.buffer.now in
    let qs = position_list b in
    let i = c.args.i in
    let known : IsDrawn b c.in-Some.drawn = rw c.in-Some.is at c.requires.attached in
    let found : c.parent_of-parent.result ≡ parent b.direction qs i =
    c.parent_of-parent.ensures.value
    ∙ (ap (λ d. parent d c.in-Some.drawn.added.now i) c.direction.ensures
    ∙ parent_added b.direction qs c.in-Some.drawn.added.now i (omega (arith, c.requires.in_line, c.requires.placed)) known.added) in
    c.kept_place.ensures
    ∙ (ap (λ (gs : List hb_glyph_info_t). kept_place gs c.parent_of-parent.result) c.requires.line
    ∙ ap (λ (o : Option ℕ). kept_place b.line o) found)
