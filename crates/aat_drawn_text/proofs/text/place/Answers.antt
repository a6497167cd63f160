use Rattle.std.proofs.Common.{◌∙◌, IfOk, List, ap, subst, sym}
use Rattle.std.specs.Option.{option_copied}
use Rattle.aat_buffer.specs.Buffer.{Buffer}
use Rattle.aat_buffer.specs.Clusters.{KeepsOrder}
use Rattle.aat_font.specs.Face.{advance_of}
use Rattle.aat_glyph.specs.declared.glyph.hb_glyph_info_t.{hb_glyph_info_t}
use Rattle.aat_layout.specs.Shaping.{placing, with_advances}
use Rattle.aat_run.specs.Outcome.{Outcome}
use Rattle.aat_shaped_text.specs.KernedPlaces.{TellsOpenPlaces}
use Rattle.aat_shaped_text.specs.Unkerned.{is_unkerned}
use Rattle.aat_drawn_text.proofs.TextLines.{placed_anew, same_order, unkerned_placed}
use Rattle.aat_drawn_text.proofs.text.place.Goals as goal

pub returns-clause-order : goal.returns-clause-order
returns-clause-order g c =
    rw c.take_advances.ensures.after
    (subst (λ (gs : List hb_glyph_info_t). KeepsOrder gs c.buffer.inside.buffer.line)
    (ap (λ (b : Buffer). b.line) c.buffer.view_is) (same_order c.buffer.inside.buffer.line))

pub returns-then-not-by_glyphs-clause-told : goal.returns-then-not-by_glyphs-clause-told
returns-then-not-by_glyphs-clause-told g c = λ told others.
    subst
    (λ (b : Buffer).
    IfOk c.place_openly.result
    (λ places. TellsOpenPlaces c.args.face.now c.args.rules (with_advances (advance_of c.args.face.now) b) places.items))
    c.buffer.view_is c.place_openly.ensures.told

pub returns-clause-placing : goal.returns-clause-placing
returns-clause-placing g c =
    let plan = c.args.plan.now in
    let face = c.args.face.now in
    let b = c.buffer.inside.buffer in
    c.take_advances.ensures.after
    ∙ (unkerned_placed plan face c.args.rules.features.now b c.requires.mask c.requires.requested
    (ap (is_unkerned face) (sym c.direction.ensures) ∙ (sym c.is_unkerned.ensures ∙ c.if-not-is_unkerned.false))
    ∙ ap (λ (o : Outcome). o.buffer) (placed_anew plan face (option_copied c.buffer.inside.placed_by) b ∙ ap (placing plan face) c.buffer.view_is))
