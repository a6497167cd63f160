-- Clusters never fall along a text of which some drawn glyph says that it may be broken there.
use Rattle.std.proofs.Common.{◌≡◌, subst, ℕ, ℤ, ◌<◌, true, List, length}
use Rattle.aat_font.specs.declared.face.hb_font_t.{hb_font_t}
use Rattle.aat_font.specs.declared.plan.Feature.{Feature}
use Rattle.aat_glyph.specs.declared.glyph.Direction.{Direction}
use Rattle.aat_shaped_text.specs.Breaks.{is_rising}
use Rattle.aat_shaped_text.specs.Parts.{shaped_at}
use Rattle.aat_shaped_text.specs.ShapedText.{drawn_glyphs, drawn_text, may_break_text, shaped_text, tells_breaks}
use Rattle.aat_shaped_text.specs.declared.text.ShapedGlyph.{ShapedGlyph}
use Rattle.aat_shaped_text.specs.declared.text.TextGlyph.{TextGlyph}
use Rattle.aat_shaped_text.proofs.PartsHold.{three}
use Rattle.aat_shaped_text.proofs.Places.{BreaksAt, breaks_at}

pub rising_where_told :
    (v : ℤ) (face : hb_font_t) (d : Direction) (features : List Feature) (text : List TextGlyph) (glyphs : List ShapedGlyph)
    (k : ℕ) → glyphs ≡ shaped_text v face d features text → k < length glyphs
    → (shaped_at glyphs k).may_break_before ≡ true → is_rising text ≡ true
rising_where_told v face d features text glyphs k is low may =
    let may_break = may_break_text face d features text in
    let b = drawn_text v face d features text in
    let inside : k < length (drawn_glyphs may_break b) = subst (λ (gs : List ShapedGlyph). k < length gs) is low in
    let told : (shaped_at (drawn_glyphs may_break b) k).may_break_before ≡ true =
    subst (λ (gs : List ShapedGlyph). (shaped_at gs k).may_break_before ≡ true) is may in
    let there : BreaksAt may_break b.line k = breaks_at may_break b k inside told in
    (three (is_rising text) (tells_breaks face d features text) _ there.may).0
