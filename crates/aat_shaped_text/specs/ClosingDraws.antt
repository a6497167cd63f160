-- What is drawn of a text whose breaks are told. (No chapter of the manual: where a line may be broken is the shaper's
-- own.)
use Rattle.std.specs.Prelude.{◌≡◌, ℤ, List, length}
use Rattle.aat_font.specs.declared.face.hb_font_t.{hb_font_t}
use Rattle.aat_font.specs.declared.plan.Feature.{Feature}
use Rattle.aat_glyph.specs.declared.glyph.Direction.{Direction}
use Rattle.aat_kerning.specs.Positioning.{in_processing_order}
use Rattle.aat_kerning.specs.Zeroing.{zeroed}
use Rattle.aat_shaped_text.specs.ShapedText.{closed_text, drawn_glyphs, kerned_closed, kerned_text, may_break_text, shaped_text, text_buffer, text_substitution, tracked_line}
use Rattle.aat_shaped_text.specs.declared.text.TextGlyph.{TextGlyph}

-- Closing substitution leaves as many glyphs of a text as substitution, is drawn the same, and leaves the same of the
-- budget.
pub record ClosingDrawsAlike : Type 0 where
  pub lengths :
      (face : hb_font_t) (d : Direction) (features : List Feature) (text : List TextGlyph)
      → length (text_substitution face features (text_buffer face d features text)).buffer.line
      ≡ length (closed_text face d features text).buffer.line
  pub drawn :
      (v : ℤ) (face : hb_font_t) (d : Direction) (features : List Feature) (text : List TextGlyph)
      → shaped_text v face d features text
      ≡ drawn_glyphs (may_break_text face d features text)
      (in_processing_order (tracked_line v (zeroed (kerned_closed face d features text))))
  pub budget :
      (face : hb_font_t) (d : Direction) (features : List Feature) (text : List TextGlyph)
      → (kerned_text face d features text).max_ops ≡ (kerned_closed face d features text).max_ops
