-- What is told of the places of a line in drawing order that kerning leaves open. (No chapter of the manual: where a line
-- may be broken is the shaper's own.)
use Rattle.std.specs.Prelude.{◌≡◌, ℕ, ◌<◌, ◌&&◌, Bool, false, List, length, get_or}
use Rattle.aat_buffer.specs.Buffer.{Buffer}
use Rattle.aat_glyph.specs.declared.glyph.Direction.{Direction}
use Rattle.aat_glyph.specs.declared.glyph.GlyphPosition.{GlyphPosition}
use Rattle.aat_font.specs.declared.face.hb_font_t.{hb_font_t}
use Rattle.aat_kerning.specs.Cut.{ordered_line}
use Rattle.aat_shaped_text.specs.Breaks.{is_unchained, may_break_by}
use Rattle.aat_shaped_text.specs.KernedBreaks.{kerning_opens}
use Rattle.aat_shaped_text.specs.declared.breaks.BreakRules.{BreakRules}

-- Of each place of a line that is to be kerned, in drawing order, it is told whether the line may be broken there by its
-- glyphs, and kerning leaves it open.
pub record TellsOpenPlaces (face : hb_font_t) (rules : BreakRules) (b : Buffer) (told : List Bool) : Type 0 where
  pub long : length told ≡ length b.line
  pub opens :
      (i : ℕ) → i < length b.line
      → get_or told i false
      ≡ (may_break_by rules (ordered_line b) i && kerning_opens face b.direction rules.features.now b i)

-- of places of a line with these positions, in drawing order, those are left over which no glyph is attached
pub record ClosesChained (d : Direction) (positions : List GlyphPosition) (old new : List Bool) : Type 0 where
  pub long : length new ≡ length old
  pub opens : (i : ℕ) → i < length old → get_or new i false ≡ (get_or old i false && is_unchained d positions i)
