-- Lines end where they did, each by itself.
use Rattle.std.proofs.Common.{◌≡◌, ℕ, List, [], ◌∷◌, refl}
use Rattle.std.specs.Prelude.{fold}
use Rattle.aat_shaped_text.specs.declared.text.ShapedGlyph.{ShapedGlyph}
use Rattle.aat_shaper.specs.declared.lines.TextLine.{TextLine}
use Rattle.aat_showing.specs.HiddenParts.{Showing}
use Rattle.aat_typesetter.specs.TypesetLines.{set_lines}

-- where the last line ends, where the one before them ends at a place
pub ends_kept :
    (showing : Showing) (glyphs : List ShapedGlyph) (start end : ℕ) (lines : List TextLine)
    → fold (λ e line. line.text_end) end (set_lines showing glyphs start lines) ≡ fold (λ e line. line.text_end) end lines
ends_kept showing glyphs start end [] = refl
ends_kept showing glyphs start end (line ∷ lines) = ends_kept showing glyphs line.glyphs_end line.text_end lines
