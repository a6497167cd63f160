-- The worked rows of shaping.
use Rattle.std.specs.Prelude.{◌≡◌, ℕ, pos, negsuc, true, List, [], ◌∷◌, Some}
use Rattle.aat_buffer.specs.Buffer.{Buffer}
use Rattle.aat_glyph.specs.declared.glyph.Direction.TheVariants.{TopToBottom}
use Rattle.aat_font.specs.Face.{value_or_zero}
use Rattle.aat_run.specs.Outcome.{Outcome, untouched}
use Rattle.aat_run.specs.Rows.{buffer_with, glyph, many}
use Rattle.aat_morx.specs.LigatureRows.{joining, pair, two}
use Rattle.aat_morx.specs.Rows.{substituted_by, subtable}
use Rattle.aat_kerning.specs.Positioning.{kern_positioning}
use Rattle.aat_kerning.specs.RowWords.{PrintedKerning, along_x, asking_from, kern_subtable, pairs_of_kern, position, printed_kerning, shows_positions}
use Rattle.aat_layout.specs.Shaping.{shaped_by}

-- the advances of the glyphs 12, 20 and 65535
abbrev pub three_advances : List (ℕ × ℕ)
three_advances = (12, 400) ∷ (20, 600) ∷ (65535, 300) ∷ []

-- a buffer that is shaped with these advances and with the pair (20, 12) of the `kern` table
abbrev pub shaped_row : (Buffer → Outcome) → Buffer → PrintedKerning
shaped_row substitute b =
    printed_kerning (shaped_by substitute (value_or_zero (Some three_advances))
    (kern_positioning true 8 (kern_subtable (pairs_of_kern ((20, 12, negsuc 49) ∷ [])) ∷ [])) b)

pub record ShapingRows : Type 0 where
  -- the pair skips the deleted component, which then goes
  pub row_38a :
      shaped_row (substituted_by (subtable (joining pair two) ∷ []))
      (buffer_with (asking_from 0 (10 ∷ 11 ∷ 12 ∷ [])) many)
      ≡ record (shows_positions (glyph 20 0 8 ∷ glyph 12 2 11 ∷ [])
      (along_x (pos 575) (pos 0) ∷ along_x (pos 375) (negsuc 24) ∷ [])) { turns = 4 }
  -- in a column advances go down; nothing is substituted
  pub row_38b :
      shaped_row untouched (record (buffer_with (asking_from 0 (20 ∷ [])) many) { direction = TopToBottom })
      ≡ shows_positions (glyph 20 0 8 ∷ []) (position (pos 0) (negsuc 599) (pos 0) (pos 0) ∷ [])
