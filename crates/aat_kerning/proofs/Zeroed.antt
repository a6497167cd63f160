-- Positions that are zeroed one by one.
use Rattle.std.proofs.Common.{◌≡◌, ap, refl, ℕ, zero, suc, ◌<◌, List, [], ◌∷◌, ◌++◌, take, drop, length, get_or, set, arith}
use Rattle.aat_glyph.specs.declared.glyph.hb_glyph_info_t.{hb_glyph_info_t}
use Rattle.aat_glyph.specs.declared.glyph.GlyphPosition.{GlyphPosition}
use Rattle.aat_buffer.specs.Buffer.{no_glyph, zero_position}
use Rattle.aat_kerning.specs.Zeroing.{zeroed_position, zeroed_positions}

-- the positions, of which the first i are zeroed
abbrev pub zeroed_first : ℕ → List hb_glyph_info_t → List GlyphPosition → List GlyphPosition
zeroed_first i line qs = zeroed_positions (take i line) (take i qs) ++ drop i qs

-- the position at i is written
pub zeroed_step : (line : List hb_glyph_info_t) (qs : List GlyphPosition) (i : ℕ) → i < length line → i < length qs
    → set (zeroed_first i line qs) i (zeroed_position (get_or line i no_glyph) (get_or (zeroed_first i line qs) i zero_position)) ≡ zeroed_first (suc i) line qs
zeroed_step [] qs i low within = absurd (omega (arith, low))
zeroed_step (g ∷ line) [] i low within = absurd (omega (arith, within))
zeroed_step (g ∷ line) (q ∷ qs) zero low within = refl
zeroed_step (g ∷ line) (q ∷ qs) (suc i) low within = ap (λ xs. zeroed_position g q ∷ xs) (zeroed_step line qs i (omega (arith, low)) (omega (arith, within)))
