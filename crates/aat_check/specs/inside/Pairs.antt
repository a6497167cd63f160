-- Pairs that have a mark. Apple's TrueType Reference Manual, "The 'kern' table" and "The 'kerx' table", format 0.
use Rattle.std.specs.Prelude.{ℕ, ℤ, pos, ◌==◌, ◌&&◌, ◌||◌, Bool, not, bit_and}
use Rattle.std.specs.Ordering.{int_eq}
use Rattle.aat_font.specs.Face.{props_of}
use Rattle.aat_font.specs.declared.face.hb_font_t.{hb_font_t}

-- a glyph is a mark by the classes of a font: it has the property 8
abbrev pub is_mark : hb_font_t → ℕ → Bool
is_mark font glyph = not (bit_and (props_of font glyph) 8 == 0)

-- a pair has a value but 0, and one of its glyphs is a mark, which pairs skip
abbrev pub has_mark : hb_font_t → ℕ × ℕ × ℤ → Bool
has_mark font pair = not (int_eq pair.2 (pos 0)) && (is_mark font pair.0 || is_mark font pair.1)
