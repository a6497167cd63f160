-- What is drawn of a text whose marks have no width. (No chapter of the manual: that marks take no room is HarfBuzz's.)
use Rattle.std.specs.Prelude.{ℤ, pos, Bool, List, map, if◌then◌else◌}
use Rattle.std.specs.Int.{int_wrapping_sub, w32}
use Rattle.aat_shaped_text.specs.declared.text.ShapedGlyph.{ShapedGlyph}

-- the offset of a glyph, less its advance where marks move; differences wrap modulo 2 ^ 32
abbrev pub moved : Bool → ℤ → ℤ → ℤ
moved moves offset advance = if moves then int_wrapping_sub w32 offset advance else offset

-- a glyph without width
abbrev pub without_width : Bool → ShapedGlyph → ShapedGlyph
without_width moves g = record g {
  x_advance = pos 0;
  y_advance = pos 0;
  x_offset = moved moves g.x_offset g.x_advance;
  y_offset = moved moves g.y_offset g.y_advance;
}

-- a glyph, without width where it is a mark
abbrev pub zeroed_mark : Bool → ShapedGlyph → ShapedGlyph
zeroed_mark moves g = if g.is_mark then without_width moves g else g

-- glyphs, with marks without width
abbrev pub zero_marks : Bool → List ShapedGlyph → List ShapedGlyph
zero_marks moves glyphs = map (zeroed_mark moves) glyphs
