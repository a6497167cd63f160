-- The widths of spaces that a font lacks. (No chapter of the manual: these widths are HarfBuzz's.)
use Rattle.std.specs.Prelude.{ℕ, ◌+◌, ◌*◌, ◌/◌, List, [], ◌∷◌, map, Option, slice_get, unwrap_or}
use Rattle.std.specs.List.{filter_map}
use Rattle.aat_glyph.specs.Directions.{is_vertical}
use Rattle.aat_glyph.specs.declared.glyph.Direction.{Direction}
use Rattle.aat_shaped_text.specs.declared.text.CharacterKind.{CharacterKind}
use Rattle.aat_shaped_text.specs.declared.text.CharacterKind.TheVariants.{Space}
use Rattle.aat_shaped_text.specs.declared.text.ShapedGlyph.{ShapedGlyph}
use Rattle.aat_shaped_text.specs.declared.text.SpaceWidth.{SpaceWidth}
use Rattle.aat_shaped_text.specs.declared.text.SpaceWidth.TheVariants.{Em, FifthOfEm, Figure, FourEighteenthsOfEm, FourthOfEm, HalfEm, Narrow, Punctuation, SixteenthOfEm, SixthOfEm, ThirdOfEm}
use Rattle.aat_showing.specs.Columns.{with_advance}

-- what spaces are as wide as: the direction of the text, the units of the em, how far the pen moves along the line for
-- a glyph, and the glyph of a character, if the font has one
pub record SpaceMetrics : Type 0 where
  pub direction : Direction
  pub em : ℕ
  pub advance : ℕ → ℕ
  pub glyph : ℕ → Option ℕ

-- one of some equal parts of the em, rounded
abbrev pub part_of : ℕ → ℕ → ℕ
part_of em parts = (em + parts / 2) / parts

-- as wide as the first one of some characters that the font has, else as its own glyph
abbrev pub as_wide_as : SpaceMetrics → List ℕ → ℕ → ℕ
as_wide_as m characters glyph = m.advance (unwrap_or (slice_get (filter_map m.glyph characters) 0) glyph)

-- 0 to 9, and the full stop and the comma
abbrev pub digits : List ℕ
digits = 0x30 ∷ 0x31 ∷ 0x32 ∷ 0x33 ∷ 0x34 ∷ 0x35 ∷ 0x36 ∷ 0x37 ∷ 0x38 ∷ 0x39 ∷ []

abbrev pub stops : List ℕ
stops = 0x2E ∷ 0x2C ∷ []

-- how wide a space is, which is drawn by a glyph
abbrev pub space_width : SpaceMetrics → SpaceWidth → ℕ → ℕ
space_width m Em glyph = m.em
space_width m HalfEm glyph = part_of m.em 2
space_width m ThirdOfEm glyph = part_of m.em 3
space_width m FourthOfEm glyph = part_of m.em 4
space_width m FifthOfEm glyph = part_of m.em 5
space_width m SixthOfEm glyph = part_of m.em 6
space_width m SixteenthOfEm glyph = part_of m.em 16
space_width m FourEighteenthsOfEm glyph = m.em * 4 / 18
space_width m Figure glyph = as_wide_as m digits glyph
space_width m Punctuation glyph = as_wide_as m stops glyph
space_width m Narrow glyph = m.advance glyph / 2

-- a glyph as wide as its kind has it
abbrev pub widened : SpaceMetrics → CharacterKind → ShapedGlyph → ShapedGlyph
widened m (Space width) g =
    with_advance (is_vertical m.direction) (m.advance g.glyph_id) (space_width m width g.glyph_id) g
widened m _ g = g

-- glyphs, with spaces as wide as they are to be
abbrev pub widen_spaces : SpaceMetrics → List ShapedGlyph → List ShapedGlyph
widen_spaces m glyphs = map (λ g. widened m g.kind g) glyphs
