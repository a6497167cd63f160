-- What a face has for columns, for spaces and for marks that are placed by boxes.
use Rattle.std.specs.Prelude.{ℕ, ◌/◌, Bool, Option, option_map, if◌then◌else◌}
use Rattle.aat_face.specs.Faces.{FaceValue, glyph_box_of, glyph_of_character, vertical_advance_of, vertical_origin_of}
use Rattle.aat_read_metrics.specs.declared.glyph_metrics.GlyphBox.{GlyphBox}
use Rattle.aat_read_metrics.specs.declared.glyph_metrics.Origin.{Origin}
use Rattle.aat_font.specs.Face.{value_or_zero}
use Rattle.aat_glyph.specs.Directions.{is_vertical}
use Rattle.aat_glyph.specs.declared.glyph.Direction.{Direction}
use Rattle.aat_showing.specs.Columns.{ColumnMetrics}
use Rattle.aat_showing.specs.MarkBoxes.{MarkPlacing}
use Rattle.aat_showing.specs.Spaces.{SpaceMetrics}

-- how far the pen moves in a row for a glyph, as the layer has it
unfoldable pub row_advance : FaceValue → ℕ → ℕ
row_advance face glyph = value_or_zero face.font.advances glyph

-- how far it moves down in a column, and where the origin of the glyph lies there
unfoldable pub column_advance : FaceValue → ℕ → ℕ
column_advance face glyph = vertical_advance_of face glyph

unfoldable pub column_origin : FaceValue → ℕ → Origin
column_origin face glyph = vertical_origin_of face glyph

-- the box of a glyph, if it has one
unfoldable pub box_in : FaceValue → ℕ → Option GlyphBox
box_in face glyph = glyph_box_of face glyph

-- the glyph of a character, if the font has one that is not 0
unfoldable pub glyph_in : FaceValue → ℕ → Option ℕ
glyph_in face character = option_map (λ glyph. glyph.0) (glyph_of_character face character)

-- how glyphs of a face stand in columns
abbrev pub column_metrics : FaceValue → ColumnMetrics
column_metrics face = record {
  across = row_advance face;
  down = column_advance face;
  origin = column_origin face;
}

-- how far the pen moves along a line for a glyph
abbrev pub advance_along : FaceValue → Direction → ℕ → ℕ
advance_along face d glyph = if is_vertical d then column_advance face glyph else row_advance face glyph

-- what spaces of a face are as wide as
abbrev pub space_metrics : FaceValue → Direction → SpaceMetrics
space_metrics face d = record {
  direction = d;
  em = face.units_per_em;
  advance = advance_along face d;
  glyph = glyph_in face;
}

-- what marks of a face are placed by: the gap is a sixteenth of the em
abbrev pub mark_placing : FaceValue → Direction → Bool → MarkPlacing
mark_placing face d moves = record {
  direction = d;
  moves = moves;
  gap = face.units_per_em / 16;
  across = row_advance face;
  box = box_in face;
}
