-- The line of a text, which advances alone may place.
use Rattle.std.specs.Prelude.{Bool, List, map, Option, Some, None, option_copied}
use Rattle.aat_buffer.specs.Buffer.{Buffer}
use Rattle.aat_font.specs.Face.{advance_of}
use Rattle.aat_font.specs.declared.face.hb_font_t.{hb_font_t}
use Rattle.aat_glyph.specs.Directions.{is_horizontal}
use Rattle.aat_glyph.specs.declared.glyph.Direction.{Direction}
use Rattle.aat_glyph.specs.declared.glyph.GlyphPosition.{GlyphPosition}
use Rattle.aat_glyph.specs.declared.glyph.hb_glyph_info_t.{hb_glyph_info_t}
use Rattle.aat_kerning.specs.Zeroing.{zeroed_position}
use Rattle.aat_layout.specs.Shaping.{advanced}
use Rattle.aat_drawn_text.specs.declared.text_line.TextLine.TheInside.{Inside}

-- the position of a glyph that is placed by its advance alone: a deleted one takes no room
abbrev pub place_of : hb_font_t → Bool → hb_glyph_info_t → GlyphPosition
place_of face is_row g = zeroed_position g (advanced is_row (advance_of face g.glyph_id))

-- the positions of a line, which a font may place by its advances alone
abbrev pub positions_by :
    Option hb_font_t → List hb_glyph_info_t → Direction → Option (List GlyphPosition) → Option (List GlyphPosition)
positions_by None line d positions = positions
positions_by (Some face) line d positions = Some (map (place_of face (is_horizontal d)) line)

-- the same in a buffer
abbrev pub placed_by : Option hb_font_t → Buffer → Buffer
placed_by font b = record b { positions = positions_by font b.line b.direction b.positions }

-- how the fields of the line of a text show its value
abbrev pub text_line_of : {Z : Type 0} → Inside Z → Buffer
text_line_of a = placed_by (option_copied a.placed_by) a.buffer
