-- Deleted glyphs take no room. TrueType Reference Manual: The 'morx' table, the deleted glyph 0xFFFF.
use Rattle.std.specs.Prelude.{pos, List, map, zip, option_map, if◌then◌else◌}
use Rattle.aat_buffer.specs.Buffer.{Buffer}
use Rattle.aat_buffer.specs.Removal.{is_deleted}
use Rattle.aat_glyph.specs.declared.glyph.hb_glyph_info_t.{hb_glyph_info_t}
use Rattle.aat_glyph.specs.declared.glyph.GlyphPosition.{GlyphPosition}

-- both advances and both offsets are 0; what the glyph is attached to stays
abbrev pub without_room : GlyphPosition → GlyphPosition
without_room q = record q { x_advance = pos 0; y_advance = pos 0; x_offset = pos 0; y_offset = pos 0 }

-- the position of a glyph, which takes no room where the glyph is deleted
abbrev pub zeroed_position : hb_glyph_info_t → GlyphPosition → GlyphPosition
zeroed_position g q = if is_deleted g then without_room q else q

-- the positions of a line, where those of deleted glyphs take no room
abbrev pub zeroed_positions : List hb_glyph_info_t → List GlyphPosition → List GlyphPosition
zeroed_positions line qs = map (λ p. zeroed_position p.0 p.1) (zip line qs)

-- the position of each deleted glyph takes no room
abbrev pub zeroed : Buffer → Buffer
zeroed b = record b { positions = option_map (zeroed_positions b.line) b.positions }
