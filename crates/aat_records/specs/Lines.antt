-- Lines, as they are put into room of C's.
use Rattle.std.specs.Prelude.{ℕ, ◌+◌, List, [], ◌∷◌, ◌++◌, length, take, drop, map, slice_get, flat_map}
use Rattle.std.specs.Option.{option_map_or}
use Rattle.aat_shaped_text.specs.declared.text.ShapedGlyph.{ShapedGlyph}
use Rattle.aat_shaped_text.specs.declared.text.TextGlyph.{TextGlyph}
use Rattle.aat_typesetter.specs.TypesetLines.{SetLine}
use Rattle.aat_records.specs.Records.{IsPut, as_it_is, filled, glyph_record}
use Rattle.aat_records.specs.declared.lines.LineCounts.{LineCounts}
use Rattle.aat_records.specs.declared.records.GlyphRecord.{GlyphRecord}
use Rattle.aat_records.specs.declared.records.LineRecord.{LineRecord}

-- what is drawn of lines, one behind the other
abbrev pub glyphs_of : List SetLine → List ShapedGlyph
glyphs_of lines = flat_map (λ line. line.glyphs) lines

-- the place in a text of a size before which so many of its glyphs are: that of the next glyph, or the end
abbrev pub place_behind : List TextGlyph → ℕ → ℕ → ℕ
place_behind text size count = option_map_or (λ glyph. glyph.cluster) (slice_get text count) size

-- a line, for C, up to which so many glyphs are drawn
abbrev pub line_record : List TextGlyph → ℕ → SetLine → ℕ → LineRecord
line_record text size line glyphs = record { text_end = place_behind text size line.text_end; glyphs_end = glyphs }

-- the records of lines before which so many glyphs are drawn
abbrev pub line_records : List TextGlyph → ℕ → ℕ → List SetLine → List LineRecord
line_records text size before [] = []
line_records text size before (line ∷ lines) =
    line_record text size line (before + length line.glyphs)
    ∷ line_records text size (before + length line.glyphs) lines

-- room behind so many places, into which as many of these are put as it has places
abbrev pub filled_from : {X : Type 0} → ℕ → List X → List X → List X
filled_from start xs room = take start room ++ filled xs (drop start room)

-- rooms have as many of the glyphs and of the records of lines as they have places, and the counts are those of all
pub record AreLinesPut (lines : List SetLine) (text : List TextGlyph) (size : ℕ) (room put : List GlyphRecord)
    (rows put_rows : List LineRecord) (counts : LineCounts) : Type 0 where
  pub glyphs : IsPut (map (glyph_record as_it_is) (glyphs_of lines)) room put counts.glyphs
  pub lines_put : IsPut (line_records text size 0 lines) rows put_rows counts.lines
