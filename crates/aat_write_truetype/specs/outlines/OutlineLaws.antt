-- Outlines that are written are read again. Apple's TrueType Reference Manual, "The 'glyf' table" and "The 'loca' table".
use Rattle.std.specs.Prelude.{◌≡◌, ℕ, ◌<◌, List, length, slice_index_or, true, All, Ok}
use Rattle.aat_read_outlines.specs.Composites.{outline_of}
use Rattle.aat_read_outlines.specs.Offsets.{OutlineTables}
use Rattle.aat_read_outlines.specs.Outlines.{IsOutline, PointLists, no_points}
use Rattle.aat_write_truetype.specs.outlines.Tables.{Written, outlines_written}

-- each contour has a point, the last one ends with the points, and there are at most 65,536 points
abbrev pub IsWhole : PointLists → Type 0
IsWhole outline = IsOutline outline.points outline.ends

-- the written tables of so many glyphs, whose offsets are long
abbrev pub tables_over : Written → ℕ → OutlineTables
tables_over written count = record { glyf = written.glyf; loca = written.loca; is_long = true; glyph_count = count }

-- the reader gives each outline that was written
abbrev pub WrittenOutlinesAreRead : Type 0
WrittenOutlinesAreRead =
    (outlines : List PointLists) (written : Written) (glyph : ℕ)
    → All IsWhole outlines
    → outlines_written outlines ≡ Ok written
    → glyph < length outlines
    → outline_of (tables_over written (length outlines)) glyph ≡ Ok (slice_index_or outlines glyph no_points)
