-- The boxes of glyphs, and how glyphs stand in columns, as HarfBuzz has them for a font without variations.
use Rattle.std.specs.Prelude.{ℕ, ℤ, pos, ◌+◌, ◌+ℤ◌, ◌-ℤ◌, ◌*◌, ◌/◌, Bool, List, [], length, Option, Some, None, Ok, Err, if◌then◌else◌, nat_lt, int_lt, unsigned_abs, FitsSigned, ◌==◌, ◌&&◌, option_map, option_and_then, unwrap_or}
use Rattle.std.specs.Int.{w16, int_max, int_min, int_shr}
use Rattle.std.specs.Option.{option_map_or}
use Rattle.std.specs.Ordering.{int_eq}
use Rattle.aat_bytes.specs.declared.tag.Tag.{Tag}
use Rattle.aat_bytes.specs.declared.tags.TheConstants.{GLYF, HEAD, HHEA, HMTX, LOCA}
use Rattle.aat_read_sfnt.specs.Directory.{Directory, cut_table_of}
use Rattle.aat_read_sfnt.specs.GlyphData.{DataTables, data_count, data_of, has_long_offsets, header_of}
use Rattle.aat_read_sfnt.specs.Metrics.{LongMetrics, advance_of, bearing_of, long_metric_count, metrics_of}
use Rattle.aat_read_sfnt.specs.VerticalOrigins.{vertical_origin_at}
use Rattle.aat_read_sfnt.specs.declared.glyph_data.GlyphHeader.{GlyphHeader}
use Rattle.aat_read_sfnt.specs.declared.tags.TheConstants.{OS_2, VHEA, VMTX, VORG}
use Rattle.aat_read_metrics.specs.FontExtents.{font_extents}
use Rattle.aat_read_metrics.specs.Tables.{found_in, glyph_count_in, number_in, units_per_em_in}
use Rattle.aat_read_metrics.specs.declared.font_extents.FontExtents.{FontExtents}
use Rattle.aat_read_metrics.specs.declared.glyph_metrics.GlyphBox.{GlyphBox}
use Rattle.aat_read_metrics.specs.declared.glyph_metrics.Origin.{Origin}

-- what the file has of a table, no bytes where it is missing
abbrev pub bytes_in : Directory → Tag → List ℕ
bytes_in file tag = elim (cut_table_of file tag) [ Ok bytes ↦ bytes | Err fault ↦ [] ]

-- the units of the em: 1,000 where they are missing, as HarfBuzz has it
abbrev pub em_in : Directory → ℕ
em_in file = unwrap_or (found_in (units_per_em_in file)) 1000

-- the metrics of a table whose number of long ones stands in another one
unfoldable pub metrics_at : Directory → Tag → Tag → LongMetrics
metrics_at file header table =
    metrics_of (bytes_in file table)
    (elim (long_metric_count (bytes_in file header)) [ Ok count ↦ count | Err fault ↦ 0 ])
    (number_in (glyph_count_in file))

-- the metrics along rows, and along columns
abbrev pub row_metrics : Directory → LongMetrics
row_metrics file = metrics_at file HHEA HMTX

abbrev pub column_metrics : Directory → LongMetrics
column_metrics file = metrics_at file VHEA VMTX

-- the data of glyphs, by offsets of 32 bits or of 16
abbrev pub tables_of : Directory → Bool → DataTables
tables_of file is_long = record {
  glyf = bytes_in file GLYF;
  loca = bytes_in file LOCA;
  is_long = is_long;
  glyph_count = number_in (glyph_count_in file);
}

-- the data of glyphs, if it has a known format: by `head`, 0 or 1 for the offsets, and 0 or 1 for the data
unfoldable pub data_in : Directory → Option DataTables
data_in file = option_map (tables_of file) (has_long_offsets (bytes_in file HEAD))

-- a box without extent
abbrev pub empty_box : GlyphBox
empty_box = record { left = pos 0; bottom = pos 0; right = pos 0; top = pos 0 }

-- how far two edges are apart
abbrev pub apart : ℤ → ℤ → ℤ
apart a b = if int_lt b a then a -ℤ b else b -ℤ a

-- the box that a header has, moved so that its left edge is the bearing
abbrev pub moved_box : GlyphHeader → ℤ → GlyphBox
moved_box header bearing = record {
  left = bearing;
  bottom = int_min header.y_min header.y_max;
  right = bearing +ℤ apart header.x_min header.x_max;
  top = int_max header.y_min header.y_max;
}

-- the box of a header: a glyph without contours has an empty one
unfoldable pub box_of : GlyphHeader → ℤ → GlyphBox
box_of header bearing = if int_eq header.contours (pos 0) then empty_box else moved_box header bearing

-- whether the lower and the upper edge of a box have 16 bits, as those of headers
abbrev pub HasShortEdges : GlyphBox → Type 0
HasShortEdges box = FitsSigned w16 box.bottom × FitsSigned w16 box.top

-- the header of a glyph, all numbers 0 where it has no data
unfoldable pub glyph_header : DataTables → ℕ → GlyphHeader
glyph_header tables glyph = header_of (unwrap_or (data_of tables glyph) [])

-- the box of a glyph by data and metrics, if it has data
abbrev pub box_by : DataTables → LongMetrics → ℕ → Option GlyphBox
box_by tables metrics glyph =
    if nat_lt glyph (data_count tables)
    then Some (box_of (glyph_header tables glyph) (bearing_of metrics glyph))
    else None

-- the box of a glyph of the font that `loca` has
unfoldable pub glyph_box_in : Directory → ℕ → Option GlyphBox
glyph_box_in file glyph = option_and_then (λ tables. box_by tables (row_metrics file) glyph) (data_in file)

-- how far the font reaches above and below the baseline
unfoldable pub extents_in : Directory → FontExtents
extents_in file = font_extents (bytes_in file OS_2) (bytes_in file HHEA) (em_in file)

-- how far down the pen moves: by the metrics of columns, else as far as the font reaches above and below the baseline
unfoldable pub vertical_advance_in : Directory → ℕ → ℕ
vertical_advance_in file glyph =
    unwrap_or (advance_of (column_metrics file) glyph) ((extents_in file).above + (extents_in file).below)

-- the advance along rows: half an em where the font has no long metric
abbrev pub row_advance : Directory → ℕ → ℕ
row_advance file glyph = unwrap_or (advance_of (row_metrics file) glyph) (em_in file / 2)

-- half of the room that a box leaves is above its upper edge: that is half of both edges and the room, rounded down
abbrev pub middle : ℕ → ℤ → ℤ → ℤ
middle room bottom top = int_shr (pos room +ℤ (bottom +ℤ top)) 1

-- the box is put in the middle between the font's ascender and descender; without a box the ascender counts
abbrev pub height_by_box : FontExtents → Option GlyphBox → ℤ
height_by_box extents None = pos extents.above
height_by_box extents (Some box) = middle (extents.above + extents.below) box.bottom box.top

-- whether a glyph with contours has not all their last points and the length of its instructions
abbrev pub is_cut : GlyphHeader → ℕ → Bool
is_cut header size = int_lt (pos 0) header.contours && nat_lt size (12 + 2 * unsigned_abs header.contours)

-- the top of a glyph, and its bearing there. HarfBuzz takes the em where the data, of so many bytes, is cut short
abbrev pub height_of_header : GlyphHeader → ℕ → ℤ → ℕ → ℤ
height_of_header header size bearing units =
    if is_cut header size then pos units else header.y_max +ℤ bearing

-- the same of the data
abbrev pub height_of_data : List ℕ → ℤ → ℕ → ℤ
height_of_data bytes bearing units = height_of_header (header_of bytes) (length bytes) bearing units

-- so for a glyph by data and metrics of columns, and 0 without data
abbrev pub height_by_top : DataTables → LongMetrics → ℕ → ℕ → ℤ
height_by_top tables metrics units glyph =
    option_map_or (λ bytes. height_of_data bytes (bearing_of metrics glyph) units) (data_of tables glyph) (pos 0)

-- the data of glyphs, if there are metrics of columns and data of the first glyph
abbrev pub with_tops : LongMetrics → DataTables → Option DataTables
with_tops metrics tables =
    if metrics.bearing_count == 0 then None else if data_count tables == 0 then None else Some tables

unfoldable pub tops_in : Directory → Option DataTables
tops_in file = option_and_then (with_tops (column_metrics file)) (data_in file)

-- how far the origin lies above the baseline where there is no table of origins: by the top of the glyph where the font
-- has metrics of columns and data of glyphs, else by its box
unfoldable pub height_without_origins : Directory → ℕ → ℤ
height_without_origins file glyph = elim (tops_in file) [
  | Some tables ↦ height_by_top tables (column_metrics file) (em_in file) glyph
  | None ↦ height_by_box (extents_in file) (glyph_box_in file glyph)
]

-- where the origin of a column lies: halfway along the row, and above the baseline as the table of origins has it
unfoldable pub vertical_origin_in : Directory → ℕ → Origin
vertical_origin_in file glyph = record {
  x = pos (row_advance file glyph / 2);
  y = unwrap_or (vertical_origin_at (bytes_in file VORG) glyph) (height_without_origins file glyph);
}
