-- The data of glyphs, and their headers. Apple's TrueType Reference Manual, "The 'glyf' table", "The 'loca' table".
use Rattle.std.specs.Prelude.{ℕ, ℤ, pos, ◌+◌, ◌*◌, ◌/◌, ◌-◌, min, Bool, true, false, List, length, Option, Some, None, Result, Ok, Err, if◌then◌else◌, nat_lt, nat_le, ◌==◌}
use Rattle.aat_bytes.specs.Numbers.{be16, be32, signed16, slice}
use Rattle.aat_read_sfnt.specs.Header.{units_per_em}
use Rattle.aat_read_sfnt.specs.declared.glyph_data.GlyphHeader.{GlyphHeader}

-- whether the offsets of `loca` have 32 bits, or 16, which count twice, by a sound table `head`. HarfBuzz knows data of
-- the formats 0 and 1 alone
abbrev pub long_offsets_at : List ℕ → Option Bool
long_offsets_at head =
    if nat_lt 1 (be16 head 52) then None else
    if be16 head 50 == 0 then Some false else if be16 head 50 == 1 then Some true else None

-- whether they have 32 bits. Without a sound table `head` HarfBuzz takes 16
abbrev pub has_long_offsets : List ℕ → Option Bool
has_long_offsets head = elim (units_per_em head) [ Ok units ↦ long_offsets_at head | Err fault ↦ Some false ]

-- the data, its offsets, whether these have 32 bits, and the number of the font's glyphs
pub record DataTables : Type 0 where
  pub glyf : List ℕ
  pub loca : List ℕ
  pub is_long : Bool
  pub glyph_count : ℕ

-- how many offsets there are
abbrev pub offset_count : DataTables → ℕ
offset_count tables = if tables.is_long then length tables.loca / 4 else length tables.loca / 2

-- how many glyphs of the font have data: each from its offset up to the next one
abbrev pub data_count : DataTables → ℕ
data_count tables = min (offset_count tables - 1) tables.glyph_count

-- an offset
abbrev pub offset_at : DataTables → ℕ → ℕ
offset_at tables i = if tables.is_long then be32 tables.loca (4 * i) else 2 * be16 tables.loca (2 * i)

-- the data from an offset up to another one, if it is there
abbrev pub data_between : List ℕ → ℕ → ℕ → Option (List ℕ)
data_between glyf start end = if nat_lt end start then None else slice glyf start (end - start)

-- the data of a glyph, if it has offsets and the data is there
abbrev pub data_of : DataTables → ℕ → Option (List ℕ)
data_of tables glyph =
    if nat_lt glyph (data_count tables)
    then data_between tables.glyf (offset_at tables glyph) (offset_at tables (glyph + 1))
    else None

-- a signed number of a header of 10 bytes, 0 where there is no such header
abbrev pub number_at : List ℕ → ℕ → ℤ
number_at bytes place = if nat_lt (length bytes) 10 then pos 0 else signed16 (be16 bytes place)

-- the header of a glyph: the number of contours, below 0 of a composite glyph, and the ends of its box
abbrev pub header_of : List ℕ → GlyphHeader
header_of bytes = record {
  contours = number_at bytes 0;
  x_min = number_at bytes 2;
  y_min = number_at bytes 4;
  x_max = number_at bytes 6;
  y_max = number_at bytes 8;
}
