-- What a table of anchor points has that is read. Apple's TrueType Reference Manual, "The 'ankr' table".
use Rattle.std.specs.Prelude.{◌≡◌, ℕ, ◌+◌, ◌*◌, ◌≤◌, List, length, sum_by, Ok, Option, option_and_then, slice_get}
use Rattle.aat_bytes.specs.Numbers.{be32}
use Rattle.aat_bytes.specs.declared.tags.TheConstants.{ANKR}
use Rattle.aat_kerning_tables.specs.AnchorPoints.{Points, listed_point}
use Rattle.aat_kerning_tables.specs.declared.ankr.Point.{Point}
use Rattle.aat_read_lookup.specs.Lookups.{value_of_glyph}
use Rattle.aat_read_extended.specs.kerx.Anchors.{ankr_of, points_at, points_place}
use Rattle.aat_read_extended.specs.declared.kerx.weights.TheConstants.{ANCHOR_ROW_SIZE, POINT_SIZE}

-- the point of a glyph at an index in the bytes: the lookup gives the glyph the offset of its points
abbrev pub point_in : List ℕ → ℕ → ℕ → ℕ → Option Point
point_in bytes glyph_count glyph index =
    option_and_then (λ offset. slice_get (points_at bytes (points_place bytes offset)) index)
    (value_of_glyph ANKR bytes (be32 bytes 4) glyph_count glyph)

-- each glyph has the points of its bytes
abbrev pub PointsAreThoseOfBytes : Type 0
PointsAreThoseOfBytes =
    (bytes : List ℕ) (glyph_count glyph index : ℕ) (points : Points)
    → ankr_of bytes glyph_count ≡ Ok points
    → listed_point points glyph index ≡ point_in bytes glyph_count glyph index

-- how many bytes of memory glyphs and their points take
abbrev pub points_weight : Points → ℕ
points_weight points = sum_by (λ row. ANCHOR_ROW_SIZE + POINT_SIZE * length row.1) points

-- they take at most 24 bytes for each byte of the table
abbrev pub PointsAreBounded : Type 0
PointsAreBounded =
    (bytes : List ℕ) (glyph_count : ℕ) (points : Points)
    → ankr_of bytes glyph_count ≡ Ok points → points_weight points ≤ 24 * length bytes
