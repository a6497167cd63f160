-- The anchor points of glyphs as a total function. Apple's TrueType Reference Manual, "The 'ankr' table".
use Rattle.std.specs.Prelude.{ℕ, List, Vec, map, Option, option_and_then, unwrap_or, slice_get, pos}
use Rattle.aat_lookup.specs.Keys.{at_key}
use Rattle.aat_kerning_tables.specs.declared.ankr.Point.{Point}

-- the anchor points of glyphs
abbrev pub Points : Type 0
Points = List (ℕ × List Point)

-- the glyph of a row, which has its points beside it
abbrev pub glyph_of_row : {X : Type 0} → ℕ × X → ℕ
glyph_of_row row = row.0

-- the anchor points of glyphs whose points stand in vectors
abbrev pub points_in_rows : {Z : Type 0} → List (ℕ × Vec Point Z) → Points
points_in_rows {Z} rows = map (λ (row : ℕ × Vec Point Z). (row.0, row.1.items)) rows

-- the point that is listed for a glyph at an index, if there is one
abbrev pub listed_point : Points → ℕ → ℕ → Option Point
listed_point points glyph index = option_and_then (λ p. slice_get p.1 index) (at_key glyph_of_row points glyph)

-- the point of a glyph at an index, and the origin without one
abbrev pub point_of : Points → ℕ → ℕ → Point
point_of points glyph index = unwrap_or (listed_point points glyph index) (record { x = pos 0; y = pos 0 })
