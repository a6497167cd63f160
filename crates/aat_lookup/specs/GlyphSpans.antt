-- How many cells are kept over the glyphs from that of the first row to that of the last.
use Rattle.std.specs.Prelude.{◌+◌, ◌-◌, ◌/◌, ◌==◌, ℕ, List, if◌then◌else◌, nat_lt, length, slice_index_or}
use Rattle.aat_lookup.specs.Keys.{first}

module _ {X : Type 0} (glyph_of : X → ℕ) (no_row : X) where
  -- the number of glyphs from that of the first row to that of the last
  abbrev pub glyph_span : List X → ℕ
  glyph_span rows =
      glyph_of (slice_index_or rows (length rows - 1) no_row) - glyph_of (slice_index_or rows 0 no_row) + 1

  -- the number of cells: one for each of these glyphs, and none where they are many times the rows
  abbrev pub cell_count : ℕ → List X → ℕ
  cell_count times rows =
      if length rows == 0 then 0 else if nat_lt (length rows) (glyph_span rows / times) then 0 else glyph_span rows

-- the number of cells of an array over the glyphs of pairs, at most about 32 for each pair
abbrev pub span_count : List (ℕ × ℕ) → ℕ
span_count pairs = cell_count first (0, 0) 32 pairs
