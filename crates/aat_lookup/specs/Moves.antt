-- Arrays of what glyphs become, which have each glyph without a value as itself.
use Rattle.std.specs.Prelude.{◌≡◌, ◌+◌, ◌-◌, ◌%◌, ◌<◌, ◌≤◌, ◌==◌, ◌&&◌, ℕ, Bool, List, Option, None, Some, false, not, if◌then◌else◌, length, slice_index_or}
use Rattle.aat_lookup.specs.Keys.{value_in}
use Rattle.aat_lookup.specs.declared.moves.GlyphMoves.{GlyphMoves}

-- the place of a glyph in an array over the glyphs from the lowest on
abbrev pub place_over : ℕ → ℕ → ℕ
place_over lowest glyph = (glyph + (65536 - lowest)) % 65536

-- what a glyph becomes by an array over the glyphs from the lowest on: itself outside the array
abbrev pub moved_over : ℕ → List ℕ → ℕ → ℕ
moved_over lowest cells glyph = slice_index_or cells (place_over lowest glyph) glyph

-- whether arrays over the glyphs from the lowest on mark a glyph as one that has itself as its value
abbrev pub kept_over : ℕ → List Bool → ℕ → Bool
kept_over lowest kept glyph = slice_index_or kept (place_over lowest glyph) false

-- the value of a glyph by what it becomes: none where it stays, unless it is marked as having itself
abbrev pub changed_to : ℕ → ℕ → Bool → Option ℕ
changed_to glyph now keeps = if now == glyph && not keeps then None else Some now

-- the value of a glyph by an array of what glyphs become and one of marks, over the glyphs from the lowest on
abbrev pub value_by : ℕ → List ℕ → List Bool → ℕ → Option ℕ
value_by lowest cells kept glyph = changed_to glyph (moved_over lowest cells glyph) (kept_over lowest kept glyph)

-- such arrays have a cell and no more marks than cells, and by them each glyph has its value of pairs
abbrev pub AreMoved : ℕ → List ℕ → List Bool → List (ℕ × ℕ) → Type 0
AreMoved lowest cells kept pairs =
    (0 < length cells) × (length kept ≤ length cells)
    × ((glyph : ℕ) → glyph < 65536 → value_by lowest cells kept glyph ≡ value_in pairs glyph)

-- what a glyph becomes by an array
abbrev pub moved_by : GlyphMoves → ℕ → ℕ
moved_by moves glyph = moved_over moves.lowest moves.cells.now glyph

-- the value of a glyph by an array and its marks
abbrev pub value_of_move : GlyphMoves → ℕ → Option ℕ
value_of_move moves glyph = value_by moves.lowest moves.cells.now moves.kept.now glyph

-- an array has a cell
abbrev pub HasCells : GlyphMoves → Type 0
HasCells moves = 0 < length moves.cells.now

-- by an array and its marks each glyph has the value that pairs list for it
abbrev pub AreMovesOf : GlyphMoves → List (ℕ × ℕ) → Type 0
AreMovesOf moves pairs = AreMoved moves.lowest moves.cells.now moves.kept.now pairs
