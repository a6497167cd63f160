-- How many starts are kept over the left glyphs of pairs.
use Rattle.std.specs.Prelude.{◌/◌, ℕ, ℤ, pos, List}
use Rattle.aat_kerning_tables.specs.Pairs.{key_of_pair}
use Rattle.aat_lookup.specs.GlyphSpans.{cell_count}

-- the left glyph of a pair
abbrev pub left_glyph : ℕ × ℕ × ℤ → ℕ
left_glyph p = key_of_pair p / 65536

-- the number of starts over the left glyphs of pairs, at most about 8 for each pair
abbrev pub left_count : List (ℕ × ℕ × ℤ) → ℕ
left_count pairs = cell_count left_glyph (0, 0, pos 0) 8 pairs
