-- Which clusters of a line are open: no glyph of theirs is marked as unsafe to break.
use Rattle.std.specs.List.{list_all, list_any}
use Rattle.std.specs.Prelude.{◌==◌, ℕ, ◌&&◌, ◌||◌, not, bit_and, Bool, List}
use Rattle.aat_glyph.specs.declared.glyph.hb_glyph_info_t.{hb_glyph_info_t}

-- a glyph has the cluster c
abbrev pub is_of : ℕ → hb_glyph_info_t → Bool
is_of c g = g.cluster == c

-- a glyph has another cluster than c, or is without UNSAFE_TO_BREAK (1)
abbrev pub is_unmarked_for : ℕ → hb_glyph_info_t → Bool
is_unmarked_for c g = not (is_of c g) || (bit_and g.mask 1 == 0)

-- some glyph has the cluster c, and each glyph that has it is without UNSAFE_TO_BREAK (1)
abbrev pub is_open : ℕ → List hb_glyph_info_t → Bool
is_open c line = list_any (is_of c) line && list_all (is_unmarked_for c) line
