-- Kerning values of pairs of glyphs as a total function. Apple's TrueType Reference Manual, "The 'kern' table" and "The
-- 'kerx' table", formats 0, 2 and 6.
use Rattle.std.specs.Prelude.{ℕ, ◌+◌, ◌*◌, List, ℤ, Option, option_map}
use Rattle.aat_lookup.specs.Keys.{at_key, first_two}

-- pairs rise by left, then by right; glyph ids have 16 bits
abbrev pub pair_key : ℕ → ℕ → ℕ
pair_key left right = left * 65536 + right

-- the key of a left glyph and a right one with their value
abbrev pub key_of_pair : ℕ × ℕ × ℤ → ℕ
key_of_pair = first_two

-- the value that is listed for two glyphs, if there is one
abbrev pub kerning_of : List (ℕ × ℕ × ℤ) → ℕ → ℕ → Option ℤ
kerning_of pairs left right = option_map (λ pair. pair.2) (at_key key_of_pair pairs (pair_key left right))
