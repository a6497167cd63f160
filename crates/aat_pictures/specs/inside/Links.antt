-- The links between the glyphs that a subtable found and those that it left.
use Rattle.std.specs.Prelude.{ℕ, ◌+◌, ◌-◌, min}

-- the pair of a number of an act that takes and puts so many ids: of the longer side, those behind the last one of the
-- shorter side go with that one
abbrev pub pair_of : ℕ → ℕ → ℕ → ℕ × ℕ
pair_of number taken put = (min number (taken - 1), min number (put - 1))

-- a place, counted from the other end of a line of so many glyphs
abbrev pub mirrored : ℕ → ℕ → ℕ
mirrored place count = count - 1 - place

-- the new place of a glyph behind an act, whose end moves from one place to another
abbrev pub place_behind : ℕ → ℕ → ℕ → ℕ
place_behind place end new_end = place - end + new_end
