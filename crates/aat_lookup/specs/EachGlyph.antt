-- Lookups that list a value of each glyph from 0 on. Apple's TrueType Reference Manual, "Font Tables", section on lookup
-- tables, simple array format.
use Rattle.std.specs.Prelude.{ℕ, List}
use Rattle.std.specs.List.{enumerate_from}

-- the pairs of the glyphs from 0 on and their values
abbrev pub pairs_of_each : List ℕ → List (ℕ × ℕ)
pairs_of_each values = enumerate_from 0 values
