-- Classes of glyphs that follow one another. Apple's TrueType Reference Manual, "The 'kern' table", formats 1 and 2.
use Rattle.std.specs.Prelude.{ℕ, ◌+◌, List, [], ◌∷◌, Option, Some, None, if◌then◌else◌, nat_lt, ◌==◌, ◌&&◌}

-- the first glyph, and 0 where there is none
abbrev pub first_glyph : List (ℕ × ℕ) → ℕ
first_glyph [] = 0
first_glyph (pair ∷ pairs) = pair.0

-- the first place, from one on, whose glyph is not so many behind the first, or whose class is not below a limit
abbrev pub gap_from : ℕ → ℕ → ℕ → List (ℕ × ℕ) → Option ℕ
gap_from limit first place [] = None
gap_from limit first place (pair ∷ pairs) =
    if (pair.0 == first + place) && nat_lt pair.1 limit then gap_from limit first (place + 1) pairs else Some place

-- the first place whose glyph does not follow the one before it, or whose class is not below a limit
abbrev pub class_gap : ℕ → List (ℕ × ℕ) → Option ℕ
class_gap limit classes = gap_from limit (first_glyph classes) 0 classes
