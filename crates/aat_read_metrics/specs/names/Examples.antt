-- Worked examples of names of glyphs.
use Rattle.std.specs.Prelude.{◌≡◌, ℕ, List, [], ◌∷◌, ◌++◌, Some, None, codes}
use Rattle.aat_read_metrics.specs.names.Names.{name_of}

-- the header of a table of a version
abbrev pub header : ℕ → ℕ → List ℕ
header high low =
    0 ∷ high ∷ low ∷ 0 ∷ 0 ∷ 0 ∷ 0 ∷ 0 ∷ 0 ∷ 0 ∷ 0 ∷ 0 ∷ 0 ∷ 0 ∷ 0 ∷ 0
    ∷ 0 ∷ 0 ∷ 0 ∷ 0 ∷ 0 ∷ 0 ∷ 0 ∷ 0 ∷ 0 ∷ 0 ∷ 0 ∷ 0 ∷ 0 ∷ 0 ∷ 0 ∷ 0 ∷ []

-- the numbers of five glyphs: a Macintosh name, and the second, the first, the third and the fourth string
abbrev pub numbers : List ℕ
numbers = 0 ∷ 5 ∷ 0 ∷ 36 ∷ 1 ∷ 3 ∷ 1 ∷ 2 ∷ 1 ∷ 4 ∷ 1 ∷ 5 ∷ []

-- the strings fi, A.b and <, and one that is not all there
abbrev pub strings : List ℕ
strings = 2 ∷ 102 ∷ 105 ∷ 3 ∷ 65 ∷ 46 ∷ 98 ∷ 1 ∷ 60 ∷ 2 ∷ 102 ∷ []

-- version 1 has the Macintosh names
abbrev pub Version1HasMacintoshNames : Type 0
Version1HasMacintoshNames =
    (name_of (header 1 0) 0 ≡ Some (codes ".notdef"))
    × (name_of (header 1 0) 2 ≡ Some (codes "nonmarkingreturn"))
    × (name_of (header 1 0) 257 ≡ Some (codes "dcroat"))
    × (name_of (header 1 0) 258 ≡ None)

-- version 2 counts the strings from 258 on
abbrev pub Version2CountsStrings : Type 0
Version2CountsStrings =
    (name_of (header 2 0 ++ numbers ++ strings) 0 ≡ Some (codes "A"))
    × (name_of (header 2 0 ++ numbers ++ strings) 1 ≡ Some (codes "A.b"))
    × (name_of (header 2 0 ++ numbers ++ strings) 2 ≡ Some (codes "fi"))

-- what has no name: what stands for something else in XML, a string that is not all there, a glyph without a number, a
-- table whose numbers are not all there, and another version
abbrev pub OthersHaveNone : Type 0
OthersHaveNone =
    (name_of (header 2 0 ++ numbers ++ strings) 3 ≡ None)
    × (name_of (header 2 0 ++ numbers ++ strings) 4 ≡ None)
    × (name_of (header 2 0 ++ numbers ++ strings) 5 ≡ None)
    × (name_of (header 2 0 ++ 0 ∷ 2 ∷ 0 ∷ 36 ∷ []) 0 ≡ None)
    × (name_of (header 3 0) 36 ≡ None)
    × (name_of (0 ∷ 1 ∷ 0 ∷ 0 ∷ []) 36 ≡ None)
