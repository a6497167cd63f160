-- Worked examples of the classes by which marks are placed.
use Rattle.std.specs.Prelude.{◌≡◌, [], ◌∷◌, map, Some, None}
use Rattle.aat_characters.specs.Marks.{box_class}

-- an accent stands above, and a dot below below; of Hebrew the sheva stands below, the rafe above, the shin dot above
-- right and the holam above left, and the dagesh stays within; the shadda of Arabic stands above, and its kasra below
abbrev pub PointsArePlaced : Type 0
PointsArePlaced =
    map box_class (0x301 ∷ 0x323 ∷ 0x5B0 ∷ 0x5BF ∷ 0x5C1 ∷ 0x5B9 ∷ 0x5BC ∷ 0x651 ∷ 0x650 ∷ [])
    ≡ Some 230 ∷ Some 220 ∷ Some 220 ∷ Some 214 ∷ Some 232 ∷ Some 228 ∷ Some 12 ∷ Some 230 ∷ Some 220 ∷ []

-- vowels and tones of Thai stand above right and below right, and those of Lao above and below; so do those of Tibetan,
-- whose tsa-phru keeps its class; a virama keeps 9, a spacing mark 0, and a letter has none
abbrev pub VowelsArePlaced : Type 0
VowelsArePlaced =
    map box_class (0xE34 ∷ 0xE48 ∷ 0xE38 ∷ 0xE3A ∷ 0xEB4 ∷ 0xEC8 ∷ 0xEB8 ∷ 0xF72 ∷ 0xF74 ∷ 0xF39 ∷ 0x94D ∷ 0x93E ∷ 0x61 ∷ [])
    ≡ Some 232 ∷ Some 232 ∷ Some 222 ∷ Some 222 ∷ Some 230 ∷ Some 230 ∷ Some 220 ∷ Some 230 ∷ Some 220 ∷ Some 127 ∷ Some 9
    ∷ Some 0 ∷ None ∷ []
