-- Marks, and the order in which they stand behind a letter.
use Rattle.std.specs.Prelude.{ℕ, Bool, true, false, ◌&&◌, ◌||◌, ◌==◌, nat_le, List, [], ◌∷◌, find, Option, Some, None, option_map, unwrap_or, if◌then◌else◌}
use Rattle.aat_lookup.specs.Keys.{value_in}
use Rattle.ucd_category.specs.GeneralCategory.{general_category}
use Rattle.ucd_category.specs.GeneralCategoryGroup.{in_group}
use Rattle.ucd_category.specs.declared.GeneralCategory.{GeneralCategory}
use Rattle.ucd_category.specs.declared.GeneralCategory.TheVariants.{NonspacingMark}
use Rattle.ucd_category.specs.declared.GeneralCategoryGroup.TheVariants.{Mark}
use Rattle.ucd_normal.specs.CanonicalCombiningClass.{canonical_combining_class}

-- Mn, Mc and Me
abbrev pub is_mark : ℕ → Bool
is_mark character = in_group Mark (general_category character)

-- the canonical combining classes for which HarfBuzz takes others, with these: those of Hebrew, Arabic, Telugu, Thai
-- and Tibetan
abbrev pub shaping_rows : List (ℕ × ℕ)
shaping_rows =
    (10, 22) ∷ (11, 15) ∷ (12, 16) ∷ (13, 17) ∷ (14, 23) ∷ (15, 18) ∷ (16, 19) ∷ (17, 20) ∷ (18, 21) ∷ (19, 14) ∷
    (20, 24) ∷ (21, 12) ∷ (22, 25) ∷ (23, 13) ∷ (24, 10) ∷ (25, 11) ∷ (27, 28) ∷ (28, 29) ∷ (29, 30) ∷ (30, 31) ∷
    (31, 32) ∷ (32, 33) ∷ (33, 27) ∷ (84, 4) ∷ (91, 5) ∷ (103, 3) ∷ (130, 132) ∷ (132, 131) ∷ []

-- the class that HarfBuzz takes for a canonical combining class
unfoldable pub shaping_class : ℕ → ℕ
shaping_class class = unwrap_or (value_in shaping_rows class) class

-- the class by which a mark is ordered behind its letter, 0 of a character that is not moved: Tai Tham sakot and
-- Tibetan padma stand last, and Tibetan tsa-phru stands before its vowels
abbrev pub mark_class : ℕ → ℕ
mark_class character =
    if character == 0x1A60 || character == 0xFC6 then 254
    else if character == 0xF39 then 127
    else shaping_class (canonical_combining_class character)

-- the value of the row that holds a number, of rows of a first number, a last number and a value
abbrev pub value_among : List (ℕ × ℕ × ℕ) → ℕ → Option ℕ
value_among rows n = option_map (λ row. row.2) (find (λ row. nat_le row.0 n && nat_le n row.1) rows)

-- the marks of Thai and Lao for which HarfBuzz takes these classes, by which it places them, whatever theirs are: 220
-- below, 222 below right, 230 above and 232 above right
abbrev pub placed_marks : List (ℕ × ℕ × ℕ)
placed_marks =
    (0xE31, 0xE31, 232) ∷ (0xE34, 0xE37, 232) ∷ (0xE3A, 0xE3A, 222) ∷ (0xE47, 0xE47, 232) ∷ (0xE4C, 0xE4E, 232) ∷
    (0xEB1, 0xEB1, 230) ∷ (0xEB4, 0xEB7, 230) ∷ (0xEBB, 0xEBB, 230) ∷ (0xEBC, 0xEBC, 220) ∷ (0xECC, 0xECD, 230) ∷ []

-- the classes by which marks are ordered for which HarfBuzz takes these to place them: 214 attached above, and 228
-- above left
abbrev pub placed_classes : List (ℕ × ℕ × ℕ)
placed_classes =
    (3, 3, 222) ∷ (10, 10, 232) ∷ (11, 11, 228) ∷ (13, 13, 214) ∷ (14, 14, 228) ∷ (15, 25, 220) ∷ (26, 29, 230) ∷
    (30, 30, 220) ∷ (31, 32, 230) ∷ (33, 33, 220) ∷ (34, 36, 230) ∷ (107, 107, 232) ∷ (118, 118, 220) ∷
    (122, 122, 230) ∷ (129, 129, 220) ∷ (131, 131, 220) ∷ (132, 132, 230) ∷ []

-- the class by which a nonspacing mark of an ordering class is placed
abbrev pub placing_class : ℕ → ℕ → ℕ
placing_class character class =
    unwrap_or (value_among placed_marks character) (unwrap_or (value_among placed_classes class) class)

abbrev pub is_nonspacing : GeneralCategory → Bool
is_nonspacing NonspacingMark = true
is_nonspacing _ = false

-- the class by which HarfBuzz places a mark by its box, if the character is one: a spacing or an enclosing one has that
-- by which it is ordered
abbrev pub box_class : ℕ → Option ℕ
box_class character =
    if is_nonspacing (general_category character) then Some (placing_class character (mark_class character))
    else if is_mark character then Some (mark_class character)
    else None
