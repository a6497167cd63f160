-- Worked examples of texts, written out as their characters.
use Rattle.std.specs.Prelude.{◌≡◌, ℕ, true, false, List, [], ◌∷◌, map, encode_utf8_all, Some, None}
use Rattle.aat_face.specs.Faces.{FaceValue}
use Rattle.aat_glyph.specs.declared.glyph.Direction.TheVariants.{LeftToRight, RightToLeft}
use Rattle.aat_text.specs.IgnorableCharacters.{is_ignorable_character}
use Rattle.aat_text.specs.LineEnds.{line_ends}
use Rattle.aat_text.specs.Missing.{missing_characters}
use Rattle.aat_text.specs.Strong.{first_strong_direction}
use Rattle.aat_text.specs.TextGlyphs.{text_of}
use Rattle.aat_text.specs.declared.lines.LineEnd.{LineEnd}
use Rattle.aat_text.specs.declared.unit.ClusterUnit.{ClusterUnit}
use Rattle.aat_text.specs.declared.unit.ClusterUnit.TheVariants.{Bytes, Characters}

-- e with an acute accent of its own, and x
abbrev pub accented : List ℕ
accented = encode_utf8_all (0x65 ∷ 0x301 ∷ 0x78 ∷ [])

-- the clusters of a text in any face
abbrev pub clusters_of : FaceValue → ClusterUnit → List ℕ → List ℕ
clusters_of face unit text = map (λ g. g.cluster) (text_of face unit text)

-- the accent has the cluster of its letter; it has two bytes
abbrev pub AccentsShareClusters : Type 0
AccentsShareClusters =
    (face : FaceValue) → (clusters_of face Bytes accented ≡ 0 ∷ 0 ∷ 3 ∷ [])
    × (clusters_of face Characters accented ≡ 0 ∷ 0 ∷ 2 ∷ [])

-- a family of three emoji with two joiners between them, which are ignorable
abbrev pub family : List ℕ
family = encode_utf8_all (0x1F469 ∷ 0x200D ∷ 0x1F467 ∷ 0x200D ∷ 0x1F466 ∷ [])

-- all five characters have one cluster
abbrev pub JoinersAreIgnorable : Type 0
JoinersAreIgnorable =
    (face : FaceValue) → (clusters_of face Characters family ≡ 0 ∷ 0 ∷ 0 ∷ 0 ∷ 0 ∷ [])
    × (map (λ g. g.is_ignorable) (text_of face Characters family) ≡ false ∷ true ∷ false ∷ true ∷ false ∷ [])

-- Hangul fillers, the fourth free variation selector of Mongolian and the format controls of shorthand are to be seen,
-- not as in Unicode; what is beside them in its list is not
abbrev pub FillersAreSeen : Type 0
FillersAreSeen =
    (map is_ignorable_character (0x115F ∷ 0x1160 ∷ 0x180F ∷ 0x3164 ∷ 0xFFA0 ∷ 0x1BCA0 ∷ 0x1BCA3 ∷ [])
    ≡ false ∷ false ∷ false ∷ false ∷ false ∷ false ∷ false ∷ [])
    × (map is_ignorable_character (0xAD ∷ 0x17B4 ∷ 0x180E ∷ 0x206F ∷ 0xFEFF ∷ 0x1D173 ∷ 0xE0001 ∷ [])
    ≡ true ∷ true ∷ true ∷ true ∷ true ∷ true ∷ true ∷ [])

-- a letter, an accent, a grapheme joiner and a variation selector, which are nonspacing but ignorable, and a mark of
-- Devanagari that takes room
abbrev pub marked : List ℕ
marked = encode_utf8_all (0x65 ∷ 0x301 ∷ 0x34F ∷ 0xFE0F ∷ 0x93E ∷ [])

-- the accent alone is a mark
abbrev pub AccentsAreMarks : Type 0
AccentsAreMarks =
    (face : FaceValue)
    → map (λ g. g.is_mark) (text_of face Characters marked) ≡ false ∷ true ∷ false ∷ false ∷ false ∷ []

-- a font without characters lacks the accent at its own place, and not the zero width joiner
abbrev pub IgnorablesAreNotMissing : Type 0
IgnorablesAreNotMissing =
    (face : FaceValue) → face.characters ≡ None
    → missing_characters face Bytes (encode_utf8_all (0x65 ∷ 0x301 ∷ 0x200D ∷ 0x78 ∷ []))
    ≡ record { place = 0; character = 0x65 } ∷ record { place = 1; character = 0x301 }
    ∷ record { place = 6; character = 0x78 } ∷ []

-- digits have no strong direction; Hebrew and Arabic letters run to the left
abbrev pub LettersAreStrong : Type 0
LettersAreStrong =
    (first_strong_direction (encode_utf8_all (0x31 ∷ 0x20 ∷ 0x5D0 ∷ 0x61 ∷ [])) ≡ Some RightToLeft)
    × (first_strong_direction (encode_utf8_all (0x31 ∷ 0x20 ∷ 0x627 ∷ 0x61 ∷ [])) ≡ Some RightToLeft)
    × (first_strong_direction (encode_utf8_all (0x31 ∷ 0x61 ∷ 0x5D0 ∷ [])) ≡ Some LeftToRight)
    × (first_strong_direction (encode_utf8_all (0x31 ∷ 0x20 ∷ [])) ≡ None)

abbrev pub may_end : ℕ → LineEnd
may_end place = record { place = place; is_forced = false }

abbrev pub must_end : ℕ → LineEnd
must_end place = record { place = place; is_forced = true }

-- `a-b c)d`: behind the hyphen and the space
abbrev pub LinesEndBehindSpaces : Type 0
LinesEndBehindSpaces =
    line_ends Bytes (encode_utf8_all (0x61 ∷ 0x2D ∷ 0x62 ∷ 0x20 ∷ 0x63 ∷ 0x29 ∷ 0x64 ∷ []))
    ≡ may_end 2 ∷ may_end 4 ∷ []

-- `1-2 )`: not between a hyphen and a number, nor before a closing bracket behind a space
abbrev pub ClosingBracketsStay : Type 0
ClosingBracketsStay = line_ends Bytes (encode_utf8_all (0x31 ∷ 0x2D ∷ 0x32 ∷ 0x20 ∷ 0x29 ∷ [])) ≡ []

-- CR LF is one end, which is forced, and so is a lone CR
abbrev pub BreaksAreForced : Type 0
BreaksAreForced =
    line_ends Bytes (encode_utf8_all (0x61 ∷ 0xD ∷ 0xA ∷ 0x62 ∷ 0xD ∷ 0x63 ∷ 0xA ∷ []))
    ≡ must_end 3 ∷ must_end 5 ∷ []

-- two ideographs, an ideographic full stop and a third one: not before the full stop
abbrev pub IdeographsEndLines : Type 0
IdeographsEndLines =
    line_ends Characters (encode_utf8_all (0x6F22 ∷ 0x5B57 ∷ 0x3002 ∷ 0x6587 ∷ []))
    ≡ may_end 1 ∷ may_end 3 ∷ []
