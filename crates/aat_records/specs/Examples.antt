-- Worked examples of what crosses to C.
use Rattle.std.specs.Prelude.{◌≡◌, ℕ, true, false, List, [], ◌∷◌, map, codes, Some, None, Ok, Err}
use Rattle.std.specs.Char.Utf16.{has_unpaired_surrogate, utf16_lossy_chars}
use Rattle.aat_face.specs.declared.encoding.NameEncoding.TheVariants.{Utf16, MacRoman}
use Rattle.aat_glyph.specs.declared.glyph.Direction.TheVariants.{LeftToRight, RightToLeft, TopToBottom, BottomToTop}
use Rattle.aat_text.specs.declared.clusters.ClusterLevel.TheVariants.{Graphemes, Characters}
use Rattle.aat_records.specs.Decoded.{is_utf32, over_characters, unit_of}
use Rattle.aat_records.specs.Failures.{number_of_failure, number_of_outcome}
use Rattle.aat_records.specs.Names.{characters_in}
use Rattle.aat_records.specs.Options.{direction_told, level_told, size_told}
use Rattle.aat_records.specs.Records.{flag, is_flagged}
use Rattle.aat_records.specs.Texts.{text_of_fault, text_of_status}
use Rattle.aat_records.specs.declared.failure.Failure.TheVariants.{NoFont, OutOfMemory, BadFont, BadText, TextTooLong, AlternateTooLarge, LineTooLong, BadFeature, BadOption, NotThere}
use Rattle.aat_records.specs.declared.records.FeatureRecord.{FeatureRecord}

-- a call that answers ends as 0, and the failures have the numbers from 1 to 10, those of `aat_status_t`
abbrev pub FailuresAreNumbered : Type 0
FailuresAreNumbered =
    (number_of_outcome {X = ℕ} (Ok 7) ≡ 0)
    × (map number_of_failure (NoFont ∷ OutOfMemory ∷ BadFont ∷ BadText ∷ TextTooLong ∷ []) ≡ 1 ∷ 2 ∷ 3 ∷ 4 ∷ 5 ∷ [])
    × (map number_of_failure (AlternateTooLarge ∷ LineTooLong ∷ BadFeature ∷ BadOption ∷ NotThere ∷ [])
    ≡ 6 ∷ 7 ∷ 8 ∷ 9 ∷ 10 ∷ [])

-- a text of a status, one of a fault, and none of other numbers
abbrev pub TextsAreTold : Type 0
TextsAreTold =
    (text_of_status 2 ≡ codes "out of memory") × (text_of_status 11 ≡ [])
    × (text_of_fault 4 ≡ codes "is missing") × (text_of_fault 0 ≡ [])

-- directions have HarfBuzz's numbers, 4 to 7, and levels are 0 and 1
abbrev pub DirectionsAreHarfBuzzs : Type 0
DirectionsAreHarfBuzzs =
    (map direction_told (0 ∷ 4 ∷ 5 ∷ 6 ∷ 7 ∷ [])
    ≡ Ok None ∷ Ok (Some LeftToRight) ∷ Ok (Some RightToLeft) ∷ Ok (Some TopToBottom) ∷ Ok (Some BottomToTop) ∷ [])
    × (map direction_told (3 ∷ 8 ∷ []) ≡ Err BadOption ∷ Err BadOption ∷ [])
    × (map level_told (0 ∷ 1 ∷ 2 ∷ []) ≡ Ok Graphemes ∷ Ok Characters ∷ Err BadOption ∷ [])

-- no size, 12 points, and the size that tracks nothing
abbrev pub SizesAreTold : Type 0
SizesAreTold = map size_told (0 ∷ 786432 ∷ 0xFFFFFFFF ∷ []) ≡ None ∷ Some 786432 ∷ Some 0 ∷ []

-- a flag is its number or 0, and a flag that is set is found among others
abbrev pub FlagsAreBits : Type 0
FlagsAreBits =
    (flag 4 true ≡ 4) × (flag 4 false ≡ 0)
    × (is_flagged 1 3 ≡ true) × (is_flagged 2 3 ≡ true) × (is_flagged 2 1 ≡ false)

-- a letter, the pair of U+1F600, and a letter
abbrev pub pair_text : List ℕ
pair_text = 0x41 ∷ 0xD83D ∷ 0xDE00 ∷ 0x42 ∷ []

-- a feature over places
abbrev pub feature_over : ℕ → ℕ → FeatureRecord
feature_over start end = record { tag = 1; value = 1; start = start; end = end }

-- the pair is one character, at unit 1, and the letter behind it begins at unit 3; a feature over the pair is over that
-- character, and one without end keeps none; half a pair is no text
abbrev pub PairsAreCharacters : Type 0
PairsAreCharacters =
    (utf16_lossy_chars pair_text ≡ 0x41 ∷ 0x1F600 ∷ 0x42 ∷ [])
    × (map (unit_of pair_text) (0 ∷ 1 ∷ 2 ∷ []) ≡ 0 ∷ 1 ∷ 3 ∷ [])
    × (over_characters pair_text (feature_over 1 3) ≡ feature_over 1 2)
    × (over_characters pair_text (feature_over 3 0xFFFFFFFF) ≡ feature_over 2 0xFFFFFFFF)
    × (has_unpaired_surrogate pair_text ≡ false) × (has_unpaired_surrogate (0xD83D ∷ []) ≡ true)
    × (is_utf32 (0x41 ∷ 0x1F600 ∷ []) ≡ true) × (is_utf32 (0xD83D ∷ []) ≡ false)

-- of UTF-16 a last byte alone goes, and of Mac Roman a byte that is none of ASCII is U+FFFD
abbrev pub NamesAreRead : Type 0
NamesAreRead =
    (characters_in Utf16 (0 ∷ 0x41 ∷ 0x20 ∷ 0xAC ∷ 0x42 ∷ []) ≡ 0x41 ∷ 0x20AC ∷ [])
    × (characters_in MacRoman (0x41 ∷ 0x80 ∷ []) ≡ 0x41 ∷ 0xFFFD ∷ [])
