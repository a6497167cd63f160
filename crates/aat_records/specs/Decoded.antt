-- Texts in other encodings than UTF-8.
use Rattle.std.specs.Prelude.{◌≡◌, ℕ, ◌+◌, ◌==◌, Bool, false, true, not, ◌&&◌, ◌||◌, nat_lt, List, [], ◌∷◌, count_by, take, encode_utf8_all, if◌then◌else◌}
use Rattle.std.specs.Char.Utf16.{has_unpaired_surrogate, is_low_surrogate, utf16_lossy_chars}
use Rattle.std.specs.List.{list_all}
use Rattle.aat_records.specs.Places.{place_at}
use Rattle.aat_records.specs.declared.failure.Failure.{Failure}
use Rattle.aat_records.specs.declared.failure.Failure.TheVariants.{BadText, OutOfMemory}
use Rattle.aat_records.specs.declared.records.FeatureRecord.{FeatureRecord}

-- the characters of units of 16 bits, in UTF-8
abbrev pub utf8_of_units : List ℕ → List ℕ
utf8_of_units units = encode_utf8_all (utf16_lossy_chars units)

-- a character begins at each unit but the second ones of pairs
abbrev pub begins : ℕ → Bool
begins unit = not (is_low_surrogate unit)

-- a place of 32 bits: the greatest one for those above, which no text that is shaped has
abbrev pub short_place : ℕ → ℕ
short_place place = if nat_lt place 0xFFFFFFFF then place else 0xFFFFFFFF

-- the places of the units at which characters begin, where the first unit has this place
abbrev pub places_from : ℕ → List ℕ → List ℕ
places_from place [] = []
places_from place (unit ∷ units) =
    if begins unit then short_place place ∷ places_from (place + 1) units else places_from (place + 1) units

-- the places of the units at which characters begin
abbrev pub places_in : List ℕ → List ℕ
places_in units = places_from 0 units

-- the place of the unit at which the character with a number begins
abbrev pub unit_of : List ℕ → ℕ → ℕ
unit_of units = place_at (places_in units)

-- how many characters begin before a unit
abbrev pub count_before : List ℕ → ℕ → ℕ
count_before units unit = count_by begins (take unit units)

-- the end of a range of characters, of one of units, whose greatest number is no end
abbrev pub end_before : List ℕ → ℕ → ℕ
end_before units unit = if unit == 0xFFFFFFFF then unit else count_before units unit

-- a feature over units as one over characters
abbrev pub over_characters : List ℕ → FeatureRecord → FeatureRecord
over_characters units f = record {
  tag = f.tag;
  value = f.value;
  start = count_before units f.start;
  end = end_before units f.end;
}

-- whether a number is that of a character: at most 0x10FFFF, and of no surrogate
abbrev pub is_character : ℕ → Bool
is_character number = nat_lt number 0xD800 || nat_lt 0xDFFF number && nat_lt number 0x110000

-- each number is that of a character
abbrev pub is_utf32 : List ℕ → Bool
is_utf32 = list_all is_character

-- why a text is not read: this, where it is none of its encoding, and memory that is wanting
abbrev pub RefusesText : Type 0 → Failure → Type 0
RefusesText bad BadText = bad
RefusesText bad OutOfMemory = Unit {0}
RefusesText bad _ = ⊥

-- units are no text where a surrogate has no partner
abbrev pub RefusesUtf16 : List ℕ → Failure → Type 0
RefusesUtf16 units = RefusesText (has_unpaired_surrogate units ≡ true)

-- numbers are no text where one is none of a character
abbrev pub RefusesUtf32 : List ℕ → Failure → Type 0
RefusesUtf32 characters = RefusesText (is_utf32 characters ≡ false)
