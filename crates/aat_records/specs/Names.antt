-- Texts of names.
use Rattle.std.specs.Prelude.{◌≡◌, ℕ, nat_lt, List, [], ◌∷◌, map, Option, Some, None, Result, Ok, Err, encode_utf8_all, if◌then◌else◌}
use Rattle.std.specs.Char.Utf16.{utf16_lossy_chars}
use Rattle.std.specs.Int.{w16, from_be_bytes}
use Rattle.aat_face.specs.English.{Text}
use Rattle.aat_face.specs.declared.encoding.NameEncoding.{NameEncoding}
use Rattle.aat_face.specs.declared.encoding.NameEncoding.TheVariants.{Utf16, MacRoman}
use Rattle.aat_records.specs.Records.{IsPut}
use Rattle.aat_records.specs.declared.failure.Failure.{Failure}
use Rattle.aat_records.specs.declared.failure.Failure.TheVariants.{NotThere, OutOfMemory}

-- the units of 16 bits of bytes, the high byte first; a last byte alone goes
abbrev pub units_of : List ℕ → List ℕ
units_of [] = []
units_of (alone ∷ []) = []
units_of (high ∷ low ∷ rest) = from_be_bytes w16 (high ∷ low ∷ []) ∷ units_of rest

-- the character of a byte of ASCII, and U+FFFD of others
abbrev pub ascii_character : ℕ → ℕ
ascii_character byte = if nat_lt byte 128 then byte else 0xFFFD

-- the characters of bytes in an encoding, with U+FFFD for what is none
abbrev pub characters_in : NameEncoding → List ℕ → List ℕ
characters_in Utf16 bytes = utf16_lossy_chars (units_of bytes)
characters_in MacRoman bytes = map ascii_character bytes

-- a name in UTF-8
abbrev pub name_in_utf8 : Text → List ℕ
name_in_utf8 name = encode_utf8_all (characters_in name.encoding name.bytes)

-- what is found by a number of 16 bits; others find nothing
abbrev pub by_short : {X : Type 0} → ℕ → (ℕ → Option X) → Option X
by_short number find = if nat_lt number 65536 then find number else None

-- how a name is put into room: all of its text counts; or memory is wanting, or there is no such name, and room stays
abbrev pub PutsName : Option Text → List ℕ → List ℕ → Result ℕ Failure → Type 0
PutsName None room put outcome = (outcome ≡ Err NotThere) × (put ≡ room)
PutsName (Some name) room put (Ok count) = IsPut (name_in_utf8 name) room put count
PutsName (Some name) room put (Err failure) = (failure ≡ OutOfMemory) × (put ≡ room)
