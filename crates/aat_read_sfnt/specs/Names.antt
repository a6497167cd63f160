-- Names. Apple's TrueType Reference Manual, "The 'name' table".
use Rattle.std.specs.Prelude.{ℕ, ◌+◌, ◌*◌, List, length, Bool, Option, Result, Ok, Err, if◌then◌else◌, nat_lt, ◌==◌, ◌||◌, ◌&&◌, find, option_and_then}
use Rattle.std.specs.List.{range_with_len}
use Rattle.aat_bytes.specs.Faults.{fault_at}
use Rattle.aat_bytes.specs.Numbers.{be16, slice}
use Rattle.aat_bytes.specs.declared.error.Fault.{Fault}
use Rattle.aat_bytes.specs.declared.error.FaultKind.TheVariants.{PastEnd, UnknownFormat}
use Rattle.aat_bytes.specs.declared.tags.TheConstants.{NAME}
use Rattle.aat_read_sfnt.specs.declared.name.NameKey.{NameKey}

-- the table: a header of 6 bytes, of version 0 or 1, with the number of records and the place of the texts, and 12
-- bytes for each record
unfoldable pub names_of : List ℕ → Result (List ℕ) Fault
names_of bytes =
    if nat_lt (length bytes) 6 then Err (fault_at NAME PastEnd 0) else
    if (be16 bytes 0 == 0) || (be16 bytes 0 == 1) then
    (if nat_lt (length bytes) (6 + 12 * be16 bytes 2) then Err (fault_at NAME PastEnd 6) else Ok bytes)
    else Err (fault_at NAME UnknownFormat 0)

-- whether two numbers of 16 bits stand at a place
unfoldable pub has_pair : List ℕ → ℕ → ℕ → ℕ → Bool
has_pair bytes place first second = (be16 bytes place == first) && (be16 bytes (place + 2) == second)

-- whether a record has a key: platform, encoding, language and name
unfoldable pub has_key : List ℕ → NameKey → ℕ → Bool
has_key bytes key i =
    has_pair bytes (6 + 12 * i) key.platform key.encoding && has_pair bytes (10 + 12 * i) key.language key.name

-- the first record that has a key, in the order of the file
abbrev pub name_record : List ℕ → NameKey → Option ℕ
name_record bytes key = find (has_key bytes key) (range_with_len 0 (be16 bytes 2))

-- the text of a record: its length, and its offset from the start of the texts. One that reaches past the end of the
-- table is missing, and the other names stand
abbrev pub text_of_record : List ℕ → ℕ → Option (List ℕ)
text_of_record bytes i = slice bytes (be16 bytes 4 + be16 bytes (16 + 12 * i)) (be16 bytes (14 + 12 * i))

-- the text of a key
abbrev pub text_of : List ℕ → NameKey → Option (List ℕ)
text_of bytes key = option_and_then (text_of_record bytes) (name_record bytes key)
