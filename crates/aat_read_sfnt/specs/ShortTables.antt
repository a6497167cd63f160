-- Formats 0 and 6 of the character map. Apple's TrueType Reference Manual, "The 'cmap' table", formats 0 and 6.
use Rattle.std.specs.Prelude.{ℕ, ◌+◌, ◌*◌, ◌-◌, List, length, Option, None, Result, Ok, Err, if◌then◌else◌, nat_lt, nat_le, ◌||◌, slice_index}
use Rattle.aat_bytes.specs.Faults.{fault_at}
use Rattle.aat_bytes.specs.Numbers.{be16}
use Rattle.aat_bytes.specs.declared.error.Fault.{Fault}
use Rattle.aat_bytes.specs.declared.error.FaultKind.TheVariants.{PastEnd}
use Rattle.aat_bytes.specs.declared.tags.TheConstants.{CMAP}
use Rattle.aat_read_sfnt.specs.SegmentMapping.{present}

-- format 0: a header of 6 bytes, and one byte for each of 256 characters
unfoldable pub byte_encoding_at : List ℕ → ℕ → Result (List ℕ) Fault
byte_encoding_at bytes place = if nat_lt (length bytes) 262 then Err (fault_at CMAP PastEnd place) else Ok bytes

-- the glyph of a character of format 0
abbrev pub byte_glyph : List ℕ → ℕ → Option ℕ
byte_glyph bytes character = if nat_lt character 256 then present (slice_index bytes (6 + character)) else None

-- format 6: a header of 10 bytes with the first character and the number of characters, and 16 bits for each of them
unfoldable pub trimmed_table_at : List ℕ → ℕ → Result (List ℕ) Fault
trimmed_table_at bytes place =
    if nat_lt (length bytes) 10 then Err (fault_at CMAP PastEnd place) else
    if nat_lt (length bytes) (10 + 2 * be16 bytes 8) then Err (fault_at CMAP PastEnd (place + 10)) else Ok bytes

-- the glyph of a character of format 6
abbrev pub trimmed_glyph : List ℕ → ℕ → Option ℕ
trimmed_glyph bytes character =
    if nat_lt character (be16 bytes 6) || nat_le (be16 bytes 6 + be16 bytes 8) character then None else
    present (be16 bytes (10 + 2 * (character - be16 bytes 6)))
