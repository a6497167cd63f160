-- Format 4 of the character map: segments of 16 bits. Apple's TrueType Reference Manual, "The 'cmap' table", format 4.
use Rattle.std.specs.Prelude.{◌≤◌, ℕ, ◌+◌, ◌*◌, ◌-◌, ◌/◌, ◌%◌, List, length, min, take, Option, Some, None, Result, Ok, Err, if◌then◌else◌, nat_lt, ◌==◌, option_and_then}
use Rattle.aat_bytes.specs.Bisection.{bisect}
use Rattle.aat_bytes.specs.Faults.{fault_at}
use Rattle.aat_bytes.specs.Numbers.{be16, u16_at}
use Rattle.aat_bytes.specs.declared.error.Fault.{Fault}
use Rattle.aat_bytes.specs.declared.error.FaultKind.TheVariants.{PastEnd, ShortLength}
use Rattle.aat_bytes.specs.declared.tags.TheConstants.{CMAP}

-- the number of segments, of which the subtable has twice the number
abbrev pub segment_count : List ℕ → ℕ
segment_count bytes = be16 bytes 6 / 2

-- four lists follow: last characters, and behind a number that is not used first characters, deltas and offsets
abbrev pub end_code : List ℕ → ℕ → ℕ
end_code bytes i = be16 bytes (14 + 2 * i)

abbrev pub start_code : List ℕ → ℕ → ℕ
start_code bytes i = be16 bytes (16 + 2 * (segment_count bytes + i))

abbrev pub id_delta : List ℕ → ℕ → ℕ
id_delta bytes i = be16 bytes (16 + 2 * (2 * segment_count bytes + i))

abbrev pub id_range_offset_place : List ℕ → ℕ → ℕ
id_range_offset_place bytes i = 16 + 2 * (3 * segment_count bytes + i)

abbrev pub id_range_offset : List ℕ → ℕ → ℕ
id_range_offset bytes i = be16 bytes (id_range_offset_place bytes i)

-- the lists stand inside
abbrev pub AreSegments : List ℕ → Type 0
AreSegments bytes = 16 + 8 * segment_count bytes ≤ length bytes

-- the subtable if its lists stand inside of its length, whose place is the third byte
abbrev pub with_lists : List ℕ → ℕ → Result (List ℕ) Fault
with_lists bytes place =
    if nat_lt (length bytes) (16 + 8 * segment_count bytes) then Err (fault_at CMAP ShortLength (place + 2)) else Ok bytes

-- the subtable at the start of bytes, which stand at a place of the table. A length that reaches past the end of the
-- table is cut there, as HarfBuzz does for fonts in use
unfoldable pub segments_at : List ℕ → ℕ → Result (List ℕ) Fault
segments_at bytes place =
    if nat_lt (length bytes) 14 then Err (fault_at CMAP PastEnd place) else with_lists (take (be16 bytes 2) bytes) place

-- the first character of a segment, or the one behind its last one, if that is lower: a bisection looks at the last
-- character first, and goes on below a segment that ends before it starts for the characters up to its end
abbrev pub lowest_code : List ℕ → ℕ → ℕ
lowest_code bytes i = min (start_code bytes i) (end_code bytes i + 1)

-- the segment of a character: the one that a bisection finds, whether segments rise or not, as in HarfBuzz
abbrev pub segment_of : List ℕ → ℕ → Option ℕ
segment_of bytes character =
    bisect (lowest_code bytes) (end_code bytes) (segment_count bytes) 0 (segment_count bytes) character

-- glyph 0 stands for a character that the font does not have
abbrev pub present : ℕ → Option ℕ
present glyph = if glyph == 0 then None else Some glyph

-- a number with the delta of a segment, in 16 bits
abbrev pub with_delta : List ℕ → ℕ → ℕ → Option ℕ
with_delta bytes i number = present ((number + id_delta bytes i) % 65536)

-- the place of a character's number behind the four lists: the offset counts from its own place. An odd one is taken as
-- the even one below it, as HarfBuzz does
abbrev pub listed_place : List ℕ → ℕ → ℕ → ℕ
listed_place bytes i character =
    id_range_offset_place bytes i + 2 * (id_range_offset bytes i / 2) + 2 * (character - start_code bytes i)

-- the number there, if it stands behind the lists and inside of the subtable, and is not 0
abbrev pub listed_number : List ℕ → ℕ → Option ℕ
listed_number bytes place =
    if nat_lt place (16 + 8 * segment_count bytes) then None else option_and_then present (u16_at bytes place)

-- the glyph of a character in a segment that has it
unfoldable pub glyph_in_segment : List ℕ → ℕ → ℕ → Option ℕ
glyph_in_segment bytes character i =
    if id_range_offset bytes i == 0 then with_delta bytes i character else
    option_and_then (with_delta bytes i) (listed_number bytes (listed_place bytes i character))

-- the glyph of a character: those above 0xFFFF have none here
abbrev pub segment_glyph : List ℕ → ℕ → Option ℕ
segment_glyph bytes character =
    if nat_lt 65535 character then None else
    option_and_then (glyph_in_segment bytes character) (segment_of bytes character)
