-- The subtables of the extended kerning table. Apple's TrueType Reference Manual, "The 'kerx' table", subtable headers.
use Rattle.std.specs.Prelude.{ℕ, ◌+◌, ◌%◌, List, length, take, Bool, false, not, Result, Ok, Err, if◌then◌else◌, nat_lt, ◌==◌, bit_and}
use Rattle.aat_bytes.specs.Faults.{after, fault_at}
use Rattle.aat_bytes.specs.Numbers.{be32}
use Rattle.aat_bytes.specs.declared.error.Fault.{Fault}
use Rattle.aat_bytes.specs.declared.error.FaultKind.TheVariants.{PastEnd, ShortLength}
use Rattle.aat_bytes.specs.declared.tags.TheConstants.{KERX}
use Rattle.aat_kerning_tables.specs.declared.kerx.KerxFormat.{KerxFormat}
use Rattle.aat_kerning_tables.specs.declared.kerx.KerxSubtable.{KerxSubtable}
use Rattle.aat_read_extended.specs.kerx.Formats.{format_at, left_out_at}
use Rattle.aat_read_extended.specs.declared.kerx.formats.FormatRead.{FormatRead}
use Rattle.aat_read_extended.specs.declared.kerx.formats.FormatRead.TheVariants as formats
use Rattle.aat_read_extended.specs.declared.kerx.subtables.SubtableRead.{SubtableRead}
use Rattle.aat_read_extended.specs.declared.kerx.subtables.SubtableRead.TheVariants.{Kerns, LeftOut}

-- whether a bit of the coverage is set
abbrev pub has_coverage : List ℕ → ℕ → ℕ → Bool
has_coverage bytes place bit = not (bit_and (be32 bytes (place + 4)) bit == 0)

-- the format is the lowest byte of the coverage
abbrev pub format_of : List ℕ → ℕ → ℕ
format_of bytes place = be32 bytes (place + 4) % 256

-- how many values stand together in a tuple
abbrev pub tuple_count_of : List ℕ → ℕ → ℕ
tuple_count_of bytes place = be32 bytes (place + 8)

-- the bit of the coverage for variations
abbrev pub is_variable : List ℕ → ℕ → Bool
is_variable bytes place = has_coverage bytes place 0x20000000

-- the subtable of a header, which is not of variations: for vertical text alone, across the line, from the last glyph
-- to the first, and how many values stand together
abbrev pub subtable_of : List ℕ → ℕ → KerxFormat → KerxSubtable
subtable_of bytes place format = record {
  format = format;
  horizontal = not (has_coverage bytes place 0x80000000);
  has_cross_stream = has_coverage bytes place 0x40000000;
  variable = false;
  is_last_to_first = has_coverage bytes place 0x10000000;
  tuple_count = tuple_count_of bytes place;
}

-- where a subtable starts, and its number, from 0 on
pub record KerxStart : Type 0 where
  pub place : ℕ
  pub number : ℕ

-- a subtable that kerns, with its header, or one that is left out, with its number
abbrev pub subtable_read : List ℕ → KerxStart → FormatRead → SubtableRead
subtable_read bytes start (formats.Kerns format) = Kerns (subtable_of bytes start.place format)
subtable_read bytes start (formats.LeftOut fault) = LeftOut (record { number = start.number; fault = fault })

-- what is read, and where the next subtable starts, from where this one ends
abbrev pub read_and_next : ℕ → SubtableRead × ℕ → SubtableRead × KerxStart
read_and_next number read = (read.0, record { place = read.1; number = number + 1 })

-- where a subtable ends that starts at a place: its length counts its header of 12 bytes
unfoldable pub end_at : List ℕ → ℕ → Result ℕ Fault
end_at bytes place =
    if nat_lt (length bytes) (place + 12) then Err (fault_at KERX PastEnd place) else
    if nat_lt (be32 bytes place) 12 then Err (fault_at KERX ShortLength place) else
    if nat_lt (length bytes) (place + be32 bytes place) then Err (fault_at KERX PastEnd place) else
    Ok (place + be32 bytes place)

-- the bytes that a subtable may use of so many: up to its end, and the last one up to the end of the table
abbrev pub used_bytes : List ℕ → ℕ → ℕ → ℕ → List ℕ
used_bytes bytes count number end = if number + 1 == count then bytes else take end bytes

-- what the subtable of a number does, of so many, that starts at a place and ends at another. One of variations is left
-- out, with the place of its coverage
abbrev pub format_up_to : List ℕ → ℕ → ℕ → KerxStart → ℕ → Result FormatRead Fault
format_up_to bytes glyph_count count start end =
    if is_variable bytes start.place then left_out_at (start.place + 4) else
    format_at (used_bytes bytes count start.number end) start.place (format_of bytes start.place) glyph_count
    (tuple_count_of bytes start.place)

-- the subtable that starts there, of so many, and where the next one starts
unfoldable pub subtable_at : List ℕ → ℕ → ℕ → KerxStart → Result (SubtableRead × KerxStart) Fault
subtable_at bytes glyph_count count start =
    after (end_at bytes start.place) (λ end.
    after (format_up_to bytes glyph_count count start end) (λ format.
    Ok (read_and_next start.number (subtable_read bytes start format, end))))
