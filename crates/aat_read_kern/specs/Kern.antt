-- The kerning table. Apple's TrueType Reference Manual, "The 'kern' table".
use Rattle.std.specs.Prelude.{ℕ, ◌+◌, ◌-◌, List, Vec, length, take, Bool, false, not, Option, Some, None, Result, Ok, Err, if◌then◌else◌, nat_lt, ◌==◌, ◌||◌, slice_index, bit_and}
use Rattle.std.specs.List.{filter_map}
use Rattle.aat_bytes.specs.Faults.{after, fault_at}
use Rattle.aat_bytes.specs.Numbers.{be16, be32}
use Rattle.aat_bytes.specs.declared.error.Fault.{Fault}
use Rattle.aat_bytes.specs.declared.error.FaultKind.TheVariants.{PastEnd, ShortLength, UnknownFormat}
use Rattle.aat_bytes.specs.declared.tags.TheConstants.{KERN}
use Rattle.aat_kerning_tables.specs.declared.kern.KernKind.{KernKind}
use Rattle.aat_kerning_tables.specs.declared.kern.KernKind.TheVariants.{Classes, Machine, Pairs}
use Rattle.aat_kerning_tables.specs.declared.kern.KernSubtable.{KernSubtable}
use Rattle.aat_read_kern.specs.KernMachines.{kern_machine_at}
use Rattle.aat_read_kern.specs.declared.header.KernHeader.{KernHeader}
use Rattle.aat_read_kern.specs.declared.header.KernList.{KernList}
use Rattle.aat_read_kern.specs.declared.header.KernHeader.TheVariants.{Apple, OpenType}
use Rattle.aat_read_pairs.specs.declared.left_out.LeftOutSubtable.{LeftOutSubtable}
use Rattle.aat_read_kern.specs.declared.subtables.SubtableRead.{SubtableRead}
use Rattle.aat_read_kern.specs.declared.subtables.SubtableRead.TheVariants.{Kerns, LeftOut}
use Rattle.aat_read_machine.specs.InTurn.{in_turn}
use Rattle.aat_read_pairs.specs.KernClasses.{kern_classes_at}
use Rattle.aat_read_pairs.specs.KernIndexes.{kern_indexes_at}
use Rattle.aat_read_pairs.specs.ListedPairs.{kern_pairs_at}

-- how many bytes the header of a subtable has: Apple's has a length of 32 bits, coverage, format and a number that is
-- passed, that of OpenType a version, a length of 16 bits, format and coverage
abbrev pub header_size : KernHeader → ℕ
header_size Apple = 8
header_size OpenType = 6

-- where the length of a subtable stands
abbrev pub length_place : KernHeader → ℕ → ℕ
length_place Apple place = place
length_place OpenType place = place + 2

-- the length of a subtable, which counts its header
abbrev pub length_at : List ℕ → KernHeader → ℕ → ℕ
length_at bytes Apple place = be32 bytes place
length_at bytes OpenType place = be16 bytes (place + 2)

-- the format of a subtable
abbrev pub format_at : List ℕ → KernHeader → ℕ → ℕ
format_at bytes Apple place = slice_index bytes (place + 5)
format_at bytes OpenType place = slice_index bytes (place + 4)

-- where the format of a subtable stands
abbrev pub format_place : KernHeader → ℕ → ℕ
format_place Apple place = place + 5
format_place OpenType place = place + 4

-- the coverage of a subtable
abbrev pub coverage_at : List ℕ → KernHeader → ℕ → ℕ
coverage_at bytes Apple place = slice_index bytes (place + 4)
coverage_at bytes OpenType place = slice_index bytes (place + 5)

-- whether a subtable is for horizontal text: Apple's bit 0x80 is for vertical text, that of OpenType, 0x01, for
-- horizontal text
abbrev pub is_horizontal : KernHeader → ℕ → Bool
is_horizontal Apple coverage = bit_and coverage 128 == 0
is_horizontal OpenType coverage = not (bit_and coverage 1 == 0)

-- whether its values move glyphs across the line: 0x40 and 0x04
abbrev pub is_cross_stream : KernHeader → ℕ → Bool
is_cross_stream Apple coverage = not (bit_and coverage 64 == 0)
is_cross_stream OpenType coverage = not (bit_and coverage 4 == 0)

-- whether its values are those of variations: 0x20, which OpenType does not have
abbrev pub is_variable : KernHeader → ℕ → Bool
is_variable Apple coverage = not (bit_and coverage 32 == 0)
is_variable OpenType coverage = false

-- what comes of what a format has
abbrev pub as_kind : {X : Type 0} → (X → KernKind) → Result X Fault → Result KernKind Fault
as_kind kind read = after read (λ x. Ok (kind x))

-- the formats that are read with a header: 0 and 2, and with Apple's 1 and 3
abbrev pub is_read : KernHeader → ℕ → Bool
is_read Apple format = nat_lt format 4
is_read OpenType format = (format == 0) || (format == 2)

-- the place of what leaves a subtable out: a format that is not read, or else the coverage of variations, which stands
-- at 4 of Apple's header
abbrev pub unread_place : List ℕ → KernHeader → ℕ → Option ℕ
unread_place bytes header place =
    if not (is_read header (format_at bytes header place)) then Some (format_place header place) else
    if is_variable header (coverage_at bytes header place) then Some (place + 4) else None

-- how the subtable at a place kerns, by its format of those that are read
unfoldable pub kern_kind_at : List ℕ → KernHeader → ℕ → ℕ → Result KernKind Fault
kern_kind_at bytes header place format =
    let behind = place + header_size header in
    if format == 0 then as_kind Pairs (kern_pairs_at bytes behind) else
    if format == 1 then as_kind Machine (kern_machine_at bytes behind) else
    if format == 2 then as_kind Classes (kern_classes_at bytes place behind) else
    as_kind Classes (kern_indexes_at bytes behind)

-- where a subtable starts, and how many there are from it on
pub record KernStart : Type 0 where
  pub place : ℕ
  pub left : ℕ

-- where a subtable ends. The last one reaches to the end of the table, but its length counts too, as for HarfBuzz
unfoldable pub end_at : List ℕ → KernHeader → KernStart → Result ℕ Fault
end_at bytes header start =
    let size = length_at bytes header start.place in
    let field = length_place header start.place in
    if nat_lt (length bytes) (start.place + header_size header) then Err (fault_at KERN PastEnd start.place) else
    if nat_lt size (header_size header) then Err (fault_at KERN ShortLength field) else
    if nat_lt (length bytes) (start.place + size) then Err (fault_at KERN PastEnd field) else
    Ok (if start.left == 1 then length bytes else start.place + size)

-- a subtable of a coverage, which is not of variations
abbrev pub with_coverage : KernHeader → ℕ → KernKind → KernSubtable
with_coverage header coverage kind = record {
  kind = kind;
  horizontal = is_horizontal header coverage;
  has_cross_stream = is_cross_stream header coverage;
  variable = false;
}

-- the subtable of a header
abbrev pub subtable_of : List ℕ → KernHeader → ℕ → KernKind → KernSubtable
subtable_of bytes header place kind = with_coverage header (coverage_at bytes header place) kind

-- the subtable from which on there are so many, as one that is left out, with its number, from 0 on, and the place of
-- what leaves it out
abbrev pub left_out_at : KernList → ℕ → ℕ → LeftOutSubtable
left_out_at list left at = record {
  number = list.count - left;
  fault = fault_at KERN UnknownFormat at;
}

-- what the subtable of a list is read as that starts there and reaches to its end. One of a format that is not read, or
-- of variations, is left out
unfoldable pub read_up_to : List ℕ → KernList → KernStart → ℕ → Result SubtableRead Fault
read_up_to bytes list start end = elim (unread_place bytes list.header start.place) [
  | None ↦
      after (kern_kind_at (take end bytes) list.header start.place (format_at bytes list.header start.place)) (λ kind.
      Ok (Kerns (subtable_of bytes list.header start.place kind)))
  | Some at ↦ Ok (LeftOut (left_out_at list start.left at))
]

-- what is read, and where the next subtable starts, from where this one ends
abbrev pub read_and_next : ℕ → SubtableRead × ℕ → SubtableRead × KernStart
read_and_next left read = (read.0, record { place = read.1; left = left - 1 })

-- the subtable of a list that starts there, and where the next one starts
unfoldable pub subtable_at : List ℕ → KernList → KernStart → Result (SubtableRead × KernStart) Fault
subtable_at bytes list start =
    after (end_at bytes list.header start) (λ end.
    after (read_up_to bytes list start end) (λ read.
    Ok (read_and_next start.left (read, end))))

-- where the subtables of a table start
abbrev pub first_start : KernList → KernStart
first_start list = record { place = list.place; left = list.count }

-- the subtables of a table of Apple's version, which has no more than 65,535
abbrev pub apples_list_of : List ℕ → Result KernList Fault
apples_list_of bytes =
    if nat_lt (length bytes) 8 then Err (fault_at KERN PastEnd 0) else
    if nat_lt 65535 (be32 bytes 4) then Err (fault_at KERN PastEnd 4) else
    Ok (record { header = Apple; place = 8; count = be32 bytes 4 })

-- the subtables of a table: version 0 is that of OpenType, and version 1 Apple's
unfoldable pub list_of : List ℕ → Result KernList Fault
list_of bytes =
    if nat_lt (length bytes) 4 then Err (fault_at KERN PastEnd 0) else
    if be16 bytes 0 == 0 then Ok (record { header = OpenType; place = 4; count = be16 bytes 2 }) else
    if be16 bytes 0 == 1 then apples_list_of bytes else Err (fault_at KERN UnknownFormat 0)

-- the subtables of a table that kern, and those that are left out, each in their order
pub record KernValue : Type 0 where
  pub subtables : List KernSubtable
  pub left_out : List LeftOutSubtable

-- what a subtable that kerns is read as
abbrev pub as_kerning : KernSubtable → SubtableRead
as_kerning subtable = Kerns subtable

-- a subtable that kerns
abbrev pub kerning_of : SubtableRead → Option KernSubtable
kerning_of (Kerns subtable) = Some subtable
kerning_of (LeftOut subtable) = None

-- a subtable that is left out
abbrev pub left_out_of : SubtableRead → Option LeftOutSubtable
left_out_of (Kerns subtable) = None
left_out_of (LeftOut subtable) = Some subtable

-- the table of what is read
abbrev pub kern_value : List SubtableRead → KernValue
kern_value subtables =
    record { subtables = filter_map kerning_of subtables; left_out = filter_map left_out_of subtables }

-- the subtables of a list, one behind the other, or the first fault
abbrev pub subtables_of : List ℕ → KernList → Result (List SubtableRead) Fault
subtables_of bytes list = in_turn (subtable_at bytes list) list.count (first_start list)

-- the table of the subtables of a list, or the first fault
abbrev pub value_of_subtables : List ℕ → KernList → Result KernValue Fault
value_of_subtables bytes list = after (subtables_of bytes list) (λ subtables. Ok (kern_value subtables))

-- the table of subtables that stand in vectors
abbrev pub value_of_parts : {Y Z : Type 0} → Vec KernSubtable Y × Vec LeftOutSubtable Z → KernValue
value_of_parts parts = record { subtables = parts.0.items; left_out = parts.1.items }

-- the table, or its first fault
abbrev pub kern_of : List ℕ → Result KernValue Fault
kern_of bytes = after (list_of bytes) (value_of_subtables bytes)
