-- How the values of a lookup stand in the table, and its first fault. Values have 16 bits or 32. Apple's TrueType
-- Reference Manual, "Font Tables", section on lookup tables.
use Rattle.std.specs.Prelude.{ℕ, ◌+◌, ◌*◌, ◌-◌, ◌/◌, List, [], ◌∷◌, length, map, Bool, true, false, Option, Some, None, Result, Ok, Err, if◌then◌else◌, nat_lt, ◌==◌, ◌&&◌, min}
use Rattle.std.specs.List.{range_with_len, sum_by}
use Rattle.aat_bytes.specs.Bisection.{keys_found}
use Rattle.aat_bytes.specs.Faults.{after, fault_at}
use Rattle.aat_bytes.specs.Numbers.{be16}
use Rattle.aat_bytes.specs.declared.error.Fault.{Fault}
use Rattle.aat_bytes.specs.declared.error.FaultKind.TheVariants.{PastEnd, UnknownFormat, ShortLength, NotRising}
use Rattle.aat_bytes.specs.declared.tag.Tag.{Tag}
use Rattle.aat_read_lookup.specs.Segments.{end_of, is_long, numbers_size, part_of, values_end, values_place}
use Rattle.aat_read_lookup.specs.declared.layout.Layout.{Layout}
use Rattle.aat_read_lookup.specs.declared.layout.Layout.TheVariants.{Array, Searched}
use Rattle.aat_read_lookup.specs.declared.segment.Segment.{Segment}
use Rattle.aat_read_lookup.specs.declared.segment.ValueKind.{ValueKind}
use Rattle.aat_read_lookup.specs.declared.segment.ValueKind.TheVariants.{Word, Long}
use Rattle.aat_read_lookup.specs.declared.segment.Values.TheVariants.{Shared, Each, Bytes}
use Rattle.aat_read_lookup.specs.declared.units.UnitKind.{UnitKind}
use Rattle.aat_read_lookup.specs.declared.units.UnitKind.TheVariants.{SegmentSingle, SegmentArray, Single}
use Rattle.aat_read_lookup.specs.declared.units.Units.{Units}

-- how many bytes the record of a unit has; a unit may be wider
abbrev pub record_size : UnitKind → ValueKind → ℕ
record_size SegmentSingle kind = 4 + numbers_size kind 1
record_size SegmentArray kind = 6
record_size Single kind = 2 + numbers_size kind 1

-- the segment of the unit at a place: formats 2 and 4 have the last glyph, the first glyph, and the value or the offset
-- of the values from the start of the lookup; format 6 has a glyph and its value
abbrev pub segment_at : List ℕ → UnitKind → ValueKind → ℕ → ℕ → Segment
segment_at bytes SegmentSingle kind start at = record {
  first = be16 bytes (at + 2);
  count = be16 bytes at + 1 - be16 bytes (at + 2);
  values = Shared kind (at + 4);
}
segment_at bytes SegmentArray kind start at = record {
  first = be16 bytes (at + 2);
  count = be16 bytes at + 1 - be16 bytes (at + 2);
  values = Each kind (start + be16 bytes (at + 4));
}
segment_at bytes Single kind start at = record { first = be16 bytes at; count = 1; values = Shared kind (at + 2) }

-- the place of a unit: they stand behind a header of 12 bytes
abbrev pub unit_place : Units → ℕ → ℕ
unit_place units i = units.start + 12 + units.size * i

-- all glyphs of a unit, with their values
abbrev pub unit_at : List ℕ → Units → ℕ → Segment
unit_at bytes units i = segment_at bytes units.kind units.values units.start (unit_place units i)

-- the glyphs by which a bisection finds a unit, from the first one up to the one behind the last: in a table whose units
-- rise all glyphs of the unit. HarfBuzz bisects units whether they rise or not
abbrev pub glyphs_found : List ℕ → Units → ℕ → ℕ × ℕ
glyphs_found bytes units i =
    keys_found (λ j. (unit_at bytes units j).first) (λ j. end_of (unit_at bytes units j)) units.count 0 units.count 0 65536 i

-- the segment of a unit: those of its glyphs by which it is found
abbrev pub segment_of : List ℕ → Units → ℕ → Segment
segment_of bytes units i = part_of (unit_at bytes units i) (glyphs_found bytes units i)

-- the segments of units, in the order of the file
abbrev pub unit_segments : List ℕ → Units → List Segment
unit_segments bytes units = map (segment_of bytes units) (range_with_len 0 units.count)

-- the number of glyphs of units by which they are found
abbrev pub glyphs_of : List ℕ → Units → ℕ
glyphs_of bytes units = sum_by (λ segment. segment.count) (unit_segments bytes units)

-- the number of all glyphs of units
abbrev pub named_glyphs : List ℕ → Units → ℕ
named_glyphs bytes units = sum_by (λ unit. unit.count) (map (unit_at bytes units) (range_with_len 0 units.count))

-- whether the terminator stands at a place: 0xFFFF twice in formats 2 and 4, once in format 6, as HarfBuzz takes it
abbrev pub is_terminator : List ℕ → UnitKind → ℕ → Bool
is_terminator bytes SegmentSingle at = (be16 bytes at == 65535) && (be16 bytes (at + 2) == 65535)
is_terminator bytes SegmentArray at = (be16 bytes at == 65535) && (be16 bytes (at + 2) == 65535)
is_terminator bytes Single at = be16 bytes at == 65535

-- the units without the terminator, which may be counted among them as the last one
abbrev pub without_terminator : List ℕ → Units → Units
without_terminator bytes units =
    if units.count == 0 then units else
    if is_terminator bytes units.kind (unit_place units (units.count - 1)) then
    record units { count = units.count - 1 } else
    units

-- the units of a header: the size of a unit and the number of units; three numbers behind them are not believed
unfoldable pub units_at : Tag → List ℕ → ℕ → UnitKind → ValueKind → Result Units Fault
units_at table bytes place unit kind =
    let size = be16 bytes (place + 2) in
    let count = be16 bytes (place + 4) in
    if nat_lt (length bytes) (place + 12) then Err (fault_at table PastEnd place) else
    if nat_lt size (record_size unit kind) then Err (fault_at table ShortLength (place + 2)) else
    if nat_lt (length bytes) (place + 12 + size * count) then
    Err (fault_at table PastEnd (place + 12 + size * ((length bytes - (place + 12)) / size))) else
    Ok (without_terminator bytes (record { kind = unit; values = kind; start = place; size = size; count = count }))

-- whether a unit has the offset of its values, which other units may have too: in format 4
abbrev pub has_offset : UnitKind → Bool
has_offset SegmentSingle = false
has_offset SegmentArray = true
has_offset Single = false

-- the fault of a unit at a place, whether a bisection finds it or not: of format 4 one that has no glyph, and values past
-- the end. For these HarfBuzz drops the table
abbrev pub unit_fault_at : Tag → List ℕ → UnitKind → ℕ → Segment → Option Fault
unit_fault_at table bytes kind place unit =
    if has_offset kind && (unit.count == 0) then Some (fault_at table NotRising place) else
    if nat_lt (length bytes) (values_end unit) then Some (fault_at table PastEnd (values_place unit.values)) else None

-- the fault of a unit
abbrev pub unit_fault : Tag → List ℕ → Units → ℕ → Option Fault
unit_fault table bytes units i =
    unit_fault_at table bytes units.kind (unit_place units i) (unit_at bytes units i)

-- the first of some faults
abbrev pub first_fault : List (Option Fault) → Option Fault
first_fault [] = None
first_fault (None ∷ faults) = first_fault faults
first_fault (Some fault ∷ faults) = Some fault

-- the first fault of units, in the order of the file
abbrev pub units_fault : Tag → List ℕ → Units → Option Fault
units_fault table bytes units = first_fault (map (unit_fault table bytes units) (range_with_len 0 units.count))

-- a value that has no fault
abbrev pub unless_fault : {X : Type 0} → Option Fault → X → Result X Fault
unless_fault None x = Ok x
unless_fault (Some fault) x = Err fault

-- the units of a lookup that have no fault
unfoldable pub checked_units : Tag → List ℕ → ℕ → UnitKind → ValueKind → Result Units Fault
checked_units table bytes place unit kind =
    after (units_at table bytes place unit kind) (λ units. unless_fault (units_fault table bytes units) units)

-- how many bytes units are read from: their records, without what fills them up, and the values of format 4, of all
-- glyphs; those that units share count for each unit
abbrev pub unit_bytes : List ℕ → Units → ℕ
unit_bytes bytes units =
    record_size units.kind units.values * units.count
    + (if has_offset units.kind then numbers_size units.values (named_glyphs bytes units) else 0)

-- whether units of format 4 share so many values that their bytes are more than those from the start of the lookup to
-- the end of the table
abbrev pub are_crowded : List ℕ → Units → Bool
are_crowded bytes units = has_offset units.kind && nat_lt (length bytes - units.start) (unit_bytes bytes units)

-- a lookup of format 2, 4 or 6. HarfBuzz takes units that share values as often as they like; here too many are a fault
unfoldable pub searched_at : Tag → List ℕ → ℕ → UnitKind → ValueKind → Result Layout Fault
searched_at table bytes place unit kind =
    after (checked_units table bytes place unit kind) (λ units.
    if are_crowded bytes units then Err (fault_at table PastEnd place) else Ok (Searched units))

-- an array whose values stand inside. HarfBuzz finds no glyph above 0xFFFF, and values of such glyphs are left out
unfoldable pub array_of : Tag → List ℕ → Segment → Result Layout Fault
array_of table bytes segment =
    if nat_lt (length bytes) (values_end segment) then Err (fault_at table PastEnd (values_place segment.values)) else
    Ok (Array (record segment { count = min segment.count (65536 - segment.first) }))

-- a lookup of format 8: the first glyph, the number of glyphs, and a value for each
unfoldable pub trimmed_array_at : Tag → List ℕ → ℕ → ValueKind → Result Layout Fault
trimmed_array_at table bytes place kind =
    if nat_lt (length bytes) (place + 6) then Err (fault_at table PastEnd place) else
    array_of table bytes
    (record { first = be16 bytes (place + 2); count = be16 bytes (place + 4); values = Each kind (place + 6) })

-- a lookup of format 10: the size of a value, the first glyph, the number of glyphs, and a value for each. Of the sizes
-- 1, 2, 4 and 8 the first two are read, and the third where values have 32 bits
unfoldable pub sized_array_at : Tag → List ℕ → ℕ → ValueKind → Result Layout Fault
sized_array_at table bytes place kind =
    let size = be16 bytes (place + 2) in
    let first = be16 bytes (place + 4) in
    let count = be16 bytes (place + 6) in
    if nat_lt (length bytes) (place + 8) then Err (fault_at table PastEnd place) else
    if size == 1 then array_of table bytes (record { first = first; count = count; values = Bytes (place + 8) }) else
    if size == 2 then array_of table bytes (record { first = first; count = count; values = Each Word (place + 8) }) else
    if is_long kind && (size == 4) then
    array_of table bytes (record { first = first; count = count; values = Each Long (place + 8) }) else
    Err (fault_at table UnknownFormat (place + 2))

-- the layout of a lookup at a place, by its format, or its first fault
unfoldable pub layout_at : Tag → List ℕ → ℕ → ℕ → ValueKind → Result Layout Fault
layout_at table bytes place glyph_count kind =
    if nat_lt (length bytes) (place + 2) then Err (fault_at table PastEnd place) else
    if be16 bytes place == 0 then
    array_of table bytes (record { first = 0; count = glyph_count; values = Each kind (place + 2) }) else
    if be16 bytes place == 2 then searched_at table bytes place SegmentSingle kind else
    if be16 bytes place == 4 then searched_at table bytes place SegmentArray kind else
    if be16 bytes place == 6 then searched_at table bytes place Single kind else
    if be16 bytes place == 8 then trimmed_array_at table bytes place kind else
    if be16 bytes place == 10 then sized_array_at table bytes place kind else
    Err (fault_at table UnknownFormat place)

-- the segments of a lookup
abbrev pub segments_of : List ℕ → Layout → List Segment
segments_of bytes (Array segment) = segment ∷ []
segments_of bytes (Searched units) = unit_segments bytes units
