-- Classes of glyphs, as the glyph definition table has them, in two formats.
use Rattle.std.specs.Prelude.{ℕ, ◌+◌, ◌*◌, ◌-◌, List, length, Option, Some, None, Result, Ok, Err, if◌then◌else◌, nat_lt, nat_le, ◌==◌, ◌||◌}
use Rattle.std.specs.Option.{option_map_or}
use Rattle.aat_bytes.specs.Bisection.{bisect}
use Rattle.aat_bytes.specs.Faults.{after, fault_at}
use Rattle.aat_bytes.specs.Numbers.{be16, slice_from}
use Rattle.aat_bytes.specs.declared.error.Fault.{Fault}
use Rattle.aat_bytes.specs.declared.error.FaultKind.TheVariants.{PastEnd, UnknownFormat}
use Rattle.aat_bytes.specs.declared.tags.TheConstants.{GDEF}
use Rattle.aat_read_sfnt.specs.declared.class_definition.ClassDefinition.{ClassDefinition}
use Rattle.aat_read_sfnt.specs.declared.class_definition.ClassDefinition.TheVariants.{Empty, Array, Ranges, Faulty}

-- format 1: a header of 6 bytes with the first glyph and the number of glyphs, and 16 bits for each of them
unfoldable pub class_array_at : List ℕ → ℕ → Result (List ℕ) Fault
class_array_at bytes place =
    if nat_lt (length bytes) 6 then Err (fault_at GDEF PastEnd place) else
    if nat_lt (length bytes) (6 + 2 * be16 bytes 4) then Err (fault_at GDEF PastEnd (place + 6)) else Ok bytes

-- the class of a glyph of format 1
abbrev pub class_in_array : List ℕ → ℕ → ℕ
class_in_array bytes glyph =
    if nat_lt glyph (be16 bytes 2) || nat_le (be16 bytes 2 + be16 bytes 4) glyph then 0 else
    be16 bytes (6 + 2 * (glyph - be16 bytes 2))

-- format 2: a header of 4 bytes with the number of ranges, and 6 bytes for each: first glyph, last glyph and class
unfoldable pub class_ranges_at : List ℕ → ℕ → Result (List ℕ) Fault
class_ranges_at bytes place =
    if nat_lt (length bytes) 4 then Err (fault_at GDEF PastEnd place) else
    if nat_lt (length bytes) (4 + 6 * be16 bytes 2) then Err (fault_at GDEF PastEnd (place + 4)) else Ok bytes

abbrev pub first_glyph : List ℕ → ℕ → ℕ
first_glyph bytes i = be16 bytes (4 + 6 * i)

abbrev pub last_glyph : List ℕ → ℕ → ℕ
last_glyph bytes i = be16 bytes (6 + 6 * i)

-- the range of a glyph: the one that a bisection finds, whether ranges rise or not, as in HarfBuzz
abbrev pub range_of : List ℕ → ℕ → Option ℕ
range_of bytes glyph = bisect (first_glyph bytes) (last_glyph bytes) (be16 bytes 2) 0 (be16 bytes 2) glyph

-- the class of a glyph of format 2
abbrev pub class_in_ranges : List ℕ → ℕ → ℕ
class_in_ranges bytes glyph = option_map_or (λ i. be16 bytes (8 + 6 * i)) (range_of bytes glyph) 0

-- what comes of the bytes of a definition
abbrev pub as_classes : (List ℕ → ClassDefinition) → Result (List ℕ) Fault → Result ClassDefinition Fault
as_classes form definition = after definition (λ bytes. Ok (form bytes))

-- the definition at the start of bytes, which stand at a place of the table, by its format. One of another format is
-- there, as for HarfBuzz, but no glyph has a class by it
unfoldable pub definition_at : List ℕ → ℕ → Result ClassDefinition Fault
definition_at bytes place =
    if nat_lt (length bytes) 2 then Err (fault_at GDEF PastEnd place) else
    if be16 bytes 0 == 1 then as_classes Array (class_array_at bytes place) else
    if be16 bytes 0 == 2 then as_classes Ranges (class_ranges_at bytes place) else
    Ok (Faulty (fault_at GDEF UnknownFormat place))

-- the definition at an offset of the table; offset 0 stands for none
unfoldable pub definition_of : List ℕ → ℕ → Result ClassDefinition Fault
definition_of gdef offset =
    if offset == 0 then Ok Empty else elim (slice_from gdef offset) [
      | None ↦ Err (fault_at GDEF PastEnd offset)
      | Some bytes ↦ definition_at bytes offset
    ]

-- the fault of a definition by which no glyph has a class
abbrev pub fault_of : ClassDefinition → Option Fault
fault_of Empty = None
fault_of (Array bytes) = None
fault_of (Ranges bytes) = None
fault_of (Faulty fault) = Some fault

-- the class of a glyph, 0 where none is named
abbrev pub class_of : ClassDefinition → ℕ → ℕ
class_of Empty glyph = 0
class_of (Faulty fault) glyph = 0
class_of (Array bytes) glyph = class_in_array bytes glyph
class_of (Ranges bytes) glyph = class_in_ranges bytes glyph
