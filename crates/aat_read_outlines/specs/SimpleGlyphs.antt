-- Simple glyphs: contours of points. Apple's TrueType Reference Manual, "The 'glyf' table".
use Rattle.std.specs.Prelude.{ℕ, ◌+◌, ◌*◌, ◌-◌, List, length, map, Option, Some, None, Result, Ok, Err, if◌then◌else◌, nat_lt}
use Rattle.std.specs.List.{range_with_len}
use Rattle.aat_bytes.specs.Faults.{after}
use Rattle.aat_bytes.specs.Numbers.{be16}
use Rattle.aat_bytes.specs.declared.error.Fault.{Fault}
use Rattle.aat_bytes.specs.declared.error.FaultKind.TheVariants.{NotRising}
use Rattle.aat_read_sfnt.specs.RisingEnds.{first_fall}
use Rattle.aat_read_outlines.specs.Flags.{FlagList, flags_from, run_at}
use Rattle.aat_read_outlines.specs.Glyphs.{GlyphBytes, fault_in, past}
use Rattle.aat_read_outlines.specs.Outlines.{PointLists}
use Rattle.aat_read_outlines.specs.Points.{points_of}

-- how many points there are up to the end of a contour, whose last point stands in a list behind 10 bytes
abbrev pub end_of : List ℕ → ℕ → ℕ
end_of bytes contour = be16 bytes (10 + 2 * contour) + 1

-- the same for each of so many contours
abbrev pub ends_of : List ℕ → ℕ → List ℕ
ends_of bytes contours = map (end_of bytes) (range_with_len 0 contours)

-- the first contour whose end is not above that of the one before
abbrev pub falling_end : List ℕ → ℕ → Option ℕ
falling_end bytes contours = first_fall (end_of bytes) contours

-- the place of the flags, behind the length of the instructions and the instructions
abbrev pub flags_place : List ℕ → ℕ → ℕ
flags_place bytes contours = 12 + 2 * contours + be16 bytes (10 + 2 * contours)

-- the fault of the ends and of the instructions
abbrev pub ends_fault : GlyphBytes → ℕ → Option Fault
ends_fault glyph contours =
    if nat_lt (length glyph.bytes) (12 + 2 * contours) then Some (past glyph 10) else
    elim (falling_end glyph.bytes contours) [
      | Some contour ↦ Some (fault_in glyph NotRising (10 + 2 * contour))
      | None ↦
          if nat_lt (length glyph.bytes) (flags_place glyph.bytes contours)
          then Some (past glyph (12 + 2 * contours))
          else None
    ]

-- the flags, as many as there are points up to the end of the last contour: where one is not there, no byte of it is
abbrev pub flags_of : GlyphBytes → ℕ → Result FlagList Fault
flags_of glyph contours =
    elim (flags_from glyph.bytes (run_at (flags_place glyph.bytes contours)) (end_of glyph.bytes (contours - 1))) [
      | Some list ↦ Ok list
      | None ↦ Err (past glyph (length glyph.bytes))
    ]

-- the outline of a glyph of so many contours, of which there is one
abbrev pub simple_outline : GlyphBytes → ℕ → Result PointLists Fault
simple_outline glyph contours = elim (ends_fault glyph contours) [
  | Some fault ↦ Err fault
  | None ↦
      after (flags_of glyph contours) (λ list.
      after (points_of glyph list) (λ points.
      Ok (record { points = points; ends = ends_of glyph.bytes contours })))
]
