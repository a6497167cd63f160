-- The path that a charstring draws. Adobe Technical Note 5177, "The Type 2 Charstring Format", "Path Construction Operators".
use Rattle.std.specs.Prelude.{ℤ, pos, ◌+ℤ◌, List, [], ◌∷◌, ◌++◌, Bool, true, false, if◌then◌else◌}
use Rattle.std.specs.Int.{saturate_to_bits}
use Rattle.aat_read_charstrings.specs.declared.path.FixedPoint.{FixedPoint}
use Rattle.aat_read_charstrings.specs.declared.path.CubicSegment.{CubicSegment}
use Rattle.aat_read_charstrings.specs.declared.path.CubicSegment.TheVariants.{MoveTo, LineTo, CubicTo, Close}
use Rattle.aat_read_charstrings.specs.declared.path.Step.{Step}
use Rattle.aat_read_charstrings.specs.declared.path.Step.TheVariants.{Line, Curve}

-- a coordinate after a step, as far as a signed number of 32 bits holds it
abbrev pub stepped : ℤ → ℤ → ℤ
stepped from by = saturate_to_bits 31 (from +ℤ by)

-- a point after a step
abbrev pub offset_by : FixedPoint → FixedPoint → FixedPoint
offset_by point by = record { x = stepped point.x by.x; y = stepped point.y by.y }

-- what is drawn: where the pen is, whether a contour is begun, and all segments
pub record Drawing : Type 0 where
  pub pen : FixedPoint
  pub is_open : Bool
  pub segments : List CubicSegment

-- nothing, with the pen at the origin
abbrev pub nothing_drawn : Drawing
nothing_drawn = record { pen = record { x = pos 0; y = pos 0 }; is_open = false; segments = [] }

-- with a contour: where none is begun, one begins at the pen
abbrev pub begun : Drawing → Drawing
begun drawing =
    if drawing.is_open then drawing else
    record drawing { is_open = true; segments = drawing.segments ++ MoveTo drawing.pen ∷ [] }

-- with the contour closed, if one is begun
abbrev pub closed : Drawing → Drawing
closed drawing =
    if drawing.is_open then record drawing { is_open = false; segments = drawing.segments ++ Close ∷ [] } else drawing

-- with the contour closed, and the pen elsewhere
abbrev pub moved : Drawing → FixedPoint → Drawing
moved drawing by = record (closed drawing) { pen = offset_by drawing.pen by }

-- with a segment to a point behind others
abbrev pub extended : Drawing → FixedPoint → CubicSegment → Drawing
extended drawing to segment = record (begun drawing) { pen = to; segments = (begun drawing).segments ++ segment ∷ [] }

-- with a step drawn
unfoldable pub drawn : Drawing → Step → Drawing
drawn drawing (Line by) = extended drawing (offset_by drawing.pen by) (LineTo (offset_by drawing.pen by))
drawn drawing (Curve by_first by_second by_end) =
    let first = offset_by drawing.pen by_first in
    let second = offset_by first by_second in
    let to = offset_by second by_end in
    extended drawing to (CubicTo first second to)
