-- The segments of a contour. Apple's TrueType Reference Manual, "The 'glyf' table" and "Digitizing Letterform Designs".
use Rattle.std.specs.Prelude.{◌+ℤ◌, ◌-◌, List, [], ◌∷◌, length, take, slice_get, Option, Some, None, unwrap_or, if◌then◌else◌}
use Rattle.aat_read_outlines.specs.declared.outline.OutlinePoint.{OutlinePoint}
use Rattle.aat_read_outlines.specs.declared.curves.HalfPoint.{HalfPoint}
use Rattle.aat_read_outlines.specs.declared.curves.Segment.{Segment}
use Rattle.aat_read_outlines.specs.declared.curves.Segment.TheVariants.{MoveTo, LineTo, QuadraticTo, Close}

-- the point halfway between two points, in half units
abbrev pub halfway : OutlinePoint → OutlinePoint → HalfPoint
halfway first second = record { x = first.x +ℤ second.x; y = first.y +ℤ second.y }

-- a point in half units
abbrev pub doubled : OutlinePoint → HalfPoint
doubled point = halfway point point

-- the segments through points, back to the start. A point off the curve waits as a control point: its curve ends at the
-- next point, or halfway to it if that is off the curve too
abbrev pub drawn : HalfPoint → Option OutlinePoint → List OutlinePoint → List Segment
drawn start None [] = Close ∷ []
drawn start (Some control) [] = QuadraticTo (doubled control) start ∷ Close ∷ []
drawn start None (point ∷ points) =
    if point.is_on_curve then LineTo (doubled point) ∷ drawn start None points else drawn start (Some point) points
drawn start (Some control) (point ∷ points) =
    if point.is_on_curve
    then QuadraticTo (doubled control) (doubled point) ∷ drawn start None points
    else QuadraticTo (doubled control) (halfway control point) ∷ drawn start (Some point) points

-- the last of a point and those behind it
abbrev pub last_of : OutlinePoint → List OutlinePoint → OutlinePoint
last_of first points = unwrap_or (slice_get points (length points - 1)) first

-- the segments from a start on through points
abbrev pub begun : HalfPoint → List OutlinePoint → List Segment
begun start points = MoveTo start ∷ drawn start None points

-- the segments of a contour: it begins at its first point if that is on the curve, else at its last one if that is, else
-- halfway between both
abbrev pub segments_of : List OutlinePoint → List Segment
segments_of [] = []
segments_of (first ∷ points) =
    if first.is_on_curve then begun (doubled first) points else
    if (last_of first points).is_on_curve
    then begun (doubled (last_of first points)) (take (length points) (first ∷ points))
    else begun (halfway (last_of first points) first) (first ∷ points)
