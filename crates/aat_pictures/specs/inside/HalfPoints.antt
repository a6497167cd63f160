-- Points of charstrings in half units of the font, in which pictures are drawn.
use Rattle.std.specs.Prelude.{ℤ, pos, ◌+ℤ◌}
use Rattle.std.specs.Int.{int_div_euclid}
use Rattle.aat_read_charstrings.specs.declared.path.FixedPoint.{FixedPoint}
use Rattle.aat_read_outlines.specs.declared.curves.HalfPoint.{HalfPoint}

-- the half units nearest to 65536ths of a unit, of two the greater
abbrev pub nearest_half : ℤ → ℤ
nearest_half parts = int_div_euclid (parts +ℤ pos 16384) (pos 32768)

-- the point in half units that is nearest to a point
abbrev pub nearest_point : FixedPoint → HalfPoint
nearest_point point = record { x = nearest_half point.x; y = nearest_half point.y }
