-- Worked examples of written outlines.
use Rattle.std.specs.Prelude.{◌≡◌, ℕ, ℤ, List, [], ◌∷◌, pos, negsuc, true, false, Some, None, Ok}
use Rattle.aat_read_outlines.specs.Outlines.{PointLists, no_points}
use Rattle.aat_read_outlines.specs.declared.outline.OutlinePoint.{OutlinePoint}
use Rattle.aat_write_truetype.specs.outlines.Tables.{error_of, outlines_written}
use Rattle.aat_write_truetype.specs.declared.outlines.error.OutlineWriteError.TheVariants.{FarPoint, FarStep}

-- an outline of one contour
abbrev pub contour : ℕ → List OutlinePoint → PointLists
contour count points = record { points = points; ends = count ∷ [] }

-- a point on the curve, and one off it
abbrev pub on : ℤ → ℤ → OutlinePoint
on x y = record { x = x; y = y; is_on_curve = true }

abbrev pub off : ℤ → ℤ → OutlinePoint
off x y = record { x = x; y = y; is_on_curve = false }

-- a contour of three points, steps of 0 and 0, of 4 and 0, and of -4 and -3, and three bytes of padding
abbrev pub corner : PointLists
corner = contour 3 (on (pos 0) (pos 0) ∷ on (pos 4) (pos 0) ∷ off (pos 0) (negsuc 2) ∷ [])

-- an outline without contours has no data, and the box is that of the points
abbrev pub OutlinesAreWritten : Type 0
OutlinesAreWritten =
    outlines_written (no_points ∷ corner ∷ [])
    ≡ Ok (record {
      glyf =
          0 ∷ 1 ∷ 0 ∷ 0 ∷ 255 ∷ 253 ∷ 0 ∷ 4 ∷ 0 ∷ 0
          ∷ 0 ∷ 2 ∷ 0 ∷ 0
          ∷ 1 ∷ 1 ∷ 0
          ∷ 0 ∷ 0 ∷ 0 ∷ 4 ∷ 255 ∷ 252
          ∷ 0 ∷ 0 ∷ 0 ∷ 0 ∷ 255 ∷ 253
          ∷ 0 ∷ 0 ∷ 0 ∷ [];
      loca = 0 ∷ 0 ∷ 0 ∷ 0 ∷ 0 ∷ 0 ∷ 0 ∷ 0 ∷ 0 ∷ 0 ∷ 0 ∷ 32 ∷ [];
    })

-- the first outline with an error is told, and a step may be as long as 16 bits hold
abbrev pub FarOutlinesAreRefused : Type 0
FarOutlinesAreRefused =
    (error_of (corner ∷ contour 1 (on (pos 32768) (pos 0) ∷ []) ∷ []) ≡ Some (FarPoint 1))
    × (error_of (contour 2 (on (pos 32767) (pos 0) ∷ on (negsuc 1) (pos 0) ∷ []) ∷ []) ≡ Some (FarStep 0))
    × (error_of (contour 2 (on (pos 32767) (pos 0) ∷ on (negsuc 0) (pos 0) ∷ []) ∷ []) ≡ None)
