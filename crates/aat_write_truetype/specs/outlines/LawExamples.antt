-- Worked examples of written outlines that are read again.
use Rattle.std.specs.Prelude.{◌≡◌, ℕ, List, [], ◌∷◌, length, pos, negsuc, Result, Ok, Err}
use Rattle.aat_bytes.specs.Faults.{fault_at}
use Rattle.aat_bytes.specs.declared.error.Fault.{Fault}
use Rattle.aat_bytes.specs.declared.error.FaultKind.TheVariants.{Missing}
use Rattle.aat_bytes.specs.declared.tags.TheConstants.{LOCA}
use Rattle.aat_read_outlines.specs.Composites.{outline_of}
use Rattle.aat_read_outlines.specs.Outlines.{PointLists, no_points}
use Rattle.aat_write_truetype.specs.outlines.Examples.{corner, off, on}
use Rattle.aat_write_truetype.specs.outlines.OutlineLaws.{tables_over}
use Rattle.aat_write_truetype.specs.outlines.Tables.{outlines_written}

-- two contours, the first of one point and the second of two points off the curve
abbrev pub two_contours : PointLists
two_contours = record {
  points = on (pos 32767) (negsuc 32767) ∷ off (pos 0) (negsuc 0) ∷ off (negsuc 299) (pos 513) ∷ [];
  ends = 1 ∷ 3 ∷ [];
}

-- the outline of a glyph that is read from outlines that were written, and a fault at 0 where none were
abbrev pub read_again : List PointLists → ℕ → Result PointLists Fault
read_again outlines glyph = elim (outlines_written outlines) [
  | Ok written ↦ outline_of (tables_over written (length outlines)) glyph
  | Err error ↦ Err (fault_at LOCA Missing 0)
]

-- one outline, an empty one, two contours with points off the curve, and no outline behind the last one
abbrev pub OutlinesAreReadAgain : Type 0
OutlinesAreReadAgain =
    (read_again (corner ∷ []) 0 ≡ Ok corner)
    × (read_again (no_points ∷ []) 0 ≡ Ok no_points)
    × (read_again (corner ∷ no_points ∷ two_contours ∷ []) 1 ≡ Ok no_points)
    × (read_again (corner ∷ no_points ∷ two_contours ∷ []) 2 ≡ Ok two_contours)
    × (read_again (corner ∷ no_points ∷ two_contours ∷ []) 3 ≡ Err (fault_at LOCA Missing 12))
