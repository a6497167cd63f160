-- The points of an outline, contour by contour.
use Rattle.std.specs.Prelude.{◌≡◌, ◌<◌, ◌≤◌, ℕ, ◌-◌, ◌==◌, List, [], ◌∷◌, length, slice_index, slice_range, Option, Some, None, if◌then◌else◌, nat_lt}
use Rattle.aat_read_outlines.specs.declared.outline.OutlinePoint.{OutlinePoint}

-- the points of an outline, and for each contour how many points there are up to its end
pub record PointLists : Type 0 where
  pub points : List OutlinePoint
  pub ends : List ℕ

-- an outline without contours
abbrev pub no_points : PointLists
no_points = record { points = []; ends = [] }

-- ends of contours from one on that each have a point, the last of which is the end of all points
abbrev pub Divides : ℕ → List ℕ → ℕ → Type 0
Divides start [] count = start ≡ count
Divides start (end ∷ ends) count = (start < end) × Divides end ends count

-- the points and ends of an outline: each contour has a point, the last one ends with the points, and these are few
pub record IsOutline (points : List OutlinePoint) (ends : List ℕ) : Type 0 where
  pub divided : Divides 0 ends (length points)
  pub few : length points ≤ 65536

-- where a contour begins: at the end of the one before
abbrev pub start_of : List ℕ → ℕ → ℕ
start_of ends index = if index == 0 then 0 else slice_index ends (index - 1)

-- the points of a contour, if there is one
abbrev pub contour_of : PointLists → ℕ → Option (List OutlinePoint)
contour_of outline index =
    if nat_lt index (length outline.ends)
    then Some (slice_range outline.points (start_of outline.ends index) (slice_index outline.ends index))
    else None
