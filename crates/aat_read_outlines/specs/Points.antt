-- The points of a simple glyph. Apple's TrueType Reference Manual, "The 'glyf' table".
use Rattle.std.specs.Prelude.{ℕ, ℤ, pos, neg_ℤ, ◌+◌, ◌+ℤ◌, List, [], ◌∷◌, length, slice_index, Bool, Result, Ok, Err, if◌then◌else◌, nat_lt, sum_by}
use Rattle.aat_bytes.specs.Numbers.{be16, signed16}
use Rattle.aat_bytes.specs.declared.error.Fault.{Fault}
use Rattle.aat_read_outlines.specs.Flags.{FlagList, has}
use Rattle.aat_read_outlines.specs.Glyphs.{GlyphBytes, past}
use Rattle.aat_read_outlines.specs.declared.flags.TheConstants.{ON_CURVE, X_SHORT, Y_SHORT, X_SAME, Y_SAME}
use Rattle.aat_read_outlines.specs.declared.outline.OutlinePoint.{OutlinePoint}
use Rattle.aat_read_outlines.specs.declared.points.Pen.{Pen}

-- how many bytes a step takes: a short one has a byte, and one that is the same as before has none
abbrev pub step_size : Bool → Bool → ℕ
step_size is_short is_same = if is_short then 1 else if is_same then 0 else 2

-- a step at a place: a short one is above 0 or below it, another is 0 or a signed number of 16 bits
abbrev pub step_at : List ℕ → ℕ → Bool → Bool → ℤ
step_at bytes place is_short is_same =
    if is_short
    then (if is_same then pos (slice_index bytes place) else neg_ℤ (pos (slice_index bytes place)))
    else if is_same then pos 0 else signed16 (be16 bytes place)

-- how many bytes a flag's steps along x and y take
abbrev pub x_size : ℕ → ℕ
x_size flag = step_size (has flag X_SHORT) (has flag X_SAME)

abbrev pub y_size : ℕ → ℕ
y_size flag = step_size (has flag Y_SHORT) (has flag Y_SAME)

-- where the steps of flags end that begin at a place: those along x, and behind them those along y
abbrev pub x_end : FlagList → ℕ
x_end list = list.place + sum_by x_size list.flags

abbrev pub y_end : FlagList → ℕ
y_end list = x_end list + sum_by y_size list.flags

-- a pen at a point, with the places of its next steps, after the step of a flag
abbrev pub moved : List ℕ → Pen → ℕ → Pen
moved bytes pen flag = record {
  x_place = pen.x_place + x_size flag;
  y_place = pen.y_place + y_size flag;
  x = pen.x +ℤ step_at bytes pen.x_place (has flag X_SHORT) (has flag X_SAME);
  y = pen.y +ℤ step_at bytes pen.y_place (has flag Y_SHORT) (has flag Y_SAME);
}

-- the point where a pen is, on the curve or not as a flag says
abbrev pub point_at : Pen → ℕ → OutlinePoint
point_at pen flag = record { x = pen.x; y = pen.y; is_on_curve = has flag ON_CURVE }

-- the points of flags: each is a step behind the one before
abbrev pub points_from : List ℕ → Pen → List ℕ → List OutlinePoint
points_from bytes pen [] = []
points_from bytes pen (flag ∷ flags) =
    point_at (moved bytes pen flag) flag ∷ points_from bytes (moved bytes pen flag) flags

-- the pen in front of the points of flags
abbrev pub pen_of : FlagList → Pen
pen_of list = record { x_place = list.place; y_place = x_end list; x = pos 0; y = pos 0 }

-- the points of flags whose steps stand behind them, if these are there as a whole
abbrev pub points_of : GlyphBytes → FlagList → Result (List OutlinePoint) Fault
points_of glyph list =
    if nat_lt (length glyph.bytes) (y_end list)
    then Err (past glyph list.place)
    else Ok (points_from glyph.bytes (pen_of list) list.flags)
