-- The data of a simple glyph. Apple's TrueType Reference Manual, "The 'glyf' table".
use Rattle.std.specs.Prelude.{ℕ, ℤ, pos, negsuc, ◌-◌, ◌%◌, ◌-ℤ◌, ◌++◌, ◌==◌, ◌&&◌, List, [], ◌∷◌, length, map, slice_index_or, Bool, true, fold, replicate, if◌then◌else◌, int_le}
use Rattle.std.specs.Int.{cast_unsigned, w16, int_max, int_min}
use Rattle.aat_read_outlines.specs.Outlines.{PointLists}
use Rattle.aat_read_outlines.specs.declared.outline.OutlinePoint.{OutlinePoint}
use Rattle.aat_write_machine.specs.Words.{word_bytes}
use Rattle.aat_write_truetype.specs.declared.outlines.bounds.Bounds.{Bounds}
use Rattle.aat_write_truetype.specs.declared.outlines.bounds.Range.{Range}

-- whether 16 bits hold a signed number
abbrev pub is_short : ℤ → Bool
is_short number = int_le (negsuc 32767) number && int_le number (pos 32767)

-- a signed number of 16 bits
abbrev pub word_of : ℤ → ℕ
word_of number = cast_unsigned w16 number

-- where the steps of a glyph begin
abbrev pub origin : OutlinePoint
origin = record { x = pos 0; y = pos 0; is_on_curve = true }

-- whether the coordinates of a point are short, and the steps from one point to another
abbrev pub is_near : OutlinePoint → Bool
is_near point = is_short point.x && is_short point.y

abbrev pub is_short_step : OutlinePoint → OutlinePoint → Bool
is_short_step from to = is_short (to.x -ℤ from.x) && is_short (to.y -ℤ from.y)

-- whether all steps from a point on through others are short
abbrev pub are_short_steps : OutlinePoint → List OutlinePoint → Bool
are_short_steps from [] = true
are_short_steps from (point ∷ points) = is_short_step from point && are_short_steps point points

-- the steps along x, and along y
abbrev pub x_words : OutlinePoint → List OutlinePoint → List ℕ
x_words from [] = []
x_words from (point ∷ points) = word_of (point.x -ℤ from.x) ∷ x_words point points

abbrev pub y_words : OutlinePoint → List OutlinePoint → List ℕ
y_words from [] = []
y_words from (point ∷ points) = word_of (point.y -ℤ from.y) ∷ y_words point points

-- the range of one number, and a range that a number widens
abbrev pub range_at : ℤ → Range
range_at number = record { least = number; greatest = number }

abbrev pub wider : Range → ℤ → Range
wider range number = record { least = int_min range.least number; greatest = int_max range.greatest number }

-- the bounds of a point, and bounds that a point widens
abbrev pub bounds_at : OutlinePoint → Bounds
bounds_at point = record { x = range_at point.x; y = range_at point.y }

abbrev pub widened : Bounds → OutlinePoint → Bounds
widened bounds point = record { x = wider bounds.x point.x; y = wider bounds.y point.y }

-- the bounds of points: those of the first one, widened by all, and 0 where there is none
abbrev pub bounds_of : List OutlinePoint → Bounds
bounds_of points = fold widened (bounds_at (slice_index_or points 0 origin)) points

-- the words of bounds: the least x and y, and the greatest
abbrev pub bounds_words : Bounds → List ℕ
bounds_words bounds =
    word_of bounds.x.least
    ∷ word_of bounds.y.least
    ∷ word_of bounds.x.greatest
    ∷ word_of bounds.y.greatest
    ∷ []

-- the number of contours, and the bounds
abbrev pub header_words : PointLists → List ℕ
header_words outline = length outline.ends ∷ bounds_words (bounds_of outline.points)

-- the number of the last point of each contour
abbrev pub last_points : List ℕ → List ℕ
last_points ends = map (λ end. end - 1) ends

-- the flag of a point: its steps have 16 bits, and no flag is repeated
abbrev pub flag_of : OutlinePoint → ℕ
flag_of point = if point.is_on_curve then 1 else 0

-- what is wanting to a multiple of four bytes
abbrev pub padding : ℕ → List ℕ
padding size = replicate ((4 - size % 4) % 4) 0

-- bytes with the padding behind them
abbrev pub padded : List ℕ → List ℕ
padded bytes = bytes ++ padding (length bytes)

-- the header, the last points, no instructions, the flags, and the steps along x and along y
abbrev pub simple_bytes : PointLists → List ℕ
simple_bytes outline =
    word_bytes (header_words outline ++ last_points outline.ends ++ 0 ∷ [])
    ++ map flag_of outline.points
    ++ word_bytes (x_words origin outline.points)
    ++ word_bytes (y_words origin outline.points)

-- the data of a glyph, which an outline without contours has none of
abbrev pub glyph_data : PointLists → List ℕ
glyph_data outline = if length outline.ends == 0 then [] else padded (simple_bytes outline)
