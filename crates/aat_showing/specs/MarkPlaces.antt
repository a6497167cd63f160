-- Where a mark is placed around a box. (No chapter of the manual: these places are HarfBuzz's.)
use Rattle.std.specs.Prelude.{ℕ, ℤ, pos, int_lt, ◌==◌, ◌&&◌, ◌||◌, Bool, if◌then◌else◌}
use Rattle.std.specs.Int.{int_div_euclid}
use Rattle.aat_read_metrics.specs.declared.glyph_metrics.GlyphBox.{GlyphBox}
use Rattle.aat_glyph.specs.Directions.{is_forward, is_horizontal}
use Rattle.aat_glyph.specs.declared.glyph.Direction.{Direction}
use Rattle.aat_showing.specs.Lengths.{half, minus, plus}

-- The combining classes of Unicode. Marks at the left edge of their base are attached below left, below left and above
-- left; marks at its right edge attached above right, below right and above right.
abbrev pub is_left : ℕ → Bool
is_left class = class == 200 || class == 218 || class == 228

abbrev pub is_right : ℕ → Bool
is_right class = class == 216 || class == 222 || class == 232

-- double ones, below and above, stand on two bases
abbrev pub is_double : ℕ → Bool
is_double class = class == 233 || class == 234

-- marks below, attached and off, at the left, in the middle, at the right, and double; and marks above
abbrev pub is_below : ℕ → Bool
is_below class = class == 200 || class == 202 || class == 218 || class == 220 || class == 222 || class == 233

abbrev pub is_above : ℕ → Bool
is_above class = class == 214 || class == 216 || class == 228 || class == 230 || class == 232 || class == 234

-- those that are attached stand without a gap
abbrev pub is_attached : ℕ → Bool
is_attached class = class == 200 || class == 202 || class == 214 || class == 216

abbrev pub gap_of : ℕ → ℕ → ℤ
gap_of gap class = if is_attached class then pos 0 else pos gap

-- how wide a box is
abbrev pub width_of : GlyphBox → ℤ
width_of box = minus box.right box.left

-- the edge of a base at which the next base follows
abbrev pub far_edge : Direction → GlyphBox → ℤ
far_edge d base = if is_forward d then base.right else base.left

-- a mark with its middle at the edge where the next base follows, and one with its middle in the middle of its base
unfoldable pub at_far_edge : Direction → GlyphBox → GlyphBox → ℤ
at_far_edge d base mark = minus (minus (far_edge d base) (half (width_of mark))) mark.left

unfoldable pub in_middle : GlyphBox → GlyphBox → ℤ
in_middle base mark = minus (plus base.left (half (minus (width_of base) (width_of mark)))) mark.left

-- How far to the right of its base a mark is drawn: edge at edge, a double one of a row at the far edge, and others in
-- the middle.
abbrev pub beside : Direction → ℕ → GlyphBox → GlyphBox → ℤ
beside d class base mark =
    if is_left class then minus base.left mark.left
    else if is_right class then minus base.right mark.right
    else if is_double class && is_horizontal d then at_far_edge d base mark
    else in_middle base mark

-- marks below are not moved up, and marks above moved down by half of that at most
abbrev pub not_up : ℤ → ℤ
not_up y = if int_lt (pos 0) y then pos 0 else y

abbrev pub half_down : ℤ → ℤ
half_down y = if int_lt (pos 0) y then y else int_div_euclid y (pos 2)

-- how far above its own place a mark of a class is drawn below its base, and above it
unfoldable pub below : ℕ → ℕ → GlyphBox → GlyphBox → ℤ
below gap class base mark = not_up (minus (minus base.bottom (gap_of gap class)) mark.top)

unfoldable pub above : ℕ → ℕ → GlyphBox → GlyphBox → ℤ
above gap class base mark = half_down (minus (plus base.top (gap_of gap class)) mark.bottom)

-- so by its class
abbrev pub over : ℕ → ℕ → GlyphBox → GlyphBox → ℤ
over gap class base mark =
    if is_below class then below gap class base mark
    else if is_above class then above gap class base mark
    else pos 0

-- what the next mark of the class is placed around: up to the edge of this one
abbrev pub with_mark : ℕ → ℤ → GlyphBox → GlyphBox → GlyphBox
with_mark class y base mark =
    if is_below class then record base { bottom = plus y mark.bottom }
    else if is_above class then record base { top = plus y mark.top }
    else base
