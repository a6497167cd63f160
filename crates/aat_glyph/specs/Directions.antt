-- What a direction says of a line.
use Rattle.std.specs.Prelude.{Bool, true, false}
use Rattle.aat_glyph.specs.declared.glyph.Direction.{Direction}
use Rattle.aat_glyph.specs.declared.glyph.Direction.TheVariants.{LeftToRight, RightToLeft, TopToBottom, BottomToTop}

-- along a row
abbrev pub is_horizontal : Direction → Bool
is_horizontal LeftToRight = true
is_horizontal RightToLeft = true
is_horizontal TopToBottom = false
is_horizontal BottomToTop = false

-- along a column
abbrev pub is_vertical : Direction → Bool
is_vertical LeftToRight = false
is_vertical RightToLeft = false
is_vertical TopToBottom = true
is_vertical BottomToTop = true

-- rightwards or downwards
abbrev pub is_forward : Direction → Bool
is_forward LeftToRight = true
is_forward RightToLeft = false
is_forward TopToBottom = true
is_forward BottomToTop = false

-- leftwards or upwards
abbrev pub is_backward : Direction → Bool
is_backward LeftToRight = false
is_backward RightToLeft = true
is_backward TopToBottom = false
is_backward BottomToTop = true
