-- The direction of a text.
use Rattle.std.specs.Prelude.{ℕ, List, Option, Some, None, slice_get}
use Rattle.std.specs.List.{filter_map}
use Rattle.std.specs.Str.{chars}
use Rattle.ucd_bidi.specs.BidiClass.{bidi_class}
use Rattle.ucd_bidi.specs.declared.BidiClass.{BidiClass}
use Rattle.ucd_bidi.specs.declared.BidiClass.TheVariants as Bidi
use Rattle.aat_glyph.specs.declared.glyph.Direction.{Direction}
use Rattle.aat_glyph.specs.declared.glyph.Direction.TheVariants.{LeftToRight, RightToLeft}

-- the direction of a strong class, none of others
abbrev pub direction_of : BidiClass → Option Direction
direction_of Bidi.LeftToRight = Some LeftToRight
direction_of Bidi.RightToLeft = Some RightToLeft
direction_of Bidi.ArabicLetter = Some RightToLeft
direction_of _ = None

-- that of a character
abbrev pub strong_direction : ℕ → Option Direction
strong_direction character = direction_of (bidi_class character)

-- that of the first strong character of a text
abbrev pub first_strong_direction : List ℕ → Option Direction
first_strong_direction text = slice_get (filter_map strong_direction (chars text)) 0
