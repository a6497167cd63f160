-- Bounds that 16 bits hold.
use Rattle.std.specs.Prelude.{◌≡◌, true}
use Rattle.aat_write_truetype.specs.outlines.GlyphData.{is_short}
use Rattle.aat_write_truetype.specs.declared.outlines.bounds.Bounds.{Bounds}
use Rattle.aat_write_truetype.specs.declared.outlines.bounds.Range.{Range}

-- 16 bits hold both ends of a range
pub record IsShortRange (range : Range) : Type 0 where
  pub least : is_short range.least ≡ true
  pub greatest : is_short range.greatest ≡ true

-- 16 bits hold each bound
pub record AreShort (bounds : Bounds) : Type 0 where
  pub x : IsShortRange bounds.x
  pub y : IsShortRange bounds.y
