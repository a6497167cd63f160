-- What follows of attachments.
use Rattle.std.specs.Prelude.{◌≡◌, ℕ, false, IsTrue, List, Some, None}
use Rattle.aat_glyph.specs.declared.glyph.Direction.{Direction}
use Rattle.aat_glyph.specs.declared.glyph.GlyphPosition.{GlyphPosition}
use Rattle.aat_glyph.specs.placement.Attachments.{Coordinate, IsUnattached, added_up, at, drawn, drawn_offset, is_across, is_cursive, is_mark, minus, offset, parent, pen, plus}

-- how a glyph is drawn beside its parent, as that one is drawn
pub record FollowsItsParent (d : Direction) (qs : List GlyphPosition) (i : ℕ) : Type 0 where
  -- without a parent it stays
  pub alone : parent d qs i ≡ None → drawn d qs i ≡ at qs i
  -- a mark has its parent's offset and its own, less the advances between
  pub mark : (c : Coordinate) (p : ℕ) → parent d qs i ≡ Some p → IsTrue (is_mark (at qs i))
      → drawn_offset c d qs i
      ≡ plus (drawn_offset c d qs p) (minus (plus (offset c (at qs i)) (pen c qs p)) (pen c qs i))
  -- across the line a cursive glyph has its parent's offset and its own
  pub across : (c : Coordinate) (p : ℕ) → parent d qs i ≡ Some p → IsTrue (is_cursive (at qs i))
      → IsTrue (is_across c d) → drawn_offset c d qs i ≡ plus (drawn_offset c d qs p) (offset c (at qs i))
  -- along the line its own alone
  pub along : (c : Coordinate) → IsTrue (is_cursive (at qs i)) → is_across c d ≡ false
      → drawn_offset c d qs i ≡ offset c (at qs i)

-- each glyph of a line follows its parent so
abbrev pub GlyphsFollowTheirParents : Type 0
GlyphsFollowTheirParents = (d : Direction) (qs : List GlyphPosition) (i : ℕ) → FollowsItsParent d qs i

-- a line in which no glyph has a parent stays
abbrev pub UnattachedLinesStay : Type 0
UnattachedLinesStay = (d : Direction) (qs : List GlyphPosition) → IsUnattached d qs → added_up d qs ≡ qs
