-- Worked examples of lines that are tracked.
use Rattle.std.specs.Prelude.{◌≡◌, ℤ, pos, negsuc, [], ◌∷◌, Some, None}
use Rattle.aat_glyph.specs.declared.glyph.Direction.TheVariants.{LeftToRight, RightToLeft, TopToBottom}
use Rattle.aat_glyph.specs.declared.glyph.GlyphPosition.{GlyphPosition}
use Rattle.aat_glyph.specs.placement.TrackedLines.{tracked}

-- a glyph of a row, with its advance and offset
abbrev pub in_row : ℤ → ℤ → GlyphPosition
in_row advance x = record {
  x_advance = advance;
  y_advance = pos 0;
  x_offset = x;
  y_offset = pos 7;
  attach_type = 0;
  attach_chain = pos 0;
}

-- one of a column
abbrev pub in_column : ℤ → ℤ → GlyphPosition
in_column advance y = record {
  x_advance = pos 0;
  y_advance = advance;
  x_offset = pos 7;
  y_offset = y;
  attach_type = 0;
  attach_chain = pos 0;
}

-- the first glyph of each cluster is wider; one that is not drawn stays, and so does what its cluster is
abbrev pub FirstGlyphsAreWider : Type 0
FirstGlyphsAreWider =
    (tracked LeftToRight (pos 21) (Some 0 ∷ Some 0 ∷ Some 1 ∷ None ∷ Some 1 ∷ None ∷ Some 0 ∷ [])
    (in_row (pos 500) (pos 1) ∷ in_row (pos 0) (pos 2) ∷ in_row (pos 400) (pos 0) ∷ in_row (pos 0) (pos 0)
    ∷ in_row (pos 300) (pos 0) ∷ in_row (pos 0) (pos 0) ∷ in_row (pos 200) (pos 0) ∷ [])
    ≡ in_row (pos 521) (pos 1) ∷ in_row (pos 0) (pos 2) ∷ in_row (pos 421) (pos 0) ∷ in_row (pos 0) (pos 0)
    ∷ in_row (pos 300) (pos 0) ∷ in_row (pos 0) (pos 0) ∷ in_row (pos 221) (pos 0) ∷ [])
    × (tracked RightToLeft (pos 4) (None ∷ Some 3 ∷ []) (in_row (pos 0) (pos 0) ∷ in_row (pos 200) (pos 0) ∷ [])
    ≡ in_row (pos 0) (pos 0) ∷ in_row (pos 204) (pos 0) ∷ [])

-- offsets stay, columns change in y, and sums wrap
abbrev pub OffsetsStay : Type 0
OffsetsStay =
    (tracked LeftToRight (negsuc 20) (Some 0 ∷ []) (in_row (pos 500) (pos 3) ∷ [])
    ≡ in_row (pos 479) (pos 3) ∷ [])
    × (tracked TopToBottom (pos 3) (Some 0 ∷ []) (in_column (negsuc 499) (pos 4) ∷ [])
    ≡ in_column (negsuc 496) (pos 4) ∷ [])
    × (tracked LeftToRight (pos 2) (Some 0 ∷ []) (in_row (pos 2147483647) (pos 0) ∷ [])
    ≡ in_row (negsuc 2147483646) (pos 0) ∷ [])
