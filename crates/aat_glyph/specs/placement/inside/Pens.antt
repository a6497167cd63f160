-- The pens of a line.
use Rattle.std.specs.Prelude.{ℕ, pos, List}
use Rattle.aat_glyph.specs.declared.glyph.GlyphPosition.{GlyphPosition}
use Rattle.aat_glyph.specs.declared.placement.pens.Pen.{Pen}
use Rattle.aat_glyph.specs.placement.Attachments.{X, Y, pen}

-- the pen at the line's beginning
abbrev pub no_pen : Pen
no_pen = record { x = pos 0; y = pos 0 }

-- the pen at place i
abbrev pub pen_at : List GlyphPosition → ℕ → Pen
pen_at qs i = record { x = pen X qs i; y = pen Y qs i }
