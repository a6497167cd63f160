-- A glyph beside its parent.
use Rattle.std.specs.Prelude.{ℕ, List, Option, None, Some, if◌then◌else◌, slice_index_or}
use Rattle.aat_glyph.specs.Directions.{is_vertical}
use Rattle.aat_glyph.specs.declared.glyph.Direction.{Direction}
use Rattle.aat_glyph.specs.declared.glyph.GlyphPosition.{GlyphPosition}
use Rattle.aat_glyph.specs.declared.placement.pens.Pen.{Pen}
use Rattle.aat_glyph.specs.placement.Attachments.{at, is_mark, minus, plus}
use Rattle.aat_glyph.specs.placement.inside.Pens.{no_pen}

-- a mark at its pen, beside the glyph that it follows, at that one's pen
abbrev pub marked_beside : GlyphPosition → Pen → GlyphPosition → Pen → GlyphPosition
marked_beside followed there q here = record q {
  x_offset = plus followed.x_offset (minus (plus q.x_offset there.x) here.x);
  y_offset = plus followed.y_offset (minus (plus q.y_offset there.y) here.y);
}

-- a cursive glyph beside the one that it follows
abbrev pub joined_to : Direction → GlyphPosition → GlyphPosition → GlyphPosition
joined_to d followed q =
    if is_vertical d then record q { x_offset = plus followed.x_offset q.x_offset }
    else record q { y_offset = plus followed.y_offset q.y_offset }

-- the glyph at place i beside its parent, if it has one
abbrev pub beside : Direction → List Pen → List GlyphPosition → ℕ → Option ℕ → GlyphPosition
beside d pens qs i None = at qs i
beside d pens qs i (Some p) =
    if is_mark (at qs i)
    then marked_beside (at qs p) (slice_index_or pens p no_pen) (at qs i) (slice_index_or pens i no_pen)
    else joined_to d (at qs p) (at qs i)
