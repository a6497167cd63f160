-- What is drawn of a text in columns. (No chapter of the manual: that the layer knows no columns is HarfBuzz's.)
use Rattle.std.specs.Prelude.{ℕ, Bool, true, List, map, if◌then◌else◌}
use Rattle.aat_read_metrics.specs.declared.glyph_metrics.Origin.{Origin}
use Rattle.aat_shaped_text.specs.declared.text.ShapedGlyph.{ShapedGlyph}
use Rattle.aat_showing.specs.Lengths.{minus, plus, signed}

-- how glyphs stand in columns: how far the pen moves for one in a row and in a column, and its origin in a column
pub record ColumnMetrics : Type 0 where
  pub across : ℕ → ℕ
  pub down : ℕ → ℕ
  pub origin : ℕ → Origin

-- a glyph with another advance along the line in place of its own: in a column the pen moves down
abbrev pub with_advance : Bool → ℕ → ℕ → ShapedGlyph → ShapedGlyph
with_advance is_column own other g =
    if is_column
    then record g { y_advance = minus (plus g.y_advance (signed own)) (signed other) }
    else record g { x_advance = plus (minus g.x_advance (signed own)) (signed other) }

-- a glyph, less its origin
abbrev pub less_origin : Origin → ShapedGlyph → ShapedGlyph
less_origin origin g = record g { x_offset = minus g.x_offset origin.x; y_offset = minus g.y_offset origin.y }

-- a glyph in a column: its advance down in place of that in a row, and drawn from its origin there
abbrev pub in_column : ColumnMetrics → ShapedGlyph → ShapedGlyph
in_column m g =
    less_origin (m.origin g.glyph_id) (with_advance true (m.across g.glyph_id) (m.down g.glyph_id) g)

-- glyphs in a column
abbrev pub in_columns : ColumnMetrics → List ShapedGlyph → List ShapedGlyph
in_columns m glyphs = map (in_column m) glyphs
