-- What a shaper is to its callers.
use Rattle.std.specs.Prelude.{ℕ, ℤ, pos, Bool, List, if◌then◌else◌}
use Rattle.aat_font.specs.declared.face.hb_font_t.{hb_font_t}
use Rattle.aat_glyph.specs.Directions.{is_horizontal}
use Rattle.aat_glyph.specs.declared.glyph.Direction.{Direction}
use Rattle.aat_glyph.specs.declared.glyph.Direction.TheVariants.{LeftToRight, TopToBottom}
use Rattle.aat_glyph.specs.placement.Tracks.{TrackingTable, tracking_along}
use Rattle.aat_shaped_text.specs.declared.text.ShapedGlyph.{ShapedGlyph}

-- the values by which text in rows and text in columns are tracked, in units of the font
pub record TrackValues : Type 0 where
  pub rows : ℤ
  pub columns : ℤ

-- the value of a text of a direction
abbrev pub value_along : TrackValues → Direction → ℤ
value_along values d = if is_horizontal d then values.rows else values.columns

-- those that track nothing
abbrev pub no_values : TrackValues
no_values = record { rows = pos 0; columns = pos 0 }

-- those of a track of a tracking table at a point size
abbrev pub values_at : TrackingTable → ℤ → ℕ → TrackValues
values_at table track size = record {
  rows = tracking_along table LeftToRight track size;
  columns = tracking_along table TopToBottom track size;
}

-- a shaper: its font, the values by which it tracks, the glyphs of the text that was shaped last, and whether that
-- one's budget was used up
pub record ShaperValue : Type 0 where
  pub font : hb_font_t
  pub values : TrackValues
  pub glyphs : List ShapedGlyph
  pub is_budget_used_up : Bool
