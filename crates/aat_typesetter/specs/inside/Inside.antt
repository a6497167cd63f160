-- How the fields of a typesetter show its value.
use Rattle.std.specs.Prelude.{◌≡◌, ◌&&◌, List, [], None, Some, option_map, if◌then◌else◌}
use Rattle.aat_face.specs.Faces.{FaceValue, glyph_of_character}
use Rattle.aat_font.specs.declared.plan.Feature.{Feature}
use Rattle.aat_shaper.specs.Shaper.{ShaperValue, no_values, value_along}
use Rattle.aat_showing.specs.FaceMetrics.{mark_placing, space_metrics}
use Rattle.aat_showing.specs.HiddenParts.{Showing}
use Rattle.aat_typesetter.specs.Prepared.{Prepared}
use Rattle.aat_typesetter.specs.ScriptSettings.{features_for}
use Rattle.aat_typesetter.specs.Typeset.{Setting, TypesetterValue, columns_for, showing_for}
use Rattle.aat_typesetter.specs.declared.showing.Shown.{Shown}
use Rattle.aat_typesetter.specs.inside.Drawn.{drawn_by}
use Rattle.aat_typesetter.specs.declared.typesetter.Typesetter.TheInside.{Inside}

-- the face with its font, and what is shown of the text that was typeset last
abbrev pub typesetter_of : {Z : Type 0} → Inside Z → TypesetterValue
typesetter_of a = record {
  face = a.face.now;
  font = a.shaper.font;
  text = a.text;
  shaped = if a.is_set then a.shaper.glyphs else [];
  glyphs = drawn_by a.drawn.is_as_shaped a.shaper.glyphs a.drawn.glyphs.items;
  is_budget_used_up = a.is_set && a.shaper.is_budget_used_up;
}

-- without tracks the shaper tracks nothing
pub record TracksByTable {Z : Type 0} (a : Inside Z) : Type 0 where
  pub untracked : a.face.now.tracking ≡ None → a.shaper.values ≡ no_values

-- a text that is ready, as a shaper of a face shapes it
abbrev pub setting_by : FaceValue → ShaperValue → List Feature → Prepared → Setting
setting_by face shaper features text = record {
  font = shaper.font;
  space = glyph_of_character face 0x20;
  showing = showing_for face shaper.font text.rules text.direction;
  value = value_along shaper.values text.direction;
  features = features_for shaper.font text.rules features;
  text = text;
}

-- how glyphs of a face are shown
abbrev pub showing_by : FaceValue → Shown → Showing
showing_by face s = record {
  columns = columns_for face s.direction;
  spaces = Some (space_metrics face s.direction);
  marks = s.marks;
  boxes = option_map (mark_placing face s.direction) s.boxes;
  ignorables = Some (record { direction = s.direction; space = s.space });
}
