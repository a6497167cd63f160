-- A text in one line, as it is typeset.
use Rattle.std.specs.Prelude.{◌≡◌, ℕ, ℤ, pos, ◌<◌, ◌≤◌, Bool, true, false, List, [], length, option_map, Option, Some, None, if◌then◌else◌}
use Rattle.aat_characters.specs.declared.script_rules.ScriptRules.{ScriptRules}
use Rattle.aat_glyph.specs.Directions.{is_vertical}
use Rattle.aat_glyph.specs.declared.glyph.Direction.{Direction}
use Rattle.aat_showing.specs.Columns.{ColumnMetrics}
use Rattle.aat_showing.specs.FaceMetrics.{column_metrics, mark_placing, space_metrics}
use Rattle.std.specs.Option.{option_map_or}
use Rattle.aat_face.specs.Faces.{FaceValue, glyph_of_character}
use Rattle.aat_font.specs.Face.{tables_of}
use Rattle.aat_font.specs.declared.face.hb_font_t.{hb_font_t}
use Rattle.aat_font.specs.declared.plan.Feature.{Feature}
use Rattle.aat_lookup.specs.declared.glyph_id.GlyphId.{GlyphId}
use Rattle.aat_map.specs.Adding.{first_too_large_among}
use Rattle.aat_run.specs.declared.error.AatError.{AatError}
use Rattle.aat_shaped_text.specs.Parts.{shaped_at}
use Rattle.aat_shaped_text.specs.ShapedText.{RefusesText, most_text, shaped_text, uses_up_budget}
use Rattle.aat_shaped_text.specs.declared.text.ShapedGlyph.{ShapedGlyph}
use Rattle.aat_shaped_text.specs.declared.text.TextGlyph.{TextGlyph}
use Rattle.aat_shaper.specs.Shaper.{TrackValues, no_values, value_along, values_at}
use Rattle.aat_showing.specs.HiddenParts.{IsShownInParts, Showing, shown}
use Rattle.aat_typesetter.specs.Prepared.{Prepared, glyph_text, no_text, options_for_lines, prepared}
use Rattle.aat_typesetter.specs.ScriptSettings.{boxes_for, features_for, marks_for}
use Rattle.aat_typesetter.specs.declared.options.TextOptions.{TextOptions}

-- a typesetter: its face, and the font of that face for the layer; of the text that was typeset last its glyphs and its
-- direction, what was shaped of it, what is drawn of it, and whether its budget was used up
pub record TypesetterValue : Type 0 where
  pub face : FaceValue
  pub font : hb_font_t
  pub text : Prepared
  pub shaped : List ShapedGlyph
  pub glyphs : List ShapedGlyph
  pub is_budget_used_up : Bool

-- it has typeset nothing
abbrev pub nothing_set : TypesetterValue → TypesetterValue
nothing_set t = record t { text = no_text; shaped = []; glyphs = []; is_budget_used_up = false }

-- the point size at which texts are tracked: the one that is told, else 12 points, HarfBuzz's, where the file has
-- `STAT`
abbrev pub size_for : FaceValue → Option ℕ → ℕ
size_for face None = if face.has_stat then 786432 else 0
size_for face (Some size) = size

-- the values by which texts are tracked: those of the normal track of the face at the size, none without tracks
abbrev pub values_for : FaceValue → Option ℕ → TrackValues
values_for face size = option_map_or (λ table. values_at table (pos 0) (size_for face size)) face.tracking no_values

-- how glyphs of a face stand in columns, where the text is vertical
abbrev pub columns_for : FaceValue → Direction → Option ColumnMetrics
columns_for face direction = if is_vertical direction then Some (column_metrics face) else None

-- how what is drawn of a text in a face is shown, as HarfBuzz does: in columns where it is vertical, spaces as wide as
-- they are to be, marks without width and placed by boxes where the script asks for that, and ignorable glyphs hidden
unfoldable pub showing_for : FaceValue → hb_font_t → Option ScriptRules → Direction → Showing
showing_for face font rules direction = record {
  columns = columns_for face direction;
  spaces = Some (space_metrics face direction);
  marks = marks_for font rules direction;
  boxes = option_map (mark_placing face direction) (boxes_for font rules direction);
  ignorables = Some (record { direction = direction; space = glyph_of_character face 0x20 });
}

-- what is typeset: a text that is ready, with the font, the glyph of the space, the features, the value by which it is
-- tracked, and how what is drawn is shown
pub record Setting : Type 0 where
  pub font : hb_font_t
  pub space : Option GlyphId
  pub showing : Showing
  pub value : ℤ
  pub features : List Feature
  pub text : Prepared

-- a text that is ready, as the options ask
abbrev pub setting_of : TypesetterValue → TextOptions → Prepared → Setting
setting_of t options text = record {
  font = t.font;
  space = glyph_of_character t.face 0x20;
  showing = showing_for t.face t.font text.rules text.direction;
  value = value_along (values_for t.face options.size) text.direction;
  features = features_for t.font text.rules options.features.now;
  text = text;
}

-- a text of characters, as the options ask
abbrev pub setting : TypesetterValue → TextOptions → List ℕ → Setting
setting t options text = setting_of t options (prepared t.face options text)

-- a text of glyphs with clusters of their own, as the options ask
abbrev pub setting_of_glyphs : TypesetterValue → TextOptions → List TextGlyph → Setting
setting_of_glyphs t options glyphs = setting_of t options (glyph_text options.direction glyphs)

-- a text of characters that is broken into lines
abbrev pub setting_for_lines : TypesetterValue → TextOptions → List ℕ → Setting
setting_for_lines t options text = setting t (options_for_lines options text) text

-- what is shaped of it
unfoldable pub shaped_setting : Setting → List ShapedGlyph
shaped_setting s = shaped_text s.value s.font s.text.direction s.features s.text.glyphs

-- what is drawn of it
unfoldable pub drawn_setting : Setting → List ShapedGlyph
drawn_setting s = shown s.showing (shaped_setting s)

-- what is drawn of a text in one line
abbrev pub typeset_line : TypesetterValue → TextOptions → List ℕ → List ShapedGlyph
typeset_line t options text = drawn_setting (setting t options text)

-- what is drawn may be broken before each glyph that says so
abbrev pub BreaksHoldIn : Setting → List ShapedGlyph → Type 0
BreaksHoldIn s glyphs =
    (k : ℕ) → k < length glyphs → (shaped_at glyphs k).may_break_before ≡ true
    → IsShownInParts s.showing s.value s.font s.text.direction s.features s.text.glyphs glyphs k

-- its budget of operations is used up
unfoldable pub uses_up : Setting → Bool
uses_up s = uses_up_budget s.font s.text.direction s.features s.text.glyphs

-- the shaper refuses it for an error
unfoldable pub RefusesSetting : Setting → AatError → Type 0
RefusesSetting s error = RefusesText s.font s.text.direction s.features s.text.glyphs error

-- it is within the limits: the text is not too long, and no value of alternates too large
pub record IsWithinLimits (s : Setting) : Type 0 where
  pub short : length s.text.glyphs ≤ most_text
  pub alternates : first_too_large_among (tables_of s.font).feat s.features ≡ None
