-- What calls put of texts that are shaped.
use Rattle.std.specs.Prelude.{◌≡◌, ℕ, List, Option, Some, None, length, map}
use Rattle.aat_face.specs.Faces.{FaceValue, font_value}
use Rattle.aat_font.specs.declared.plan.Feature.{Feature}
use Rattle.aat_shaped_text.specs.declared.text.TextGlyph.{TextGlyph}
use Rattle.aat_text.specs.declared.unit.ClusterUnit.{ClusterUnit}
use Rattle.aat_typesetter.specs.Typeset.{IsWithinLimits, Setting, TypesetterValue, drawn_setting, setting, setting_for_lines, setting_of_glyphs}
use Rattle.aat_typesetter.specs.TypesetLines.{AreTypesetLines, SetLine}
use Rattle.aat_typesetter.specs.declared.options.TextOptions.{TextOptions}
use Rattle.aat_records.specs.Lines.{AreLinesPut}
use Rattle.aat_records.specs.Options.{IsTold}
use Rattle.aat_records.specs.Records.{IsPut, glyph_record}
use Rattle.aat_records.specs.declared.lines.LineCounts.{LineCounts}
use Rattle.aat_records.specs.declared.records.GlyphRecord.{GlyphRecord}
use Rattle.aat_records.specs.declared.records.LineRecord.{LineRecord}
use Rattle.aat_records.specs.declared.records.OptionsRecord.{OptionsRecord}
use Rattle.aat_records.specs.declared.held.Held.{Held}

-- a typesetter of the face, and options and features as they are told
pub record IsSetUp (face : FaceValue) (told : OptionsRecord) (unit : ClusterUnit) (features : List Feature)
    (setter : TypesetterValue) (options : TextOptions) : Type 0 where
  pub of_face : setter.face ≡ face
  pub of_font : font_value setter.font ≡ face.font
  pub as_told : IsTold told unit options
  pub with_features : options.features.now ≡ features

-- a text in one line, glyphs in one line, and a text in lines, as they are set
unfoldable pub sets_text : List ℕ → TypesetterValue → TextOptions → Setting
sets_text text setter options = setting setter options text

unfoldable pub sets_glyphs : List TextGlyph → TypesetterValue → TextOptions → Setting
sets_glyphs text setter options = setting_of_glyphs setter options text

unfoldable pub sets_lines : List ℕ → TypesetterValue → TextOptions → Setting
sets_lines text setter options = setting_for_lines setter options text

-- lines are those of a width in which a text is typeset
unfoldable pub AreLinesOf : List ℕ → ℕ → TypesetterValue → TextOptions → List SetLine → Type 0
AreLinesOf text width setter options lines = AreTypesetLines setter options text width lines

-- room has what a typesetter of the face draws of what it sets, within the limits, with clusters that are placed
pub record IsDrawn (sets : TypesetterValue → TextOptions → Setting) (place : ℕ → ℕ) (face : FaceValue)
    (told : OptionsRecord) (unit : ClusterUnit) (features : List Feature) (room put : List GlyphRecord) (count : ℕ)
    : Type 0 where
  pub setter : TypesetterValue
  pub options : TextOptions
  pub set_up : IsSetUp face told unit features setter options
  pub fits : IsWithinLimits (sets setter options)
  pub put_all : IsPut (map (glyph_record place) (drawn_setting (sets setter options))) room put count

-- the same by what is held, if something is
abbrev pub IsDrawnBy : (TypesetterValue → TextOptions → Setting) → (ℕ → ℕ) → Option Held → OptionsRecord
    → ClusterUnit → List Feature → List GlyphRecord → List GlyphRecord → ℕ → Type 0
IsDrawnBy sets place None told unit features room put count = ⊥
IsDrawnBy sets place (Some held) told unit features room put count =
    IsDrawn sets place held.face told unit features room put count

-- rooms have lines of a width in which a text is typeset, within the limits
pub record AreSet (text : List ℕ) (width : ℕ) (setter : TypesetterValue) (options : TextOptions)
    (room put : List GlyphRecord) (rows put_rows : List LineRecord) (counts : LineCounts) : Type 0 where
  pub lines : List SetLine
  pub fits : IsWithinLimits (sets_lines text setter options)
  pub typeset : AreLinesOf text width setter options lines
  pub put_all : AreLinesPut lines (sets_lines text setter options).text.glyphs (length text)
      room put rows put_rows counts

-- rooms have the lines in which a typesetter of the face typesets a text
pub record AreBroken (text : List ℕ) (width : ℕ) (face : FaceValue) (told : OptionsRecord) (unit : ClusterUnit)
    (features : List Feature) (room put : List GlyphRecord) (rows put_rows : List LineRecord) (counts : LineCounts)
    : Type 0 where
  pub setter : TypesetterValue
  pub options : TextOptions
  pub set_up : IsSetUp face told unit features setter options
  pub set : AreSet text width setter options room put rows put_rows counts

-- the same by what is held, if something is
abbrev pub AreBrokenBy : List ℕ → ℕ → Option Held → OptionsRecord → ClusterUnit → List Feature → List GlyphRecord
    → List GlyphRecord → List LineRecord → List LineRecord → LineCounts → Type 0
AreBrokenBy text width None told unit features room put rows put_rows counts = ⊥
AreBrokenBy text width (Some held) told unit features room put rows put_rows counts =
    AreBroken text width held.face told unit features room put rows put_rows counts
