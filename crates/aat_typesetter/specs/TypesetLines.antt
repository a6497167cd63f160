-- A text in lines of a width, as it is typeset.
use Rattle.std.specs.Prelude.{◌≡◌, ℕ, true, List, [], ◌∷◌, fold, length, slice_range}
use Rattle.aat_run.specs.declared.error.AatError.{AatError}
use Rattle.aat_shaped_text.specs.declared.text.ShapedGlyph.{ShapedGlyph}
use Rattle.aat_shaper.specs.Lines.{AreLines, Paragraph, RefusesLines, stops_behind}
use Rattle.aat_shaper.specs.declared.lines.TextLine.{TextLine}
use Rattle.aat_showing.specs.HiddenParts.{Showing, shown}
use Rattle.aat_text.specs.LineEnds.{line_ends}
use Rattle.aat_text.specs.declared.lines.LineEnd.{LineEnd}
use Rattle.aat_typesetter.specs.Stops.{stops_for}
use Rattle.aat_typesetter.specs.Typeset.{Setting, TypesetterValue, setting_for_lines}
use Rattle.aat_typesetter.specs.declared.options.TextOptions.{TextOptions}

-- a line: how many glyphs of the text are before its end, what is shaped of it, and what is drawn of it
pub record SetLine : Type 0 where
  pub text_end : ℕ
  pub shaped : List ShapedGlyph
  pub glyphs : List ShapedGlyph

-- a line, and how it is shown
abbrev pub set_line : Showing → ℕ → List ShapedGlyph → SetLine
set_line showing text_end glyphs = record {
  text_end = text_end;
  shaped = glyphs;
  glyphs = shown showing glyphs;
}

-- lines whose glyphs stand one behind the other from a place on, each by itself
abbrev pub set_lines : Showing → List ShapedGlyph → ℕ → List TextLine → List SetLine
set_lines showing glyphs start [] = []
set_lines showing glyphs start (line ∷ lines) =
    set_line showing line.text_end (slice_range glyphs start line.glyphs_end)
    ∷ set_lines showing glyphs line.glyphs_end lines

-- what is broken into lines of a width
abbrev pub paragraph_for : Setting → List LineEnd → ℕ → Paragraph
paragraph_for s ends width = record {
  value = s.value;
  font = s.font;
  direction = s.text.direction;
  features = s.features;
  text = s.text.glyphs;
  stops = stops_behind 0 (length s.text.glyphs) (stops_for s.space s.text.glyphs ends);
  hides_ignorables = true;
  width = width;
}

-- lines are those of a text: their glyphs, one line behind the other, are the lines of its paragraph, and each line is
-- shown as the text is
abbrev pub AreSetLines : Setting → List LineEnd → ℕ → List SetLine → Type 0
AreSetLines s ends width lines =
    (glyphs : List ShapedGlyph) × (row : List TextLine)
    × AreLines (paragraph_for s ends width) (length (paragraph_for s ends width).stops) glyphs row
    × (lines ≡ set_lines s.showing glyphs 0 row)

-- lines are what is typeset of a text of characters in lines of a width
abbrev pub AreTypesetLines : TypesetterValue → TextOptions → List ℕ → ℕ → List SetLine → Type 0
AreTypesetLines t options text width lines =
    AreSetLines (setting_for_lines t options text) (line_ends options.unit text) width lines

-- the shaper refuses a part of a text for an error
unfoldable pub RefusesParts : Setting → AatError → Type 0
RefusesParts s error = RefusesLines s.font s.text.direction s.features s.text.glyphs error

-- where the last of some lines ends
abbrev pub end_of_lines : List SetLine → ℕ
end_of_lines lines = fold (λ end line. line.text_end) 0 lines
