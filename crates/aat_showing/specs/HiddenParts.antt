-- Where what is drawn of a text may be broken, its glyphs in their places and its ignorable glyphs hidden. (No chapter
-- of the manual: where a line may be broken is the shaper's own.)
use Rattle.std.specs.Prelude.{◌≡◌, ℕ, ℤ, ◌<◌, ◌≤◌, Bool, true, drop, List, length, map, Option, Some, None, take}
use Rattle.std.specs.Bool.{MatchBool}
use Rattle.aat_font.specs.declared.face.hb_font_t.{hb_font_t}
use Rattle.aat_font.specs.declared.plan.Feature.{Feature}
use Rattle.aat_glyph.specs.Directions.{is_backward}
use Rattle.aat_glyph.specs.declared.glyph.Direction.{Direction}
use Rattle.aat_lookup.specs.declared.glyph_id.GlyphId.{GlyphId}
use Rattle.aat_shaped_text.specs.Parts.{cut_before, looks, shaped_at, text_before, text_from}
use Rattle.aat_shaped_text.specs.ShapedText.{most_text, shaped_text}
use Rattle.aat_shaped_text.specs.declared.text.ShapedGlyph.{ShapedGlyph}
use Rattle.aat_shaped_text.specs.declared.text.TextGlyph.{TextGlyph}
use Rattle.aat_showing.specs.Columns.{ColumnMetrics, in_columns}
use Rattle.aat_showing.specs.Ignorables.{drawn_without_ignorables}
use Rattle.aat_showing.specs.MarkBoxes.{MarkPlacing, place_marks}
use Rattle.aat_showing.specs.Marks.{zero_marks}
use Rattle.aat_showing.specs.Spaces.{SpaceMetrics, widen_spaces}

-- how ignorable glyphs are hidden: the direction of the text, and the space that they become, if the font has one
pub record Hiding : Type 0 where
  pub direction : Direction
  pub space : Option GlyphId

abbrev pub hide_ignorables : Hiding → List ShapedGlyph → List ShapedGlyph
hide_ignorables h glyphs = drawn_without_ignorables h.direction h.space glyphs

-- How what is drawn of a text is shown, each where that is asked: how glyphs stand in columns, what spaces are as wide
-- as, whether marks without width move, what marks are placed by, and how ignorable glyphs are hidden.
pub record Showing : Type 0 where
  pub columns : Option ColumnMetrics
  pub spaces : Option SpaceMetrics
  pub marks : Option Bool
  pub boxes : Option MarkPlacing
  pub ignorables : Option Hiding

-- glyphs that are changed by what is asked, if anything is
abbrev pub asked :
    {X : Type 0} → (X → List ShapedGlyph → List ShapedGlyph) → Option X → List ShapedGlyph → List ShapedGlyph
asked change None glyphs = glyphs
asked change (Some x) glyphs = change x glyphs

-- glyphs in their places: in columns, then spaces as wide as they are to be, and then marks, first without width and
-- then placed by boxes
abbrev pub positioned : Showing → List ShapedGlyph → List ShapedGlyph
positioned s glyphs =
    asked place_marks s.boxes (asked zero_marks s.marks (asked widen_spaces s.spaces (asked in_columns s.columns glyphs)))

-- glyphs as they are shown: in their places, and then ignorable glyphs are hidden
abbrev pub shown : Showing → List ShapedGlyph → List ShapedGlyph
shown s glyphs = asked hide_ignorables s.ignorables (positioned s glyphs)

-- what is shown of a text that is tracked by a value
abbrev pub shown_text : Showing → ℤ → hb_font_t → Direction → List Feature → List TextGlyph → List ShapedGlyph
shown_text s v face d features text = shown s (shaped_text v face d features text)

-- what is shown looks before place k as what is shown of one text by itself, and from place k on as that of another
pub record ShowsAsParts
    (s : Showing) (v : ℤ) (face : hb_font_t) (d : Direction) (features : List Feature)
    (first second : List TextGlyph) (glyphs : List ShapedGlyph) (k : ℕ) : Type 0
  where
    pub before : map looks (take k glyphs) ≡ map looks (shown_text s v face d features first)
    pub behind : map looks (drop k glyphs) ≡ map looks (shown_text s v face d features second)

-- What is shown of a text looks before place k as the text before the cut does by itself, and from place k on as the
-- text from the cut on does. In a backward text the parts change places.
abbrev pub IsShownInParts :
    Showing → ℤ → hb_font_t → Direction → List Feature → List TextGlyph → List ShapedGlyph → ℕ → Type 0
IsShownInParts s v face d features text glyphs k =
    let early = text_before (cut_before glyphs k) text in
    let late = text_from (cut_before glyphs k) text in
    MatchBool (is_backward d) (ShowsAsParts s v face d features late early glyphs k)
    (ShowsAsParts s v face d features early late glyphs k)

-- so it is with each text of at most 2^24 glyphs, however it is shown, before each glyph that says so
abbrev pub BreaksHoldAsShown : Type 0
BreaksHoldAsShown =
    (s : Showing) (v : ℤ) (face : hb_font_t) (d : Direction) (features : List Feature) (text : List TextGlyph)
    → length text ≤ most_text → (k : ℕ) → k < length (shown_text s v face d features text)
    → (shaped_at (shown_text s v face d features text) k).may_break_before ≡ true
    → IsShownInParts s v face d features text (shown_text s v face d features text) k
