-- A text that is drawn in two parts. (No chapter of the manual: where a line may be broken is the shaper's own.)
use Rattle.std.specs.Prelude.{◌≡◌, ℕ, ℤ, ◌+◌, ◌-◌, ◌<◌, ◌≤◌, not, true, false, nat_lt, None, pos, List, drop, filter, length, map, max, slice_index_or, take}
use Rattle.std.specs.Bool.{MatchBool}
use Rattle.aat_glyph.specs.Directions.{is_backward}
use Rattle.aat_glyph.specs.declared.glyph.Direction.{Direction}
use Rattle.aat_font.specs.declared.face.hb_font_t.{hb_font_t}
use Rattle.aat_font.specs.declared.plan.Feature.{Feature}
use Rattle.aat_shaped_text.specs.ShapedText.{most_text, shaped_text}
use Rattle.aat_shaped_text.specs.declared.text.CharacterKind.TheVariants.{Other}
use Rattle.aat_shaped_text.specs.declared.text.ShapedGlyph.{ShapedGlyph}
use Rattle.aat_shaped_text.specs.declared.text.TextGlyph.{TextGlyph}

-- what is read past the last glyph that is drawn: all is 0
abbrev pub no_shaped_glyph : ShapedGlyph
no_shaped_glyph = record {
  glyph_id = 0;
  cluster = 0;
  is_ignorable = false;
  is_mark = false;
  kind = Other;
  x_advance = pos 0;
  y_advance = pos 0;
  x_offset = pos 0;
  y_offset = pos 0;
  attached_to = None;
  may_break_before = false;
}

-- the glyph that is drawn at place k
abbrev pub shaped_at : List ShapedGlyph → ℕ → ShapedGlyph
shaped_at glyphs k = slice_index_or glyphs k no_shaped_glyph

-- how a glyph looks: its id, its cluster, whether it is ignorable and whether a mark, the kind of its character, its
-- advances and its offsets
abbrev pub looks : ShapedGlyph → ShapedGlyph
looks g = record g { attached_to = None; may_break_before = false }

-- the cluster at which the text is cut where what is drawn of it is broken before place k: the later of the two that
-- meet there
abbrev pub cut_before : List ShapedGlyph → ℕ → ℕ
cut_before glyphs k = max (shaped_at glyphs (k - 1)).cluster (shaped_at glyphs k).cluster

-- the text before a cluster
abbrev pub text_before : ℕ → List TextGlyph → List TextGlyph
text_before c text = filter (λ g. nat_lt g.cluster c) text

-- the text from a cluster on
abbrev pub text_from : ℕ → List TextGlyph → List TextGlyph
text_from c text = filter (λ g. not (nat_lt g.cluster c)) text

-- what is drawn looks before place k as one text does by itself, tracked by the same value, and from place k on as
-- another
pub record LooksAsParts
    (v : ℤ) (face : hb_font_t) (d : Direction) (features : List Feature) (first second : List TextGlyph)
    (glyphs : List ShapedGlyph) (k : ℕ) : Type 0
  where
    pub before : map looks (take k glyphs) ≡ map looks (shaped_text v face d features first)
    pub behind : map looks (drop k glyphs) ≡ map looks (shaped_text v face d features second)

-- What is drawn of a text looks before place k as the text before the cut does, shaped by itself with the same
-- features and tracked by the same value, and from place k on as the text from the cut on does. In a backward text the
-- parts change places.
abbrev pub IsDrawnInParts :
    ℤ → hb_font_t → Direction → List Feature → List TextGlyph → List ShapedGlyph → ℕ → Type 0
IsDrawnInParts v face d features text glyphs k =
    let early = text_before (cut_before glyphs k) text in
    let late = text_from (cut_before glyphs k) text in
    MatchBool (is_backward d) (LooksAsParts v face d features late early glyphs k)
    (LooksAsParts v face d features early late glyphs k)

-- what is drawn may be broken before each glyph that says so
abbrev pub BreaksHold : ℤ → hb_font_t → Direction → List Feature → List TextGlyph → List ShapedGlyph → Type 0
BreaksHold v face d features text glyphs =
    (k : ℕ) → k < length glyphs → (shaped_at glyphs k).may_break_before ≡ true
    → IsDrawnInParts v face d features text glyphs k

-- so it is with each text of at most 2^24 glyphs, by whatever value it is tracked
abbrev pub TextsAreDrawnInParts : Type 0
TextsAreDrawnInParts =
    (v : ℤ) (face : hb_font_t) (d : Direction) (features : List Feature) (text : List TextGlyph)
    → length text ≤ most_text
    → BreaksHold v face d features text (shaped_text v face d features text)

-- what is drawn may be broken before place k only where one text by itself may be, and behind place k only where another
-- may
pub record BreaksAsParts
    (v : ℤ) (face : hb_font_t) (d : Direction) (features : List Feature) (first second : List TextGlyph)
    (glyphs : List ShapedGlyph) (k : ℕ) : Type 0
  where
    pub before :
        (j : ℕ) → j < k → (shaped_at glyphs j).may_break_before ≡ true
        → (shaped_at (shaped_text v face d features first) j).may_break_before ≡ true
    pub behind :
        (j : ℕ) → 0 < j → (shaped_at glyphs (k + j)).may_break_before ≡ true
        → (shaped_at (shaped_text v face d features second) j).may_break_before ≡ true

-- What is drawn of a text may be broken before place k only where the text before the cut may be by itself, and behind
-- place k only where the text from the cut on may. In a backward text the parts change places.
abbrev pub BreaksInParts :
    ℤ → hb_font_t → Direction → List Feature → List TextGlyph → List ShapedGlyph → ℕ → Type 0
BreaksInParts v face d features text glyphs k =
    let early = text_before (cut_before glyphs k) text in
    let late = text_from (cut_before glyphs k) text in
    MatchBool (is_backward d) (BreaksAsParts v face d features late early glyphs k)
    (BreaksAsParts v face d features early late glyphs k)

-- so it is with each text of at most 2^24 glyphs, before each glyph that says so
abbrev pub PartsKeepBreaks : Type 0
PartsKeepBreaks =
    (v : ℤ) (face : hb_font_t) (d : Direction) (features : List Feature) (text : List TextGlyph)
    → length text ≤ most_text → (k : ℕ) → k < length (shaped_text v face d features text)
    → (shaped_at (shaped_text v face d features text) k).may_break_before ≡ true
    → BreaksInParts v face d features text (shaped_text v face d features text) k
