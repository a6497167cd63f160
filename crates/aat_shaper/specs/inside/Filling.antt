-- What is known while lines are filled.
use Rattle.std.specs.Prelude.{◌≡◌, ◌⊎◌, ◌++◌, ℕ, ℤ, ◌+◌, ◌-◌, ◌*◌, ◌<◌, ◌≤◌, ◌+ℤ◌, ◌≤ℤ◌, pos, Bool, true, false, List, Option, None, Some, All, fold, length, map, take, drop, slice_range, if◌then◌else◌}
use Rattle.aat_shaped_text.specs.Parts.{cut_before, looks, shaped_at}
use Rattle.aat_shaped_text.specs.ShapedText.{most_text, shaped_text}
use Rattle.aat_shaped_text.specs.declared.text.ShapedGlyph.{ShapedGlyph}
use Rattle.aat_shaped_text.specs.declared.text.TextGlyph.{TextGlyph}
use Rattle.aat_shaper.specs.Lines.{Paragraph, drawn_alone, room_of, start_of, stop_at, width_of}
use Rattle.aat_shaper.specs.Shaper.{ShaperValue, value_along}
use Rattle.aat_shaper.specs.declared.lines.LineStop.{LineStop}
use Rattle.aat_shaper.specs.declared.lines.filling.Filling.{Filling}
use Rattle.aat_shaper.specs.declared.lines.tries.LineGlyphs.{LineGlyphs}
use Rattle.aat_shaper.specs.declared.lines.tries.LineGlyphs.TheVariants.{Alone, Stretch}
use Rattle.aat_shaper.specs.declared.lines.tries.TriedLine.{TriedLine}
use Rattle.aat_shaper.specs.declared.lines.width.Summed.{Summed}

-- the text that is filled in
abbrev pub paragraph_of : Filling → Paragraph
paragraph_of f = record {
  value = f.value;
  font = f.font.now;
  direction = f.direction;
  features = f.features.now;
  text = f.text.now;
  stops = f.stops.now;
  hides_ignorables = f.hides_ignorables;
  width = f.width;
}

-- stops rise within a text of n glyphs
pub record AreStops (n : ℕ) (stops : List LineStop) : Type 0 where
  pub rising : (j : ℕ) → j < length stops → start_of stops j < (stop_at stops j).place
  pub within : (j : ℕ) → j < length stops → (stop_at stops j).place ≤ n

-- what is known of a text while its lines are filled
pub record IsReady (f : Filling) : Type 0 where
  pub short : length f.text.now ≤ most_text
  pub stops : AreStops (length f.text.now) f.stops.now
  pub drawn : f.whole.now ≡ shaped_text f.value f.font.now f.direction f.features.now f.text.now
  pub bounded : length f.whole.now ≤ 0x3FFFFFFF

-- the room that glyphs take
abbrev pub room_of_all : Paragraph → Option ℕ → List ShapedGlyph → ℤ
room_of_all p hang glyphs = fold (λ sum g. sum +ℤ room_of p hang g) (pos 0) glyphs

-- what hangs, if anything does, is of clusters from c on
abbrev pub HangsFrom : ℕ → Option ℕ → Type 0
HangsFrom c None = Unit {0}
HangsFrom c (Some h) = c ≤ h

-- a stretch of what is drawn of the whole text was summed up: its room is known wherever none of its glyphs hangs
pub record IsSummed (f : Filling) (s : Summed) : Type 0 where
  pub order : s.from ≤ s.to
  pub within : s.to ≤ length f.whole.now
  pub sum :
      (hang : Option ℕ) → HangsFrom s.past hang
      → s.sum ≡ room_of_all (paragraph_of f) hang (slice_range f.whole.now s.from s.to)
  pub low : pos 0 ≤ℤ (s.sum +ℤ pos (0x8000_0000 * (s.to - s.from)))
  pub high : s.sum ≤ℤ pos (0x8000_0000 * (s.to - s.from))

-- a shaper shapes parts of the text
pub record Shapes (f : Filling) (shaper : ShaperValue) : Type 0 where
  pub font : shaper.font ≡ f.font.now
  pub value : value_along shaper.values f.direction ≡ f.value

-- all clusters before place i of a text are below c, and none from there on
pub record IsParted (c i : ℕ) (text : List TextGlyph) : Type 0 where
  pub below : All (λ g. g.cluster < c) (take i text)
  pub above : All (λ g. c ≤ g.cluster) (drop i text)

-- what is drawn of a text may be broken before place k, and is cut there at place i of the text
pub record IsOpen (text : List TextGlyph) (glyphs : List ShapedGlyph) (k i : ℕ) : Type 0 where
  pub behind : 0 < k
  pub within : k < length glyphs
  pub breaks : (shaped_at glyphs k).may_break_before ≡ true
  pub parted : IsParted (cut_before glyphs k) i text

-- what is drawn of a text parts before place k as the text does at place i: at its start, at its end, or where it may
-- be broken
abbrev pub IsCut : Bool → List TextGlyph → List ShapedGlyph → ℕ → ℕ → Type 0
IsCut backward text glyphs k i =
    ((i ≡ 0) × (k ≡ (if backward then length glyphs else 0)))
    ⊎ (((i ≡ length text) × (k ≡ (if backward then 0 else length glyphs))) ⊎ IsOpen text glyphs k i)

-- the glyphs of a line that was tried
abbrev pub glyphs_of : LineGlyphs → List ShapedGlyph → List ShapedGlyph → List ShapedGlyph
glyphs_of (Stretch from to) whole alone = slice_range whole from to
glyphs_of Alone whole alone = alone

-- a line that was tried is within what is drawn of the whole text
abbrev pub IsWithin : ℕ → LineGlyphs → Type 0
IsWithin n (Stretch from to) = (from < to) × (to ≤ n)
IsWithin n Alone = Unit {0}

-- A line was tried that takes in the stops from q up to j, with what was shaped by itself: its glyphs look as its part
-- of the text does by itself, and it is known whether they are no wider than a line.
pub record IsTried (f : Filling) (q j : ℕ) (alone : List ShapedGlyph) (line : TriedLine) : Type 0 where
  pub last : line.last ≡ j
  pub within : IsWithin (length f.whole.now) line.glyphs
  pub looks_alone : map looks (glyphs_of line.glyphs f.whole.now alone) ≡ map looks (drawn_alone (paragraph_of f) q j)
  pub fits :
      line.fits ≡ true
      → width_of (paragraph_of f) (stop_at f.stops.now j).hang (glyphs_of line.glyphs f.whole.now alone) ≤ f.width
  pub wide :
      line.fits ≡ false
      → f.width < width_of (paragraph_of f) (stop_at f.stops.now j).hang (drawn_alone (paragraph_of f) q j)

-- a line that takes in the stops from q up to j has to end there, or would be too wide with the next one
abbrev pub IsFull : Paragraph → ℕ → ℕ → Type 0
IsFull p q j =
    (stop_at p.stops j).is_forced ≡ false → j + 1 < length p.stops
    → p.width < width_of p (stop_at p.stops (j + 1)).hang (drawn_alone p q (j + 1))

-- glyphs are added that look as those of a line
abbrev pub AreAdded : List ShapedGlyph → List ShapedGlyph → List ShapedGlyph → Type 0
AreAdded line old new = (added : List ShapedGlyph) × (new ≡ old ++ added) × (map looks added ≡ map looks line)
