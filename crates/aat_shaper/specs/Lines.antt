-- A text in lines of a width. (No chapter of the manual: where a line ends is the shaper's own.)
use Rattle.std.specs.Prelude.{◌≡◌, ℕ, ℤ, ◌+◌, ◌-◌, ◌<◌, ◌≤◌, ◌==◌, ◌&&◌, ◌||◌, ◌+ℤ◌, pos, Bool, not, nat_lt, nat_le, false, true, List, [], ◌∷◌, ◌++◌, Option, Some, None, length, map, fold, slice_index_or, slice_range, unsigned_abs, if◌then◌else◌}
use Rattle.aat_glyph.specs.Directions.{is_horizontal}
use Rattle.aat_glyph.specs.declared.glyph.Direction.{Direction}
use Rattle.aat_font.specs.declared.face.hb_font_t.{hb_font_t}
use Rattle.aat_font.specs.declared.plan.Feature.{Feature}
use Rattle.aat_run.specs.declared.error.AatError.{AatError}
use Rattle.aat_shaped_text.specs.Parts.{looks}
use Rattle.aat_shaped_text.specs.ShapedText.{RefusesText, shaped_text}
use Rattle.aat_shaped_text.specs.declared.text.ShapedGlyph.{ShapedGlyph}
use Rattle.aat_shaped_text.specs.declared.text.TextGlyph.{TextGlyph}
use Rattle.aat_shaper.specs.declared.lines.LineStop.{LineStop}
use Rattle.aat_shaper.specs.declared.lines.TextLine.{TextLine}

-- the end of a text of n glyphs as a stop, where nothing hangs
abbrev pub text_end : ℕ → LineStop
text_end n = record { place = n; hang = None; is_forced = true }

-- the stops of a text of n glyphs behind place s: those that rise, and its end
abbrev pub stops_behind : ℕ → ℕ → List LineStop → List LineStop
stops_behind s n [] = if nat_lt s n then text_end n ∷ [] else []
stops_behind s n (stop ∷ stops) =
    if nat_lt s stop.place && nat_le stop.place n then stop ∷ stops_behind stop.place n stops
    else stops_behind s n stops

-- the stop of a number
abbrev pub stop_at : List LineStop → ℕ → LineStop
stop_at stops j = slice_index_or stops j (text_end 0)

-- where the line begins whose first stop has a number: at the stop before it, or at the start of the text
abbrev pub start_of : List LineStop → ℕ → ℕ
start_of stops q = if q == 0 then 0 else (stop_at stops (q - 1)).place

-- what is broken into lines: a text, tracked by a value, with its direction and features; the stops where its lines
-- may end; whether ignorable glyphs count for no width; and the width
pub record Paragraph : Type 0 where
  pub value : ℤ
  pub font : hb_font_t
  pub direction : Direction
  pub features : List Feature
  pub text : List TextGlyph
  pub stops : List LineStop
  pub hides_ignorables : Bool
  pub width : ℕ

-- what is drawn of the text from the place before stop q up to stop j, shaped by itself
abbrev pub drawn_alone : Paragraph → ℕ → ℕ → List ShapedGlyph
drawn_alone p q j =
    shaped_text p.value p.font p.direction p.features
    (slice_range p.text (start_of p.stops q) (stop_at p.stops j).place)

-- a glyph hangs over the end of its line: it is of a cluster from which on that is so
abbrev pub hangs : Option ℕ → ShapedGlyph → Bool
hangs None g = false
hangs (Some c) g = not (nat_lt g.cluster c)

-- the room that a glyph takes along the line
abbrev pub room_of : Paragraph → Option ℕ → ShapedGlyph → ℤ
room_of p hang g =
    if hangs hang g || (p.hides_ignorables && g.is_ignorable) then pos 0
    else if is_horizontal p.direction then g.x_advance else g.y_advance

-- how wide glyphs are
abbrev pub width_of : Paragraph → Option ℕ → List ShapedGlyph → ℕ
width_of p hang glyphs = unsigned_abs (fold (λ sum g. sum +ℤ room_of p hang g) (pos 0) glyphs)

-- Glyphs are a line of a text that takes in its stops from q on, and ends at stop j: they look as its part of the text
-- does by itself, they are no wider than the width unless that is its first stop, no stop before it is forced, and
-- with the text up to the next stop it would be wider unless it has to end.
pub record IsLine (p : Paragraph) (q j : ℕ) (glyphs : List ShapedGlyph) : Type 0 where
  pub alone : map looks glyphs ≡ map looks (drawn_alone p q j)
  pub fits : q < j → width_of p (stop_at p.stops j).hang glyphs ≤ p.width
  pub unforced : (i : ℕ) → q ≤ i → i < j → (stop_at p.stops i).is_forced ≡ false
  pub full :
      (stop_at p.stops j).is_forced ≡ false → j + 1 < length p.stops
      → p.width < width_of p (stop_at p.stops (j + 1)).hang (drawn_alone p q (j + 1))

-- the lines of a text that take in its stops before q, one behind the other, and the glyphs of all
pub data AreLines (p : Paragraph) : ℕ → List ShapedGlyph → List TextLine → Type 0 where
  none : AreLines p 0 [] []
  more :
      {q j : ℕ} {glyphs line : List ShapedGlyph} {lines : List TextLine}
      → AreLines p q glyphs lines → q ≤ j → j < length p.stops → IsLine p q j line
      → AreLines p (j + 1) (glyphs ++ line)
      (lines ++ (record { text_end = (stop_at p.stops j).place; glyphs_end = length (glyphs ++ line) } ∷ []))

-- where the last of some lines ends
abbrev pub end_of : List TextLine → ℕ
end_of lines = fold (λ end line. line.text_end) 0 lines

-- why a text is not broken into lines: a part of it is refused
abbrev pub RefusesLines : hb_font_t → Direction → List Feature → List TextGlyph → AatError → Type 0
RefusesLines face d features text error =
    (s e : ℕ) × RefusesText face d features (slice_range text s e) error
