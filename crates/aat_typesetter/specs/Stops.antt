-- Where lines of a text may end, among its glyphs.
use Rattle.std.specs.Prelude.{ℕ, ◌==◌, Bool, true, false, List, [], ◌∷◌, ◌++◌, length, map, fold, count_by, nat_lt, reverse, take, take_while, Option, Some, None, if◌then◌else◌}
use Rattle.aat_lookup.specs.declared.glyph_id.GlyphId.{GlyphId}
use Rattle.aat_shaped_text.specs.Breaks.{is_rising}
use Rattle.aat_shaped_text.specs.declared.text.TextGlyph.{TextGlyph}
use Rattle.aat_shaper.specs.declared.lines.LineStop.{LineStop}
use Rattle.aat_text.specs.declared.lines.LineEnd.{LineEnd}

-- a glyph is the space of the font, if it has one
abbrev pub is_space : Option GlyphId → TextGlyph → Bool
is_space None g = false
is_space (Some space) g = g.glyph_id == space.0

-- the spaces that end a text, from its end on
abbrev pub spaces_at_end : Option GlyphId → List TextGlyph → List TextGlyph
spaces_at_end space text = take_while (is_space space) (reverse text)

-- the cluster of the first of them, which is met last
abbrev pub hang_of : Option GlyphId → List TextGlyph → Option ℕ
hang_of space text = fold (λ hang g. Some g.cluster) None (spaces_at_end space text)

-- how many glyphs of a text are of clusters before one
abbrev pub count_before : ℕ → List TextGlyph → ℕ
count_before cluster text = count_by (λ g. nat_lt g.cluster cluster) text

-- the stop behind so many glyphs: the spaces before it hang over the end of its line
abbrev pub stop_behind : Option GlyphId → List TextGlyph → Bool → ℕ → LineStop
stop_behind space text is_forced place = record {
  place = place;
  hang = hang_of space (take place text);
  is_forced = is_forced;
}

-- the stops at these places of a text: each place among the glyphs
abbrev pub stops_at : Option GlyphId → List TextGlyph → List LineEnd → List LineStop
stops_at space text ends = map (λ end. stop_behind space text end.is_forced (count_before end.place text)) ends

-- the stops of a text whose lines may end at these places, and its end; where clusters fall along it that is the only
-- one
abbrev pub stops_for : Option GlyphId → List TextGlyph → List LineEnd → List LineStop
stops_for space text ends =
    (if is_rising text then stops_at space text ends else []) ++ (stop_behind space text true (length text) ∷ [])
