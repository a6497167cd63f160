-- Worked examples of glyphs in columns, of widths of spaces, and of marks that are placed by boxes.
use Rattle.std.specs.Prelude.{◌≡◌, ℕ, ℤ, pos, negsuc, ◌*◌, ◌==◌, true, false, [], ◌∷◌, map, Option, Some, None, if◌then◌else◌}
use Rattle.aat_read_metrics.specs.declared.glyph_metrics.GlyphBox.{GlyphBox}
use Rattle.aat_glyph.specs.declared.glyph.Direction.{Direction}
use Rattle.aat_glyph.specs.declared.glyph.Direction.TheVariants.{LeftToRight, RightToLeft, TopToBottom}
use Rattle.aat_shaped_text.specs.Parts.{no_shaped_glyph}
use Rattle.aat_shaped_text.specs.declared.text.CharacterKind.TheVariants.{Mark, Space}
use Rattle.aat_shaped_text.specs.declared.text.ShapedGlyph.{ShapedGlyph}
use Rattle.aat_shaped_text.specs.declared.text.SpaceWidth.TheVariants.{Em, FifthOfEm, Figure, FourEighteenthsOfEm, FourthOfEm, HalfEm, Narrow, Punctuation, SixteenthOfEm, SixthOfEm, ThirdOfEm}
use Rattle.aat_showing.specs.Columns.{ColumnMetrics, in_columns}
use Rattle.aat_showing.specs.MarkBoxes.{MarkPlacing, place_marks}
use Rattle.aat_showing.specs.Spaces.{SpaceMetrics, space_width, widen_spaces}

-- a glyph with these advances and offsets
abbrev pub glyph_with : ℕ → ℤ → ℤ → ℤ → ℤ → ShapedGlyph
glyph_with id x_advance y_advance x y = record no_shaped_glyph {
  glyph_id = id;
  x_advance = x_advance;
  y_advance = y_advance;
  x_offset = x;
  y_offset = y;
}

-- each glyph is 500 wide and 1,000 high, and its origin in a column lies at (250, 880)
abbrev pub column_of : ColumnMetrics
column_of = record {
  across = λ g. 500;
  down = λ g. 1000;
  origin = λ g. record { x = pos 250; y = pos 880 };
}

-- a glyph that kerning made 20 longer: it stays so
abbrev pub ColumnsRunDown : Type 0
ColumnsRunDown =
    in_columns column_of (glyph_with 5 (pos 0) (negsuc 519) (pos 10) (pos 5) ∷ [])
    ≡ glyph_with 5 (pos 0) (negsuc 1019) (negsuc 239) (negsuc 874) ∷ []

-- a font of 1,000 units whose glyphs are ten times as wide as their number says; it has the digit 1 and the comma
abbrev pub spaces_in : Direction → SpaceMetrics
spaces_in d = record {
  direction = d;
  em = 1000;
  advance = λ g. g * 10;
  glyph = λ c. if c == 0x31 then Some 17 else if c == 0x2C then Some 20 else None;
}

-- the widths of spaces, whose glyph is the one with the number 3
abbrev pub SpacesHaveWidths : Type 0
SpacesHaveWidths =
    map (λ width. space_width (spaces_in LeftToRight) width 3)
    (Em ∷ HalfEm ∷ ThirdOfEm ∷ FourthOfEm ∷ FifthOfEm ∷ SixthOfEm ∷ SixteenthOfEm ∷ FourEighteenthsOfEm ∷ Figure
    ∷ Punctuation ∷ Narrow ∷ [])
    ≡ 1000 ∷ 500 ∷ 333 ∷ 250 ∷ 200 ∷ 167 ∷ 63 ∷ 222 ∷ 170 ∷ 200 ∷ 15 ∷ []

-- the width comes in place of the advance of the glyph, along the line; other glyphs stay
abbrev pub SpacesAreWidened : Type 0
SpacesAreWidened =
    (widen_spaces (spaces_in LeftToRight)
    (record (glyph_with 3 (pos 25) (pos 0) (pos 0) (pos 0)) { kind = Space Em } ∷ glyph_with 3 (pos 30) (pos 0) (pos 0) (pos 0) ∷ [])
    ≡ record (glyph_with 3 (pos 995) (pos 0) (pos 0) (pos 0)) { kind = Space Em } ∷ glyph_with 3 (pos 30) (pos 0) (pos 0) (pos 0)
    ∷ [])
    × (widen_spaces (spaces_in TopToBottom) (record (glyph_with 3 (pos 0) (negsuc 24) (pos 0) (pos 0)) { kind = Space Em } ∷ [])
    ≡ record (glyph_with 3 (pos 0) (negsuc 994) (pos 0) (pos 0)) { kind = Space Em } ∷ [])

-- boxes of a letter, of a low letter, of two marks drawn above and below the line, and none of other glyphs
abbrev pub boxes : ℕ → Option GlyphBox
boxes id =
    if id == 5 then Some (record { left = pos 50; bottom = pos 0; right = pos 450; top = pos 700 })
    else if id == 6 then Some (record { left = pos 50; bottom = pos 0; right = pos 450; top = pos 501 })
    else if id == 8 then Some (record { left = negsuc 299; bottom = pos 750; right = negsuc 99; top = pos 850 })
    else if id == 7 then Some (record { left = pos 0; bottom = negsuc 299; right = pos 100; top = negsuc 199 })
    else None

-- marks are placed by these, 62 off
abbrev pub placing : Direction → MarkPlacing
placing d = record { direction = d; moves = true; gap = 62; across = λ g. 500; box = boxes }

-- a letter; a mark of a class, with a width of 200 and an offset, before which the text might be broken; and what
-- becomes of it
abbrev pub letter : ℕ → ShapedGlyph
letter id = record (glyph_with id (pos 500) (pos 0) (pos 0) (pos 0)) { may_break_before = true }

abbrev pub mark_of : ℕ → ℕ → ShapedGlyph
mark_of id class = record (glyph_with id (pos 200) (pos 0) (pos 3) (pos 4)) {
  kind = Mark class;
  is_mark = true;
  may_break_before = true;
}

abbrev pub set_mark : ℕ → ℕ → ℤ → ℤ → ShapedGlyph
set_mark id class x y = record (glyph_with id (pos 0) (pos 0) x y) { kind = Mark class; is_mark = true }

-- marks above are stacked, and those of another class begin anew; one below stands off
abbrev pub MarksAreStacked : Type 0
MarksAreStacked =
    place_marks (placing LeftToRight) (letter 5 ∷ mark_of 8 230 ∷ mark_of 8 230 ∷ mark_of 8 220 ∷ mark_of 8 230 ∷ letter 5 ∷ [])
    ≡ letter 5 ∷ set_mark 8 230 (negsuc 49) (pos 12) ∷ set_mark 8 230 (negsuc 49) (pos 174)
    ∷ set_mark 8 220 (negsuc 49) (negsuc 911) ∷ set_mark 8 230 (negsuc 49) (pos 12) ∷ letter 5 ∷ []

-- at the left and the right edge, attached and off, and double
abbrev pub MarksHaveSides : Type 0
MarksHaveSides =
    place_marks (placing LeftToRight)
    (letter 5 ∷ mark_of 8 228 ∷ mark_of 8 232 ∷ mark_of 8 216 ∷ mark_of 8 202 ∷ mark_of 8 234 ∷ mark_of 8 1 ∷ [])
    ≡ letter 5 ∷ set_mark 8 228 (negsuc 199) (pos 12) ∷ set_mark 8 232 (pos 100) (pos 12)
    ∷ set_mark 8 216 (pos 100) (negsuc 24) ∷ set_mark 8 202 (negsuc 49) (negsuc 849) ∷ set_mark 8 234 (pos 200) (pos 12)
    ∷ set_mark 8 1 (negsuc 49) (pos 0) ∷ []

-- one below is not moved up, but the next one stands under it; one above is moved down by half
abbrev pub MarksStayBeyond : Type 0
MarksStayBeyond =
    place_marks (placing LeftToRight) (letter 5 ∷ mark_of 7 220 ∷ mark_of 7 220 ∷ letter 6 ∷ mark_of 8 230 ∷ [])
    ≡ letter 5 ∷ set_mark 7 220 (negsuc 299) (pos 0) ∷ set_mark 7 220 (negsuc 299) (negsuc 161) ∷ letter 6
    ∷ set_mark 8 230 (negsuc 49) (negsuc 93) ∷ []

-- a mark without a class keeps its width, which counts; one without a box keeps its offset; behind a base without a box
-- marks lose their width, and move
abbrev pub MarksWithoutBoxes : Type 0
MarksWithoutBoxes =
    place_marks (placing LeftToRight) (mark_of 8 230 ∷ letter 5 ∷ mark_of 8 0 ∷ mark_of 9 230 ∷ letter 9 ∷ mark_of 8 230 ∷ [])
    ≡ record (mark_of 8 230) { may_break_before = false } ∷ letter 5 ∷ record (mark_of 8 0) { may_break_before = false }
    ∷ set_mark 9 230 (negsuc 696) (pos 4) ∷ letter 9 ∷ set_mark 8 230 (negsuc 196) (pos 4) ∷ []

-- In backward text marks are drawn before their base, and double ones stand at its left edge: the text may be broken
-- before the last of them that is drawn, and not before the base.
abbrev pub MarksOfBackwardText : Type 0
MarksOfBackwardText =
    place_marks (placing RightToLeft) (letter 5 ∷ mark_of 8 234 ∷ mark_of 8 230 ∷ letter 5 ∷ [])
    ≡ letter 5 ∷ record (set_mark 8 234 (pos 200) (pos 12)) { may_break_before = true } ∷ set_mark 8 230 (pos 450) (pos 12)
    ∷ record (letter 5) { may_break_before = false } ∷ []
