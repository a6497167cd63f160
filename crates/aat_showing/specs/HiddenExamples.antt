-- Worked examples of ignorable glyphs that are hidden, and of marks without width.
use Rattle.std.specs.Prelude.{◌≡◌, ℕ, ℤ, pos, negsuc, true, false, List, [], ◌∷◌, Some, None}
use Rattle.aat_glyph.specs.declared.glyph.Direction.TheVariants.{LeftToRight, TopToBottom}
use Rattle.aat_shaped_text.specs.Parts.{no_shaped_glyph}
use Rattle.aat_shaped_text.specs.declared.text.ShapedGlyph.{ShapedGlyph}
use Rattle.aat_showing.specs.Ignorables.{drawn_without_ignorables}
use Rattle.aat_showing.specs.Marks.{zero_marks}

-- a glyph that is drawn, with an advance
abbrev pub drawn : ℕ → ShapedGlyph
drawn id = record no_shaped_glyph { glyph_id = id; x_advance = pos 500 }

-- one of an ignorable character, and one before which the text may be broken
abbrev pub ignorable : ℕ → ShapedGlyph
ignorable id = record (drawn id) { is_ignorable = true }

-- one that stands elsewhere than at its origin
abbrev pub moved : ℕ → ShapedGlyph
moved id = record (ignorable id) { x_offset = pos 20; y_offset = pos 30 }

abbrev pub broken_before : ShapedGlyph → ShapedGlyph
broken_before g = record g { may_break_before = true }

-- a glyph that is attached to another one
abbrev pub attached : ℕ → ShapedGlyph → ShapedGlyph
attached place g = record g { attached_to = Some place }

-- the glyph 9 is ignorable, and is seen where another character has it
abbrev pub ignorable_glyphs : List ShapedGlyph
ignorable_glyphs =
    drawn 5 ∷ broken_before (ignorable 9) ∷ broken_before (drawn 9) ∷ broken_before (attached 2 (drawn 6))
    ∷ attached 1 (drawn 7) ∷ []

-- a glyph that is drawn as a mark, with an offset
abbrev pub mark : ℤ → ShapedGlyph
mark offset = record (drawn 8) { is_mark = true; x_offset = offset }

-- a mark has no width, and moves by it where marks move; other glyphs stay
abbrev pub MarksHaveNoWidth : Type 0
MarksHaveNoWidth =
    (zero_marks false (drawn 5 ∷ broken_before (attached 0 (mark (pos 20))) ∷ ignorable 9 ∷ [])
    ≡ drawn 5 ∷ broken_before (attached 0 (record (mark (pos 20)) { x_advance = pos 0 })) ∷ ignorable 9 ∷ [])
    × (zero_marks true (drawn 5 ∷ mark (pos 20) ∷ [])
    ≡ drawn 5 ∷ record (mark (negsuc 479)) { x_advance = pos 0 } ∷ [])
    × (zero_marks true (record (mark (negsuc 2147483647)) { y_advance = negsuc 9 } ∷ [])
    ≡ record (mark (pos 2147483148)) { x_advance = pos 0; y_offset = pos 10 } ∷ [])

-- it is hidden as the space 3 without width, and without its offset along the line
abbrev pub HiddenGlyphsAreSpaces : Type 0
HiddenGlyphsAreSpaces =
    (drawn_without_ignorables LeftToRight (Some (record { 0 = 3 })) ignorable_glyphs
    ≡ drawn 5 ∷ broken_before (record (ignorable 3) { x_advance = pos 0 }) ∷ broken_before (drawn 9)
    ∷ broken_before (attached 2 (drawn 6)) ∷ attached 1 (drawn 7) ∷ [])
    × (drawn_without_ignorables LeftToRight (Some (record { 0 = 3 })) (moved 9 ∷ [])
    ≡ record (moved 3) { x_advance = pos 0; x_offset = pos 0 } ∷ [])
    × (drawn_without_ignorables TopToBottom (Some (record { 0 = 3 })) (moved 9 ∷ [])
    ≡ record (moved 3) { x_advance = pos 0; y_offset = pos 0 } ∷ [])

-- Without a space it goes, and of a break behind it nothing is said: what was attached to a glyph that stays counts
-- those that stay, and what was attached to one that goes is loose.
abbrev pub HiddenGlyphsGo : Type 0
HiddenGlyphsGo =
    drawn_without_ignorables LeftToRight None ignorable_glyphs
    ≡ drawn 5 ∷ drawn 9 ∷ broken_before (attached 1 (drawn 6)) ∷ drawn 7 ∷ []
