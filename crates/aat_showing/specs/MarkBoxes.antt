-- Marks that are placed by the boxes of glyphs. (No chapter of the manual: these places are HarfBuzz's.)
use Rattle.std.specs.Prelude.{ℕ, ℤ, pos, ◌==◌, ◌&&◌, Bool, true, false, not, List, reverse, Option, Some, None, if◌then◌else◌}
use Rattle.std.specs.List.{scan}
use Rattle.aat_read_metrics.specs.declared.glyph_metrics.GlyphBox.{GlyphBox}
use Rattle.aat_glyph.specs.Directions.{is_backward, is_forward}
use Rattle.aat_glyph.specs.declared.glyph.Direction.{Direction}
use Rattle.aat_shaped_text.specs.declared.text.CharacterKind.{CharacterKind}
use Rattle.aat_shaped_text.specs.declared.text.CharacterKind.TheVariants.{Mark}
use Rattle.aat_shaped_text.specs.declared.text.ShapedGlyph.{ShapedGlyph}
use Rattle.aat_showing.specs.Lengths.{minus, plus}
use Rattle.aat_showing.specs.MarkPlaces.{beside, over, with_mark}
use Rattle.aat_showing.specs.Marks.{zeroed_mark}
use Rattle.aat_showing.specs.declared.mark_bases.Base.{Base}
use Rattle.aat_showing.specs.declared.mark_bases.MarkBase.{MarkBase}
use Rattle.aat_showing.specs.declared.mark_bases.MarkBase.TheVariants.{Boxed, Missing, Unboxed}

-- what marks are placed by: the direction of the text, whether a mark that loses its width moves, the gap between a
-- mark and what it stands on, how far the pen moves across for a glyph, and its box, if it has one
pub record MarkPlacing : Type 0 where
  pub direction : Direction
  pub moves : Bool
  pub gap : ℕ
  pub across : ℕ → ℕ
  pub box : ℕ → Option GlyphBox

-- a mark by its character, and its combining class, 0 of what is no mark
abbrev pub is_mark : CharacterKind → Bool
is_mark (Mark class) = true
is_mark _ = false

abbrev pub class_of : CharacterKind → ℕ
class_of (Mark class) = class
class_of _ = 0

-- a glyph begins a run of a base and its marks: neither it is a mark nor ignorable
abbrev pub begins_run : ShapedGlyph → Bool
begins_run g = not g.is_ignorable && not (is_mark g.kind)

-- what a mark of a class is placed around: the marks of its class before it, or else the base alone
abbrev pub stack_for : Base → ℕ → GlyphBox
stack_for b class = if class == b.class then b.stack else b.whole

-- a glyph without width, drawn at a place
abbrev pub drawn_at : ℤ → ℤ → ShapedGlyph → ShapedGlyph
drawn_at x y g = record g { x_advance = pos 0; y_advance = pos 0; x_offset = x; y_offset = y }

-- a mark of a class that is placed by its box around its base; without a box it stays where it is, from the base on
abbrev pub set_on : Direction → ℕ → Base → ℕ → Option GlyphBox → ShapedGlyph → ShapedGlyph
set_on d gap b class None g = drawn_at (plus g.x_offset b.x) (plus g.y_offset b.y) g
set_on d gap b class (Some mark) g =
    drawn_at (plus (beside d class (stack_for b class) mark) b.x) (plus (over gap class (stack_for b class) mark) b.y) g

-- what the next mark of its class is placed around, and the base behind it
abbrev pub stack_with : ℕ → Base → ℕ → Option GlyphBox → GlyphBox
stack_with gap b class None = stack_for b class
stack_with gap b class (Some mark) =
    with_mark class (over gap class (stack_for b class) mark) (stack_for b class) mark

abbrev pub base_with : ℕ → Base → ℕ → Option GlyphBox → Base
base_with gap b class box = record b { stack = stack_with gap b class box; class = class }

-- an advance of a glyph, 0 of an ignorable one, which is hidden
abbrev pub seen : ShapedGlyph → ℤ → ℤ
seen g advance = if g.is_ignorable then pos 0 else advance

-- where a base lies, seen from the pen, behind a glyph with an advance: backward text is drawn towards its base
abbrev pub farther : Direction → ℤ → ℤ → ℤ
farther d from advance = if is_forward d then minus from advance else plus from advance

abbrev pub base_behind : Direction → Base → ShapedGlyph → Base
base_behind d b g = record b {
  x = farther d b.x (seen g g.x_advance);
  y = farther d b.y (seen g g.y_advance);
}

-- where it lies behind the base itself
abbrev pub from_pen : Direction → ℤ → ℤ
from_pen d advance = if is_forward d then minus (pos 0) advance else pos 0

-- the box of a base: as wide as its advance, and as high as it is drawn
abbrev pub base_box : ℕ → ℤ → GlyphBox → GlyphBox
base_box advance y box = record {
  left = pos 0;
  bottom = plus box.bottom y;
  right = pos advance;
  top = plus box.top y;
}

-- a glyph as a base of this advance and box
abbrev pub boxed_base : Direction → ℕ → Option GlyphBox → ShapedGlyph → MarkBase
boxed_base d advance None g = Unboxed
boxed_base d advance (Some box) g = Boxed (record {
  whole = base_box advance g.y_offset box;
  stack = base_box advance g.y_offset box;
  class = 0;
  x = from_pen d (seen g g.x_advance);
  y = from_pen d (seen g g.y_advance);
})

abbrev pub base_of : MarkPlacing → ShapedGlyph → MarkBase
base_of p g = boxed_base p.direction (p.across g.glyph_id) (p.box g.glyph_id) g

-- a glyph behind a base with a box: one with a combining class is placed
abbrev pub placed_on : MarkPlacing → Base → ShapedGlyph → ShapedGlyph
placed_on p b g =
    if class_of g.kind == 0 then g
    else set_on p.direction p.gap b (class_of g.kind) (p.box g.glyph_id) g

-- a glyph behind a base; behind one without a box marks lose their width
abbrev pub placed : MarkPlacing → MarkBase → ShapedGlyph → ShapedGlyph
placed p Missing g = g
placed p Unboxed g = if begins_run g then g else zeroed_mark p.moves g
placed p (Boxed b) g = placed_on p b g

-- the base behind a glyph of its run
abbrev pub base_after : MarkPlacing → Base → ShapedGlyph → Base
base_after p b g =
    if class_of g.kind == 0 then base_behind p.direction b g
    else base_with p.gap b (class_of g.kind) (p.box g.glyph_id)

-- the base behind a glyph that begins no run; an ignorable one may be the first base of a text
abbrev pub followed_base : MarkPlacing → MarkBase → ShapedGlyph → MarkBase
followed_base p Missing g = if is_mark g.kind then Missing else base_of p g
followed_base p Unboxed g = Unboxed
followed_base p (Boxed b) g = Boxed (base_after p b g)

-- the base behind a glyph
abbrev pub next_base : MarkPlacing → MarkBase → ShapedGlyph → MarkBase
next_base p base g = if begins_run g then base_of p g else followed_base p base g

-- glyphs in the order of a text, with their marks placed
abbrev pub placed_in_order : MarkPlacing → List ShapedGlyph → List ShapedGlyph
placed_in_order p glyphs = scan (next_base p) (placed p) Missing glyphs

-- glyphs in drawing order, which backward text is read against
abbrev pub placed_marks : MarkPlacing → List ShapedGlyph → List ShapedGlyph
placed_marks p glyphs =
    if is_backward p.direction then reverse (placed_in_order p (reverse glyphs)) else placed_in_order p glyphs

-- The text may be broken before a glyph where the later one of the two that meet there, in the order of the text,
-- begins a run: the glyph itself, and in backward text the one before it, of which this is told.
abbrev pub held : Direction → Bool → ShapedGlyph → ShapedGlyph
held d begun g = record g {
  may_break_before = g.may_break_before && (if is_backward d then begun else begins_run g);
}

abbrev pub held_runs : Direction → List ShapedGlyph → List ShapedGlyph
held_runs d glyphs = scan (λ begun g. begins_run g) (held d) true glyphs

-- glyphs with their marks placed, and runs that hold together
abbrev pub place_marks : MarkPlacing → List ShapedGlyph → List ShapedGlyph
place_marks p glyphs = held_runs p.direction (placed_marks p glyphs)
