-- What is drawn of a text where its ignorable glyphs are hidden.
use Rattle.std.specs.Prelude.{ℕ, pos, ◌-◌, ◌&&◌, Bool, not, List, count_by, filter, length, map, take, slice_get, Option, Some, None, option_and_then, if◌then◌else◌}
use Rattle.std.specs.List.{range_with_len}
use Rattle.aat_glyph.specs.Directions.{is_vertical}
use Rattle.aat_glyph.specs.declared.glyph.Direction.{Direction}
use Rattle.aat_lookup.specs.declared.glyph_id.GlyphId.{GlyphId}
use Rattle.aat_shaped_text.specs.Parts.{shaped_at}
use Rattle.aat_shaped_text.specs.declared.text.ShapedGlyph.{ShapedGlyph}

-- a glyph that is drawn stays, where ignorable ones are taken out
abbrev pub stays : ShapedGlyph → Bool
stays g = not g.is_ignorable

-- a glyph without its offset along the line
abbrev pub on_line : Direction → ShapedGlyph → ShapedGlyph
on_line d g = if is_vertical d then record g { y_offset = pos 0 } else record g { x_offset = pos 0 }

-- a glyph as a space without width
abbrev pub as_space : Direction → GlyphId → ShapedGlyph → ShapedGlyph
as_space d space g = on_line d (record g { glyph_id = space.0; x_advance = pos 0; y_advance = pos 0 })

-- a glyph, as a space where it is ignorable
abbrev pub space_for : Direction → GlyphId → ShapedGlyph → ShapedGlyph
space_for d space g = if g.is_ignorable then as_space d space g else g

-- glyphs, with those that are ignorable as spaces
abbrev pub with_spaces : Direction → GlyphId → List ShapedGlyph → List ShapedGlyph
with_spaces d space glyphs = map (space_for d space) glyphs

-- the place of a glyph among those that stay, none where it does not stay
abbrev pub kept_place : List ShapedGlyph → ℕ → Option ℕ
kept_place glyphs i =
    option_and_then (λ g. if g.is_ignorable then None else Some (count_by stays (take i glyphs))) (slice_get glyphs i)

-- The glyph at a place that stays, attached to the same one. Of a break before it nothing is said where the glyph
-- before it does not stay.
abbrev pub kept_glyph : List ShapedGlyph → ℕ → ShapedGlyph
kept_glyph glyphs i = record (shaped_at glyphs i) {
  attached_to = option_and_then (kept_place glyphs) (shaped_at glyphs i).attached_to;
  may_break_before = (shaped_at glyphs i).may_break_before && stays (shaped_at glyphs (i - 1));
}

-- the places of glyphs that stay
abbrev pub places_kept : List ShapedGlyph → List ℕ
places_kept glyphs = filter (λ i. stays (shaped_at glyphs i)) (range_with_len 0 (length glyphs))

-- glyphs without those that are ignorable
abbrev pub kept_glyphs : List ShapedGlyph → List ShapedGlyph
kept_glyphs glyphs = map (kept_glyph glyphs) (places_kept glyphs)

-- what is drawn of a text whose ignorable glyphs are hidden: they are spaces, and go where the font has no space
abbrev pub drawn_without_ignorables : Direction → Option GlyphId → List ShapedGlyph → List ShapedGlyph
drawn_without_ignorables d (Some space) glyphs = with_spaces d space glyphs
drawn_without_ignorables d None glyphs = kept_glyphs glyphs
