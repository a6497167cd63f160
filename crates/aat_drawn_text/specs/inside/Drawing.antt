-- What is known of a line while it is drawn.
use Rattle.std.specs.Prelude.{◌≡◌, ℕ, ◌&&◌, Bool, List, length, map}
use Rattle.std.specs.List.{range_with_len}
use Rattle.aat_glyph.specs.placement.Attachments.{added_up}
use Rattle.aat_buffer.specs.Buffer.{Buffer, position_list}
use Rattle.aat_glyph.specs.declared.glyph.hb_glyph_info_t.{hb_glyph_info_t}
use Rattle.aat_shaped_text.specs.Breaks.{front_of, kept_before}
use Rattle.aat_shaped_text.specs.declared.text.ShapedGlyph.{ShapedGlyph}
use Rattle.aat_drawn_text.specs.declared.drawn.Breaks.{Breaks}
use Rattle.aat_drawn_text.specs.declared.drawn.Drawn.{Drawn}
use Rattle.aat_drawn_text.specs.inside.Kerned.{is_open}

-- a line may be cut at a place that is open by its kerning and by its glyphs, as far as all this allows it
abbrev pub may_cut : Breaks → List hb_glyph_info_t → ℕ → Bool
may_cut breaks line j = breaks.is_allowed && is_open breaks.left_open breaks.rules line j

-- it may be broken before the glyph at a place
abbrev pub may_break : Breaks → List hb_glyph_info_t → ℕ → Bool
may_break breaks line i = may_cut breaks line (front_of line i)

-- this is known of a line that is drawn
pub record IsDrawn (b : Buffer) (drawn : Drawn) : Type 0 where
  pub added : drawn.added.now ≡ added_up b.direction (position_list b)
  pub kept : drawn.kept.now ≡ map (kept_before b.line) (range_with_len 0 (length b.line))

-- the clusters of glyphs that are drawn
abbrev pub clusters_of : List ShapedGlyph → List ℕ
clusters_of glyphs = map (λ g. g.cluster) glyphs
