-- Worked examples of where a text may be broken, of what is drawn of it, and of what its features ask.
use Rattle.std.specs.Prelude.{◌≡◌, ◌==◌, ℕ, Bool, true, false, List, [], ◌∷◌, ℤ, pos, negsuc, Option, Some, None, filter, map}
use Rattle.aat_glyph.specs.placement.AttachmentExamples.{in_column, in_row, mark}
use Rattle.aat_buffer.specs.Buffer.{Buffer, no_glyph, with_direction}
use Rattle.aat_buffer.specs.Examples.{buffer_at, glyphs_in, gone, in_cluster, in_cluster_with, left_masks, standing}
use Rattle.aat_glyph.specs.declared.glyph.Direction.{Direction}
use Rattle.aat_glyph.specs.declared.glyph.Direction.TheVariants.{LeftToRight, RightToLeft, TopToBottom}
use Rattle.aat_glyph.specs.declared.glyph.GlyphPosition.{GlyphPosition}
use Rattle.aat_glyph.specs.declared.glyph.hb_glyph_info_t.{hb_glyph_info_t}
use Rattle.aat_font.specs.declared.face.hb_font_t.{hb_font_t}
use Rattle.aat_font.specs.declared.plan.Feature.{Feature}
use Rattle.aat_run.specs.Ranges.{last_cluster}
use Rattle.aat_map.specs.Examples.{liga}
use Rattle.aat_kerning.specs.Positioning.{in_processing_order}
use Rattle.aat_shaped_text.specs.Breaks.{front_of, may_break_at}
use Rattle.aat_shaped_text.specs.Parts.{no_shaped_glyph}
use Rattle.aat_shaped_text.specs.ShapedText.{drawn_glyphs, kept_place, kept_places, text_props, tracked_line}
use Rattle.aat_shaped_text.specs.TextFeatures.{ask_alike, ask_alike_through, is_kerned_at, requests_kerning}
use Rattle.aat_shaped_text.specs.declared.text.CharacterKind.TheVariants.{Mark, Other, Space}
use Rattle.aat_shaped_text.specs.declared.text.ShapedGlyph.{ShapedGlyph}
use Rattle.aat_shaped_text.specs.declared.text.SpaceWidth.TheVariants.{Narrow}
use Rattle.aat_shaped_text.specs.declared.text.TextGlyph.{TextGlyph}

-- the places of kept glyphs before which a line may be broken
abbrev pub breaks_of : List Feature → List hb_glyph_info_t → List ℕ
breaks_of features line = filter (λ i. may_break_at true features line (front_of line i)) (kept_places line)

-- the same of a text without features
abbrev pub breaks_in : List hb_glyph_info_t → List ℕ
breaks_in line = breaks_of [] line

-- a line may be broken where a cluster begins, but not before its first glyph, forward and backward
abbrev pub BreaksAreBetweenClusters : Type 0
BreaksAreBetweenClusters =
    (breaks_in (glyphs_in (0 ∷ 1 ∷ 1 ∷ 2 ∷ [])) ≡ 1 ∷ 3 ∷ []) × (breaks_in (glyphs_in (2 ∷ 1 ∷ 1 ∷ 0 ∷ [])) ≡ 1 ∷ 3 ∷ [])

-- UNSAFE_TO_BREAK counts on each glyph of the cluster that comes later in the text, and on none of the other one
abbrev pub LaterClusterIsAsked : Type 0
LaterClusterIsAsked =
    (breaks_in (in_cluster_with 0 1 ∷ in_cluster 1 ∷ in_cluster 2 ∷ []) ≡ 1 ∷ 2 ∷ [])
    × (breaks_in (in_cluster 0 ∷ in_cluster 1 ∷ in_cluster_with 1 1 ∷ in_cluster 2 ∷ []) ≡ 3 ∷ [])
    × (breaks_in (in_cluster 2 ∷ in_cluster 1 ∷ in_cluster_with 1 1 ∷ in_cluster 0 ∷ []) ≡ 1 ∷ [])
    × (breaks_in (in_cluster 2 ∷ in_cluster 1 ∷ in_cluster_with 0 1 ∷ []) ≡ 1 ∷ 2 ∷ [])

-- a deleted glyph stands in the line: the first kept glyph has none before it, one behind a deleted glyph of its cluster
-- begins there, and the mark of a deleted glyph counts
abbrev pub DeletedGlyphsAreAsked : Type 0
DeletedGlyphsAreAsked =
    (breaks_in (gone 0 0 ∷ in_cluster 1 ∷ []) ≡ [])
    × (breaks_in (in_cluster 0 ∷ gone 1 0 ∷ in_cluster 2 ∷ []) ≡ 2 ∷ [])
    × (breaks_in (in_cluster 0 ∷ gone 1 0 ∷ in_cluster 1 ∷ []) ≡ 2 ∷ [])
    × (breaks_in (in_cluster 0 ∷ gone 1 1 ∷ in_cluster 1 ∷ []) ≡ [])
    × (breaks_in (in_cluster 0 ∷ in_cluster 1 ∷ gone 1 1 ∷ in_cluster 2 ∷ []) ≡ 3 ∷ [])

-- a backward line of a glyph, a ligature of cluster 1 behind its two deleted components, another deleted glyph of that
-- cluster, and a glyph
abbrev pub ligature_line : List hb_glyph_info_t
ligature_line = in_cluster 3 ∷ gone 1 0 ∷ gone 1 0 ∷ in_cluster 1 ∷ gone 1 0 ∷ in_cluster 0 ∷ []

-- A ligature begins with its components, before which the line may be broken. A glyph does not begin with deleted glyphs
-- of another cluster, nor is a line broken inside a cluster. A deleted mark is as any other deleted glyph.
abbrev pub LigaturesBeginWithComponents : Type 0
LigaturesBeginWithComponents =
    (map (front_of ligature_line) (0 ∷ 3 ∷ 5 ∷ []) ≡ 0 ∷ 1 ∷ 5 ∷ [])
    × (breaks_in ligature_line ≡ 3 ∷ 5 ∷ [])
    × (breaks_in (in_cluster 2 ∷ in_cluster 1 ∷ gone 1 0 ∷ in_cluster 1 ∷ []) ≡ 1 ∷ [])
    × (breaks_in (in_cluster 2 ∷ record (gone 1 0) { glyph_props = 8 } ∷ in_cluster 1 ∷ []) ≡ 2 ∷ [])

-- in a backward line a deleted glyph hands its mark on to the glyph before it, with its cluster
abbrev pub DeletedGlyphsHandOn : Type 0
DeletedGlyphsHandOn =
    (breaks_in (in_cluster 2 ∷ gone 1 1 ∷ in_cluster 0 ∷ []) ≡ [])
    × (left_masks (in_cluster 2 ∷ gone 1 1 ∷ in_cluster 0 ∷ []) ≡ 1 ∷ 0 ∷ [])

-- a line is not broken where a feature begins or ends
abbrev pub FeaturesStayWhole : Type 0
FeaturesStayWhole =
    (breaks_of (liga 1 1 last_cluster ∷ []) (glyphs_in (0 ∷ 1 ∷ 2 ∷ [])) ≡ 2 ∷ [])
    × (breaks_of (liga 1 0 2 ∷ []) (glyphs_in (0 ∷ 1 ∷ 2 ∷ [])) ≡ 1 ∷ [])
    × (breaks_of (liga 1 0 last_cluster ∷ []) (glyphs_in (0 ∷ 1 ∷ 2 ∷ [])) ≡ 1 ∷ 2 ∷ [])

-- a glyph has its place among those that are kept, and a deleted one has none
abbrev pub KeptGlyphsAreCounted : Type 0
KeptGlyphsAreCounted =
    (map (λ i. kept_place (in_cluster 0 ∷ gone 1 0 ∷ in_cluster 2 ∷ []) (Some i)) (0 ∷ 1 ∷ 2 ∷ [])
    ≡ Some 0 ∷ None ∷ Some 1 ∷ [])
    × (kept_place (in_cluster 0 ∷ []) None ≡ None)

-- a glyph of a line, by its number and its cluster
abbrev pub glyph_in : ℕ → ℕ → hb_glyph_info_t
glyph_in id c = record no_glyph { glyph_id = id; cluster = c }

-- one that is drawn, with its advance
abbrev pub shaped : ℕ → ℕ → ℤ → ShapedGlyph
shaped id c advance = record no_shaped_glyph { glyph_id = id; cluster = c; x_advance = advance }

-- a line of a direction in drawing order, with its positions
abbrev pub drawing : Direction → List hb_glyph_info_t → List GlyphPosition → Buffer
drawing d line positions = with_direction (standing positions (buffer_at 0 line)) d

-- of a backward line, which may be broken before its last glyph, the deleted glyph goes, and the one before it takes
-- its cluster
abbrev pub DeletedGlyphsGo : Type 0
DeletedGlyphsGo =
    drawn_glyphs (λ i. i == 2)
    (drawing RightToLeft (glyph_in 7 2 ∷ gone 1 0 ∷ glyph_in 5 0 ∷ [])
    (in_row (pos 500) (pos 0) (pos 0) ∷ in_row (pos 0) (pos 0) (pos 0) ∷ in_row (pos 300) (pos 0) (pos 0) ∷ []))
    ≡ shaped 7 1 (pos 500) ∷ record (shaped 5 0 (pos 300)) { may_break_before = true } ∷ []

-- a glyph of an ignorable character says so where it is drawn, and no other does, such as a component that was deleted
abbrev pub IgnorableGlyphsSaySo : Type 0
IgnorableGlyphsSaySo =
    map (λ g. g.is_ignorable)
    (drawn_glyphs (λ i. false)
    (drawing LeftToRight
    (record (glyph_in 7 0) { unicode_props = 0x20 } ∷ record (glyph_in 9 1) { unicode_props = 0x60 } ∷ [])
    (in_row (pos 500) (pos 0) (pos 0) ∷ in_row (pos 300) (pos 0) (pos 0) ∷ [])))
    ≡ false ∷ true ∷ []

-- so does a glyph that has the property of marks, beside others too
abbrev pub MarksSaySo : Type 0
MarksSaySo =
    map (λ g. g.is_mark)
    (drawn_glyphs (λ i. false)
    (drawing LeftToRight
    (record (glyph_in 7 0) { glyph_props = 2 } ∷ record (glyph_in 9 0) { glyph_props = 0x18 } ∷ [])
    (in_row (pos 500) (pos 0) (pos 0) ∷ in_row (pos 300) (pos 0) (pos 0) ∷ [])))
    ≡ false ∷ true ∷ []

-- so does a glyph that came from a space that the font lacks, or from a mark
abbrev pub KindsSaySo : Type 0
KindsSaySo =
    map (λ g. g.kind)
    (drawn_glyphs (λ i. false)
    (drawing LeftToRight
    (glyph_in 7 0 ∷ record (glyph_in 3 1) { unicode_props = 0x580 } ∷ record (glyph_in 9 2) { unicode_props = 0xF360 } ∷ [])
    (in_row (pos 500) (pos 0) (pos 0) ∷ in_row (pos 200) (pos 0) (pos 0) ∷ in_row (pos 0) (pos 0) (pos 0) ∷ [])))
    ≡ Other ∷ Space Narrow ∷ Mark 230 ∷ []

-- a font without tables, with these classes of glyphs
abbrev pub classed : Option (List (ℕ × ℕ)) → hb_font_t
classed classes = record {
  tables = record { morx = None; kerx = None; kern = None; feat = None; ankr = None };
  glyph_classes = classes;
  advances = None;
}

-- glyph 5 of a character that is a mark or not
abbrev pub five : Bool → TextGlyph
five mark = record { glyph_id = 5; cluster = 0; is_ignorable = false; is_mark = mark; kind = Other }

-- its properties where it is no mark, and where it is one
abbrev pub props_in : Option (List (ℕ × ℕ)) → List ℕ
props_in classes = map (λ mark. text_props (classed classes) (five mark)) (false ∷ true ∷ [])

-- a mark has the property of marks, and a base none, where the font has no classes; where it has, it alone decides
abbrev pub FontsDecide : Type 0
FontsDecide =
    (props_in None ≡ 0 ∷ 8 ∷ [])
    × (props_in (Some []) ≡ 0 ∷ 0 ∷ [])
    × (props_in (Some ((5, 2) ∷ [])) ≡ 2 ∷ 2 ∷ [])
    × (props_in (Some ((5, 8) ∷ [])) ≡ 8 ∷ 8 ∷ [])

-- what is drawn of a base, a deleted glyph and a mark with a chain
abbrev pub marked : ℤ → List ShapedGlyph
marked chain =
    drawn_glyphs (λ i. false)
    (drawing LeftToRight (glyph_in 7 0 ∷ gone 0 0 ∷ glyph_in 9 0 ∷ [])
    (in_row (pos 500) (pos 20) (pos 0)
    ∷ in_row (pos 0) (pos 3) (pos 0)
    ∷ mark chain (in_row (pos 0) (pos 100) (pos 200))
    ∷ []))

-- a mark is drawn over its base and names its place; one on a deleted glyph is drawn over that, and names none
abbrev pub AttachmentsAreDrawn : Type 0
AttachmentsAreDrawn =
    (marked (negsuc 1)
    ≡ record (shaped 7 0 (pos 500)) { x_offset = pos 20 }
    ∷ record (shaped 9 0 (pos 0)) { x_offset = negsuc 379; y_offset = pos 200; attached_to = Some 0 }
    ∷ [])
    × (marked (negsuc 0)
    ≡ record (shaped 7 0 (pos 500)) { x_offset = pos 20 }
    ∷ record (shaped 9 0 (pos 0)) { x_offset = pos 103; y_offset = pos 200 }
    ∷ [])

-- what is drawn of a line in reading order that is tracked by a value
abbrev pub drawn_tracked : ℤ → Direction → List hb_glyph_info_t → List GlyphPosition → List ShapedGlyph
drawn_tracked v d line positions =
    drawn_glyphs (λ i. false) (in_processing_order (tracked_line v (drawing d line positions)))

-- the first glyph of each cluster that is drawn, in reading order, is wider; in columns a value below 0 adds to advances
abbrev pub TrackedLinesAreDrawn : Type 0
TrackedLinesAreDrawn =
    (drawn_tracked (pos 9) RightToLeft (glyph_in 5 0 ∷ gone 1 0 ∷ glyph_in 7 1 ∷ glyph_in 8 1 ∷ [])
    (in_row (pos 300) (pos 0) (pos 0)
    ∷ in_row (pos 0) (pos 0) (pos 0)
    ∷ in_row (pos 500) (pos 0) (pos 0)
    ∷ in_row (pos 200) (pos 0) (pos 0)
    ∷ [])
    ≡ shaped 8 1 (pos 200)
    ∷ shaped 7 1 (pos 509)
    ∷ shaped 5 0 (pos 309)
    ∷ [])
    × (drawn_tracked (negsuc 2) TopToBottom (glyph_in 5 0 ∷ []) (in_column (negsuc 499) (pos 0) (pos 0) ∷ [])
    ≡ record (shaped 5 0 (pos 0)) { y_advance = negsuc 502 } ∷ [])

-- the feature `kern` over clusters
abbrev pub kern : ℕ → ℕ → ℕ → Feature
kern value start end = record { tag = record { 0 = 0x6B65726E }; value = value; start = start; end = end }

-- whether kerning is on at the clusters from 2 to 6
abbrev pub kerned_along : List Feature → List Bool
kerned_along features = map (is_kerned_at features) (2 ∷ 3 ∷ 4 ∷ 5 ∷ 6 ∷ [])

-- kerning is on, off over 3 to 5, and on again at 4 where the feature that says so comes last; the last cluster has no
-- end
abbrev pub LastKernDecides : Type 0
LastKernDecides =
    (kerned_along (liga 0 0 last_cluster ∷ []) ≡ true ∷ true ∷ true ∷ true ∷ true ∷ [])
    × (kerned_along (kern 0 3 6 ∷ []) ≡ true ∷ false ∷ false ∷ false ∷ true ∷ [])
    × (kerned_along (kern 0 3 6 ∷ kern 1 4 5 ∷ []) ≡ true ∷ false ∷ true ∷ false ∷ true ∷ [])
    × (kerned_along (kern 1 4 5 ∷ kern 0 3 6 ∷ []) ≡ true ∷ false ∷ false ∷ false ∷ true ∷ [])
    × (is_kerned_at (kern 0 3 last_cluster ∷ []) last_cluster ≡ false)

-- kerning is requested unless it is off everywhere, and not on again behind that
abbrev pub KerningIsRequested : Type 0
KerningIsRequested =
    (requests_kerning [] ≡ true)
    × (requests_kerning (kern 0 3 6 ∷ []) ≡ true)
    × (requests_kerning (kern 0 0 last_cluster ∷ []) ≡ false)
    × (requests_kerning (kern 0 0 last_cluster ∷ kern 1 4 5 ∷ []) ≡ true)
    × (requests_kerning (kern 1 4 5 ∷ kern 0 0 last_cluster ∷ []) ≡ false)
    × (requests_kerning (kern 0 0 last_cluster ∷ kern 0 3 6 ∷ []) ≡ false)

-- a feature asks alike within its range and outside of it, and not over one that lies between two clusters, unless that
-- is empty
abbrev pub RangesBetweenAreAsked : Type 0
RangesBetweenAreAsked =
    (ask_alike_through (liga 1 1 3 ∷ []) 1 2 ≡ true)
    × (ask_alike_through (liga 1 1 3 ∷ []) 3 9 ≡ true)
    × (ask_alike_through (liga 1 1 3 ∷ []) 2 3 ≡ false)
    × (ask_alike (liga 1 1 3 ∷ []) 0 3 ≡ true)
    × (ask_alike_through (liga 1 1 3 ∷ []) 0 3 ≡ false)
    × (ask_alike_through (liga 1 2 2 ∷ []) 0 3 ≡ true)
    × (ask_alike_through (liga 1 2 last_cluster ∷ []) 2 last_cluster ≡ true)
