-- How what is drawn of a line looks, by its glyphs and positions, and how that splits.
use Rattle.std.proofs.Common.{◌≡◌, ◌∙◌, sym, ap, refl, ℕ, suc, ◌+◌, ◌<◌, Bool, true, false, not, cond, List, [], ◌∷◌, map, reverse, length, filter, arith, if◌then◌else◌}
use Rattle.std.specs.List.{range_with_len}
use Rattle.std.specs.Prelude.{None, slice_index_or}
use Rattle.std.proofs.lemmas.List.{length-map}
use Rattle.aat_glyph.specs.declared.glyph.GlyphPosition.{GlyphPosition}
use Rattle.aat_glyph.specs.declared.glyph.hb_glyph_info_t.{hb_glyph_info_t}
use Rattle.aat_buffer.specs.Buffer.{Buffer, glyph_at, position_list, zero_position}
use Rattle.aat_buffer.specs.Removal.{is_deleted, removed}
use Rattle.aat_glyph.specs.placement.Attachments.{added_up}
use Rattle.aat_shaped_text.specs.Parts.{looks}
use Rattle.aat_shaped_text.specs.ShapedText.{drawn_glyph, drawn_glyphs, is_ignorable, is_mark, kept_places, kind_of, with_clusters_of}
use Rattle.aat_shaped_text.specs.declared.text.ShapedGlyph.{ShapedGlyph}
use Rattle.aat_shaped_text.proofs.ChainsSplit.{length_added}
use Rattle.aat_shaped_text.proofs.Spots.{lefts}
use Rattle.aat_shaped_text.proofs.SpotsRemoved.{clusters_of_removed}
use Rattle.aat_shaped_text.proofs.SpotsRuns.{Glyphs, clusters, spot, spots}

abbrev pub Positions : Type 0
Positions = List GlyphPosition

-- how a glyph looks at a position
abbrev pub look : hb_glyph_info_t → GlyphPosition → ShapedGlyph
look g q = record {
  glyph_id = g.glyph_id;
  cluster = g.cluster;
  is_ignorable = is_ignorable g;
  is_mark = is_mark g;
  kind = kind_of g;
  x_advance = q.x_advance;
  y_advance = q.y_advance;
  x_offset = q.x_offset;
  y_offset = q.y_offset;
  attached_to = None;
  may_break_before = false;
}

-- how those that are kept look
abbrev pub kept_looks : Glyphs → Positions → List ShapedGlyph
kept_looks [] qs = []
kept_looks (g ∷ gs) [] = []
kept_looks (g ∷ gs) (q ∷ qs) = if is_deleted g then kept_looks gs qs else look g q ∷ kept_looks gs qs

-- glyphs, with these clusters
abbrev pub with_clusters : List ℕ → List ShapedGlyph → List ShapedGlyph
with_clusters [] hs = []
with_clusters (c ∷ cs) [] = []
with_clusters (c ∷ cs) (h ∷ hs) = record h { cluster = c } ∷ with_clusters cs hs

-- the clusters that are left
abbrev pub left_of : Glyphs → List ℕ
left_of gs = lefts (length gs) [] (spots gs)

-- how a line with these positions is drawn
abbrev pub line_looks : Glyphs → Positions → List ShapedGlyph
line_looks gs qs = with_clusters (reverse (left_of gs)) (kept_looks gs qs)

pub looks_with_clusters : (gs : Glyphs) (hs : List ShapedGlyph) → map looks (with_clusters_of gs hs) ≡ with_clusters (clusters gs) (map looks hs)
looks_with_clusters [] hs = refl
looks_with_clusters (g ∷ gs) [] = refl
looks_with_clusters (g ∷ gs) (h ∷ hs) = ap (λ zs. record (looks h) { cluster = g.cluster } ∷ zs) (looks_with_clusters gs hs)

pub looks_of_places : (f : ℕ → ShapedGlyph) (is : List ℕ) → map looks (map f is) ≡ map (λ i. looks (f i)) is
looks_of_places f [] = refl
looks_of_places f (i ∷ is) = ap (λ zs. looks (f i) ∷ zs) (looks_of_places f is)

-- the kept places of a line, from one on
kept_from :
    (p : ℕ → Bool) (f : ℕ → ShapedGlyph) (a : ℕ) (gs : Glyphs) (qs : Positions) → length qs ≡ length gs
    → ((k : ℕ) → k < length gs → p (a + k) ≡ not (is_deleted (glyph_at gs k)))
    → ((k : ℕ) → k < length gs → f (a + k) ≡ look (glyph_at gs k) (slice_index_or qs k zero_position))
    → map f (filter p (range_with_len a (length gs))) ≡ kept_looks gs qs
kept_from p f a [] qs long passes is = refl
kept_from p f a (g ∷ gs) [] long passes is = absurd (omega (arith, long))
kept_from p f a (g ∷ gs) (q ∷ qs) long passes is =
    let here : a + 0 ≡ a = omega arith in
    by (is_deleted g) (sym (ap p here) ∙ passes 0 (omega arith)) (sym (ap f here) ∙ is 0 (omega arith))
    (kept_from p f (a + 1) gs qs (omega (arith, long))
    (λ k low. let next : (a + 1) + k ≡ a + suc k = omega arith in ap p next ∙ passes (suc k) (omega (arith, low)))
    (λ k low. let next : (a + 1) + k ≡ a + suc k = omega arith in ap f next ∙ is (suc k) (omega (arith, low))))
  where
    by :
        (t : Bool) → p a ≡ not t → f a ≡ look g q → map f (filter p (range_with_len (a + 1) (length gs))) ≡ kept_looks gs qs
        → map f (filter p (a ∷ range_with_len (a + 1) (length gs))) ≡ cond t (kept_looks gs qs) (look g q ∷ kept_looks gs qs)
    by true passes is rest = rw passes rest
    by false passes is rest = rw passes (ap (λ h. h ∷ map f (filter p (range_with_len (a + 1) (length gs)))) is ∙ ap (λ zs. look g q ∷ zs) rest)

-- what is drawn, with the offsets along chains added up
pub drawn_looks :
    (may_break : ℕ → Bool) (b : Buffer) → b.cluster_level ≡ 0 → length (position_list b) ≡ length b.line
    → map looks (drawn_glyphs may_break b) ≡ line_looks b.line (added_up b.direction (position_list b))
drawn_looks may_break b level long =
    let f : ℕ → ShapedGlyph = drawn_glyph may_break b in
    looks_with_clusters (removed is_deleted b).line (map f (kept_places b.line))
    ∙ (ap (λ cs. with_clusters cs (map looks (map f (kept_places b.line)))) (clusters_of_removed b level)
    ∙ (ap (λ hs. with_clusters (reverse (left_of b.line)) hs) (looks_of_places f (kept_places b.line))
    ∙ ap (λ hs. with_clusters (reverse (left_of b.line)) hs)
    (kept_from (λ i. not (is_deleted (glyph_at b.line i))) (λ i. looks (f i)) 0 b.line (added_up b.direction (position_list b))
    (length_added b.direction (position_list b) ∙ long)
    (λ k low. ap (λ i. not (is_deleted (glyph_at b.line i))) (zero_more k))
    (λ k low. ap (λ i. looks (f i)) (zero_more k)))))
  where
    zero_more : (k : ℕ) → 0 + k ≡ k
    zero_more k = omega arith

-- without masks
abbrev pub plain : hb_glyph_info_t → hb_glyph_info_t
plain g = record g { mask = 0 }

pub spots_plain : (gs : Glyphs) → spots (map plain gs) ≡ spots gs
spots_plain [] = refl
spots_plain (g ∷ gs) = ap (λ zs. spot g ∷ zs) (spots_plain gs)

kept_plain : (gs : Glyphs) (qs : Positions) → kept_looks (map plain gs) qs ≡ kept_looks gs qs
kept_plain [] qs = refl
kept_plain (g ∷ gs) [] = refl
kept_plain (g ∷ gs) (q ∷ qs) = ap (λ zs. cond (is_deleted g) zs (look g q ∷ zs)) (kept_plain gs qs)

pub line_plain : (gs : Glyphs) (qs : Positions) → line_looks (map plain gs) qs ≡ line_looks gs qs
line_plain gs qs =
    ap (λ n. with_clusters (reverse (lefts n [] (spots (map plain gs)))) (kept_looks (map plain gs) qs)) (length-map gs plain)
    ∙ (ap (λ ss. with_clusters (reverse (lefts (length gs) [] ss)) (kept_looks (map plain gs) qs)) (spots_plain gs)
    ∙ ap (λ hs. with_clusters (reverse (left_of gs)) hs) (kept_plain gs qs))
