-- What is drawn of a line, one place more, and all of it.
use Rattle.std.proofs.Common.{◌≡◌, ◌∙◌, ap, subst, sym, ℕ, suc, ◌+◌, ◌<◌, ◌≤◌, ◌==◌, Bool, true, false, not, List, [], ◌∷◌, ◌++◌, Option, Some, arith, drop, get_or, length, map, set, take}
use Rattle.std.proofs.Math.Seq.{take-append_seam, take-suc}
use Rattle.std.proofs.lemmas.List.{length-map}
use Rattle.std.proofs.lemmas.List.FromFn.{length-map-range_with_len, map-range_with_len_more}
use Rattle.std.specs.List.{range_with_len}
use Rattle.std.specs.Prelude.{IfSome, filter}
use Rattle.aat_glyph.specs.placement.Attachments.{drawn}
use Rattle.aat_buffer.specs.Buffer.{Buffer, glyph_at, position_at, position_list, zero_position}
use Rattle.aat_buffer.specs.Clusters.{ids}
use Rattle.aat_buffer.specs.Removal.{deleted_glyph, is_deleted, removed}
use Rattle.aat_glyph.specs.declared.glyph.Direction.{Direction}
use Rattle.aat_glyph.specs.declared.glyph.GlyphPosition.{GlyphPosition}
use Rattle.aat_glyph.specs.declared.glyph.hb_glyph_info_t.{hb_glyph_info_t}
use Rattle.aat_shaped_text.specs.Breaks.{kept_before}
use Rattle.aat_shaped_text.specs.Parts.{no_shaped_glyph, shaped_at}
use Rattle.aat_shaped_text.specs.ShapedText.{kept_place, kept_places, with_clusters_of}
use Rattle.aat_shaped_text.specs.declared.text.ShapedGlyph.{ShapedGlyph}
use Rattle.aat_drawn_text.specs.inside.Drawing.{clusters_of}
use Rattle.aat_drawn_text.proofs.Kept.{clusters_with_clusters, counted_at, few_kept, length_kept, length_with_clusters, place_of_kept}
use Rattle.aat_drawn_text.proofs.Taken.{made_more, made_same, taken_first, taken_step}

-- one count more is listed
pub counts_more : (items : List ℕ) (line : List hb_glyph_info_t) (i kept : ℕ) (ns : List ℕ) → items ≡ ns ++ kept ∷ [] → ns ≡ map (kept_before line) (range_with_len 0 i) → kept ≡ kept_before line i
    → items ≡ map (kept_before line) (range_with_len 0 (i + 1))
counts_more items line i kept ns pushed listed counted =
    pushed
    ∙ ap (λ (ms : List ℕ). ms ++ kept ∷ []) listed
    ∙ ap (λ (n : ℕ). map (kept_before line) (range_with_len 0 i) ++ n ∷ []) counted
    ∙ sym (map-range_with_len_more (kept_before line) 0 i i (omega arith))

-- over the glyph at a place, and the test whether it is kept
module _ (line : List hb_glyph_info_t) (i : ℕ) (g : hb_glyph_info_t) (read : g ≡ glyph_at line i) (t : Bool) (asked : t ≡ not (is_deleted g)) where
  test_at : not (is_deleted (glyph_at line i)) ≡ t
  test_at = ap (λ h. not (is_deleted h)) (sym read) ∙ sym asked

  -- what is made of the glyphs that are kept
  module _ (make : ℕ → ShapedGlyph) (before : List ShapedGlyph) (so_far : before ≡ map make (filter (λ n. not (is_deleted (glyph_at line n))) (range_with_len 0 i))) where
    pub put_kept : {after : List ShapedGlyph} (x : ShapedGlyph) → t ≡ true → x ≡ make i → after ≡ before ++ x ∷ []
        → after ≡ map make (filter (λ n. not (is_deleted (glyph_at line n))) (range_with_len 0 (i + 1)))
    put_kept x is_kept is pushed =
        pushed
        ∙ (ap (λ (gs : List ShapedGlyph). gs ++ x ∷ []) so_far
        ∙ (ap (λ (y : ShapedGlyph). map make (filter (λ n. not (is_deleted (glyph_at line n))) (range_with_len 0 i)) ++ y ∷ []) is
        ∙ sym (made_more (λ n. not (is_deleted (glyph_at line n))) make i (test_at ∙ is_kept))))

    pub put_none : t ≡ false → before ≡ map make (filter (λ n. not (is_deleted (glyph_at line n))) (range_with_len 0 (i + 1)))
    put_none is_gone = so_far ∙ sym (made_same (λ n. not (is_deleted (glyph_at line n))) make i (test_at ∙ is_gone))

  -- its place among those that are kept
  pub place_kept : (counts : List ℕ) (place : Option ℕ) → IfSome place (λ j. j < length line) → place ≡ Some i → counts ≡ map (kept_before line) (range_with_len 0 (length line)) → t ≡ true
      → Some (get_or counts i 0) ≡ kept_place line place
  place_kept counts place in_line is listed is_kept =
      let low : i < length line = subst (λ (o : Option ℕ). IfSome o (λ j. j < length line)) is in_line in
      place_of_kept line i (get_or counts i 0) (test_at ∙ is_kept) (counted_at line counts i listed low) ∙ ap (λ (o : Option ℕ). kept_place line o) (sym is)

-- one position more is listed
pub positions_more : {items : List GlyphPosition} (b : Buffer) (i : ℕ) (ps : List GlyphPosition) (q : GlyphPosition) → i < length (position_list b) → items ≡ ps ++ q ∷ [] → ps ≡ take i (position_list b)
    → q ≡ position_at b i → items ≡ take (i + 1) (position_list b)
positions_more b i ps q low pushed was read =
    let next : suc i ≡ i + 1 = omega arith in
    pushed
    ∙ (ap (λ (rs : List GlyphPosition). rs ++ q ∷ []) was
    ∙ (ap (λ (r : GlyphPosition). take i (position_list b) ++ r ∷ []) read
    ∙ (sym (take-suc (position_list b) i zero_position low) ∙ ap (λ n. take n (position_list b)) next)))

-- as many positions with the offsets added up
pub length_of_added : (d : Direction) (qs added : List GlyphPosition) → added ≡ map (drawn d qs) (range_with_len 0 (length qs)) → length added ≡ length qs
length_of_added d qs added is = ap (λ (ps : List GlyphPosition). length ps) is ∙ length-map-range_with_len (drawn d qs) 0 (length qs)

-- one cluster more is taken
pub taken_more : (line : List hb_glyph_info_t) (old now : List ShapedGlyph) (i : ℕ) (h : hb_glyph_info_t) → i < length line → i < length old → h ≡ glyph_at line i → now ≡ taken_first i line old
    → set now i (record (shaped_at now i) { cluster = h.cluster }) ≡ taken_first (i + 1) line old
taken_more line old now i h low within read was =
    let next : suc i ≡ i + 1 = omega arith in
    ap (λ (x : hb_glyph_info_t). set now i (record (shaped_at now i) { cluster = x.cluster })) read
    ∙ (ap (λ (xs : List ShapedGlyph). set xs i (record (shaped_at xs i) { cluster = (glyph_at line i).cluster })) was
    ∙ (taken_step line old i no_shaped_glyph low within ∙ ap (λ n. taken_first n line old) next))

-- all of it: what is made of the glyphs that are kept, lent as a slice, gets the clusters of the line that is left
module _ (make : ℕ → ShapedGlyph) (b left : Buffer) (lent items : List ShapedGlyph) (others : ids left.line ≡ filter (λ g. not (g == deleted_glyph)) (ids b.line))
    (lent_is : lent ≡ items) (made : items ≡ map make (kept_places b.line))
  where
    made_long : length (map make (kept_places b.line)) ≡ length left.line
    made_long = length-map (kept_places b.line) make ∙ length_kept b.line left.line others

    pub lent_long : length lent ≡ length left.line
    lent_long = ap (λ (gs : List ShapedGlyph). length gs) (lent_is ∙ made) ∙ made_long

    module _ (new : List ShapedGlyph) (n : ℕ) (gone : left.line ≡ (removed is_deleted b).line) (written : new ≡ with_clusters_of left.line lent) (len : length lent ≡ n) where
      whole_long : length (map make (kept_places b.line)) ≡ length (removed is_deleted b).line
      whole_long = made_long ∙ ap (λ (gs : List hb_glyph_info_t). length gs) gone

      pub whole_drawn : take n (new ++ drop (length new) items) ≡ with_clusters_of (removed is_deleted b).line (map make (kept_places b.line))
      whole_drawn =
          let long : length new ≡ length lent = ap (λ (gs : List ShapedGlyph). length gs) written ∙ length_with_clusters left.line lent lent_long in
          ap (λ k. take k (new ++ drop (length new) items)) (sym (long ∙ len))
          ∙ (take-append_seam new (drop (length new) items)
          ∙ (written
          ∙ (ap (λ (gs : List hb_glyph_info_t). with_clusters_of gs lent) gone
          ∙ ap (λ (gs : List ShapedGlyph). with_clusters_of (removed is_deleted b).line gs) (lent_is ∙ made))))

      pub clusters_drawn : clusters_of (take n (new ++ drop (length new) items)) ≡ map (λ h. h.cluster) left.line
      clusters_drawn =
          ap clusters_of whole_drawn
          ∙ (clusters_with_clusters (removed is_deleted b).line (map make (kept_places b.line)) whole_long
          ∙ ap (map (λ (h : hb_glyph_info_t). h.cluster)) (sym gone))

      pub few_drawn : length (take n (new ++ drop (length new) items)) ≤ length b.line
      few_drawn =
          omega (
            arith,
            ap (λ (gs : List ShapedGlyph). length gs) whole_drawn,
            length_with_clusters (removed is_deleted b).line (map make (kept_places b.line)) whole_long,
            length-map (kept_places b.line) make,
            few_kept b.line,
          )
