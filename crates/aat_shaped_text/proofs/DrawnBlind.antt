-- What is drawn of a line but for where it may be broken, which does not look at the flags of glyphs.
use Rattle.std.proofs.Common.{◌≡◌, ◌∙◌, sym, ap, refl, ℕ, suc, Bool, true, false, not, cond, List, [], ◌∷◌, length, map, filter, reverse, take}
use Rattle.std.specs.Prelude.{ℤ, Option, Some, None, option_map}
use Rattle.std.specs.List.{range_with_len}
use Rattle.std.proofs.lemmas.List.{take-map}
use Rattle.aat_glyph.specs.Directions.{is_horizontal}
use Rattle.aat_glyph.specs.declared.glyph.hb_glyph_info_t.{hb_glyph_info_t}
use Rattle.aat_buffer.specs.Buffer.{Buffer, glyph_at, position_list}
use Rattle.aat_buffer.specs.Removal.{is_deleted, removed}
use Rattle.aat_kerning.specs.Positioning.{in_processing_order}
use Rattle.aat_kerning.specs.Zeroing.{zeroed, zeroed_position, zeroed_positions}
use Rattle.aat_layout.specs.Shaping.{advanced, with_advances}
use Rattle.aat_glyph.specs.placement.Attachments.{parent}
use Rattle.aat_closing.specs.Unflagged.{SameButFlags, bare, erased, unflagged}
use Rattle.aat_closing.specs.facts.BlindBuffers.{erased_of, same_of}
use Rattle.aat_closing.specs.facts.BlindLines.{bare_at, bare_cluster_at, bare_length}
use Rattle.aat_shaped_text.specs.Breaks.{kept_before}
use Rattle.aat_shaped_text.specs.ShapedText.{drawn_cluster, drawn_glyph, drawn_glyphs, is_ignorable, is_mark, kept_place, kept_places, kind_of, tracked_by, tracked_line, with_clusters_of}
use Rattle.aat_shaped_text.specs.declared.text.ShapedGlyph.{ShapedGlyph}
use Rattle.aat_shaped_text.proofs.KernedBlind.{erased_ordered}
use Rattle.aat_shaped_text.proofs.Looks.{Positions, left_of, with_clusters}
use Rattle.aat_shaped_text.proofs.Spots.{lefts}
use Rattle.aat_shaped_text.proofs.SpotsRemoved.{clusters_of_removed}
use Rattle.aat_shaped_text.proofs.SpotsRuns.{Glyphs, clusters, spot}

-- what does not look at the flags of a glyph, of all glyphs
map_bare : {A : Type 0} (f : hb_glyph_info_t → A) → ((g : hb_glyph_info_t) → f (unflagged g) ≡ f g) → (gs : Glyphs) → map f (bare gs) ≡ map f gs
map_bare f blind [] = refl
map_bare f blind (g ∷ gs) = λ k. blind g k ∷ map_bare f blind gs k

-- Advances.
erased_advanced : (advance : ℕ → ℕ) (b : Buffer) → erased (with_advances advance b) ≡ with_advances advance (erased b)
erased_advanced advance b =
    ap (λ (qs : Positions). record b { line = bare b.line; positions = Some qs })
    (sym (map_bare (λ g. advanced (is_horizontal b.direction) (advance g.glyph_id)) (λ g. refl) b.line))

-- lines that are the same but for flags get the same advances
pub advanced_alike :
    (advance : ℕ → ℕ) (a b : Buffer) → SameButFlags a b → SameButFlags (with_advances advance a) (with_advances advance b)
advanced_alike advance a b same =
    same_of (with_advances advance a) (with_advances advance b)
    (erased_advanced advance a ∙ (ap (with_advances advance) (erased_of a b same) ∙ sym (erased_advanced advance b)))

-- Deleted glyphs, and tracking.
zeroed_bare : (gs : Glyphs) (qs : Positions) → zeroed_positions (bare gs) qs ≡ zeroed_positions gs qs
zeroed_bare [] qs = refl
zeroed_bare (g ∷ gs) [] = refl
zeroed_bare (g ∷ gs) (q ∷ qs) = ap (λ (ps : Positions). zeroed_position g q ∷ ps) (zeroed_bare gs qs)

erased_zeroed : (b : Buffer) → erased (zeroed b) ≡ zeroed (erased b)
erased_zeroed b = ap (λ (o : Option Positions). record b { line = bare b.line; positions = o }) (by b.positions)
  where
    by : (o : Option Positions) → option_map (zeroed_positions b.line) o ≡ option_map (zeroed_positions (bare b.line)) o
    by None = refl
    by (Some qs) = ap Some (sym (zeroed_bare b.line qs))

erased_tracked : (v : ℤ) (b : Buffer) → erased (tracked_line v b) ≡ tracked_line v (erased b)
erased_tracked v b =
    ap (λ (cs : List (Option ℕ)). record b { line = bare b.line; positions = option_map (tracked_by v b.direction cs) b.positions })
    (sym (map_bare drawn_cluster (λ g. refl) b.line))

-- what is left of it as it is drawn
abbrev laid_out : ℤ → Buffer → Buffer
laid_out v b = in_processing_order (tracked_line v (zeroed b))

erased_laid_out : (v : ℤ) (b : Buffer) → erased (laid_out v b) ≡ laid_out v (erased b)
erased_laid_out v b =
    erased_ordered (tracked_line v (zeroed b))
    ∙ ap in_processing_order (erased_tracked v (zeroed b) ∙ ap (tracked_line v) (erased_zeroed b))

-- kerned lines that are the same but for flags are laid out alike
pub drawn_alike :
    (v : ℤ) (a b : Buffer) → SameButFlags a b
    → SameButFlags (in_processing_order (tracked_line v (zeroed a))) (in_processing_order (tracked_line v (zeroed b)))
drawn_alike v a b same =
    same_of (laid_out v a) (laid_out v b)
    (erased_laid_out v a ∙ (ap (laid_out v) (erased_of a b same) ∙ sym (erased_laid_out v b)))

-- Glyphs that are drawn.
kept_bare : (gs : Glyphs) → length (filter (λ g. not (is_deleted g)) (bare gs)) ≡ length (filter (λ g. not (is_deleted g)) gs)
kept_bare [] = refl
kept_bare (g ∷ gs) = by (kept_bare gs) (is_deleted g)
  where
    by :
        length (filter (λ g. not (is_deleted g)) (bare gs)) ≡ length (filter (λ g. not (is_deleted g)) gs) → (t : Bool)
        → length (cond (not t) (unflagged g ∷ filter (λ g. not (is_deleted g)) (bare gs)) (filter (λ g. not (is_deleted g)) (bare gs)))
        ≡ length (cond (not t) (g ∷ filter (λ g. not (is_deleted g)) gs) (filter (λ g. not (is_deleted g)) gs))
    by rest true = rest
    by rest false = λ k. suc (rest k)

module _ (gs : Glyphs) where
  deleted_bare : (i : ℕ) → is_deleted (glyph_at (bare gs) i) ≡ is_deleted (glyph_at gs i)
  deleted_bare i = ap is_deleted (bare_at gs i)

  places_bare : kept_places (bare gs) ≡ kept_places gs
  places_bare = λ k. filter (λ i. not (deleted_bare i k)) (range_with_len 0 (bare_length gs k))

  before_bare : (i : ℕ) → kept_before (bare gs) i ≡ kept_before gs i
  before_bare i = ap (λ (hs : Glyphs). length (filter (λ g. not (is_deleted g)) hs)) (take-map unflagged i gs) ∙ kept_bare (take i gs)

  place_bare : (o : Option ℕ) → kept_place (bare gs) o ≡ kept_place gs o
  place_bare None = refl
  place_bare (Some i) = λ k. cond (deleted_bare i k) None (Some (before_bare i k))

  left_bare : left_of (bare gs) ≡ left_of gs
  left_bare = λ k. lefts (bare_length gs k) [] (map_bare spot (λ g. refl) gs k)

glyph_bare : (m : ℕ → Bool) (b : Buffer) (i : ℕ) → drawn_glyph m (erased b) i ≡ drawn_glyph m b i
glyph_bare m b i =
    λ k. record (drawn_glyph m b i) {
      glyph_id = (bare_at b.line i k).glyph_id;
      cluster = bare_cluster_at b.line i k;
      is_ignorable = is_ignorable (bare_at b.line i k);
      is_mark = is_mark (bare_at b.line i k);
      kind = kind_of (bare_at b.line i k);
      attached_to = place_bare b.line (parent b.direction (position_list b) i) k;
    }

-- the glyphs that are drawn, with the clusters that are left
abbrev drawn_by_spots : (ℕ → Bool) → Buffer → List ShapedGlyph
drawn_by_spots m b = with_clusters (reverse (left_of b.line)) (map (drawn_glyph m b) (kept_places b.line))

spots_bare : (m : ℕ → Bool) (b : Buffer) → drawn_by_spots m (erased b) ≡ drawn_by_spots m b
spots_bare m b =
    λ k. with_clusters (reverse (left_bare b.line k)) (map (λ i. glyph_bare m b i k) (places_bare b.line k))

by_clusters : (gs : Glyphs) (hs : List ShapedGlyph) → with_clusters_of gs hs ≡ with_clusters (clusters gs) hs
by_clusters [] hs = refl
by_clusters (g ∷ gs) [] = refl
by_clusters (g ∷ gs) (h ∷ hs) = ap (λ (zs : List ShapedGlyph). record h { cluster = g.cluster } ∷ zs) (by_clusters gs hs)

drawn_is : (m : ℕ → Bool) (b : Buffer) → b.cluster_level ≡ 0 → drawn_glyphs m b ≡ drawn_by_spots m b
drawn_is m b level =
    by_clusters (removed is_deleted b).line (map (drawn_glyph m b) (kept_places b.line))
    ∙ ap (λ (cs : List ℕ). with_clusters cs (map (drawn_glyph m b) (kept_places b.line))) (clusters_of_removed b level)

-- the same is drawn of lines that are the same but for flags, where they may be broken at the same places
pub glyphs_alike :
    (m : ℕ → Bool) (a b : Buffer) → b.cluster_level ≡ 0 → SameButFlags a b → drawn_glyphs m a ≡ drawn_glyphs m b
glyphs_alike m a b level same =
    let alike : erased a ≡ erased b = erased_of a b same in
    let levels : a.cluster_level ≡ b.cluster_level = λ k. (alike k).cluster_level in
    drawn_is m a (levels ∙ level)
    ∙ (sym (spots_bare m a) ∙ (ap (drawn_by_spots m) alike ∙ (spots_bare m b ∙ sym (drawn_is m b level))))
