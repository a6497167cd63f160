-- Examples that the definitions of marks, merges and removal compute to. A test's contract names each list of them.
use Rattle.std.specs.Prelude.{ℕ, ◌≡◌, ◌==◌, List, [], ◌∷◌, map, pos, Some, None}
use Rattle.aat_glyph.specs.declared.glyph.hb_glyph_info_t.{hb_glyph_info_t}
use Rattle.aat_glyph.specs.declared.glyph.GlyphPosition.{GlyphPosition}
use Rattle.aat_buffer.specs.Buffer.{Buffer, empty_buffer, no_glyph, zero_position, with_cluster_level, with_flags}
use Rattle.aat_buffer.specs.Marks.{unsafe_to_break, unsafe_to_concat, merge_clusters, merge_out_clusters}
use Rattle.aat_buffer.specs.Removal.{removed, is_deleted}

-- a glyph of a cluster
abbrev pub in_cluster : ℕ → hb_glyph_info_t
in_cluster c = record no_glyph { cluster = c }

-- a glyph of a cluster, with a mask
abbrev pub in_cluster_with : ℕ → ℕ → hb_glyph_info_t
in_cluster_with c m = record no_glyph { cluster = c; mask = m }

-- a deleted glyph
abbrev pub gone : ℕ → ℕ → hb_glyph_info_t
gone c m = record no_glyph { glyph_id = 0xFFFF; cluster = c; mask = m }

-- a buffer with the cursor p
abbrev pub buffer_at : ℕ → List hb_glyph_info_t → Buffer
buffer_at p gs = record (empty_buffer 100 (pos 0)) { line = gs; cursor = p }

-- glyphs of these clusters
abbrev pub glyphs_in : List ℕ → List hb_glyph_info_t
glyphs_in cs = map in_cluster cs

-- the clusters along a line
abbrev pub clusters_of : Buffer → List ℕ
clusters_of b = map (λ g. g.cluster) b.line

-- the masks along a line
abbrev pub masks_of : Buffer → List ℕ
masks_of b = map (λ g. g.mask) b.line

-- level CHARACTERS
abbrev pub apart : Buffer → Buffer
apart b = with_cluster_level b 2

-- a line from left to right
abbrev pub rising : Buffer
rising = buffer_at 0 (glyphs_in (0 ∷ 1 ∷ 1 ∷ 2 ∷ 2 ∷ []))

-- a line from right to left, with the cursor p
abbrev pub falling : ℕ → Buffer
falling p = buffer_at p (glyphs_in (3 ∷ 3 ∷ 2 ∷ 2 ∷ []))

-- what merges leave
pub record MergeExamples : Type 0 where
  pub grows_right : clusters_of (merge_clusters rising 0 2) ≡ 0 ∷ 0 ∷ 0 ∷ 2 ∷ 2 ∷ []
  pub grows_left : clusters_of (merge_clusters (falling 0) 1 3) ≡ 2 ∷ 2 ∷ 2 ∷ 2 ∷ []
  pub stops_at_cursor : clusters_of (merge_clusters (falling 1) 1 3) ≡ 3 ∷ 2 ∷ 2 ∷ 2 ∷ []
  pub out_grows_over_cursor : clusters_of (merge_out_clusters (buffer_at 3 rising.line) 2 4) ≡ 0 ∷ 1 ∷ 1 ∷ 1 ∷ 1 ∷ []
  pub end_past_line : clusters_of (merge_clusters (falling 0) 1 9) ≡ 2 ∷ 2 ∷ 2 ∷ 2 ∷ []
  pub short_span_stays : clusters_of (merge_clusters rising 1 2) ≡ 0 ∷ 1 ∷ 1 ∷ 2 ∷ 2 ∷ []
  pub changed_loses_flags :
      masks_of (merge_clusters (buffer_at 0 (in_cluster_with 1 15 ∷ in_cluster_with 2 15 ∷ [])) 0 2) ≡ 15 ∷ 8 ∷ []
  pub level_1_merges : clusters_of (merge_clusters (with_cluster_level rising 1) 0 2) ≡ 0 ∷ 0 ∷ 0 ∷ 2 ∷ 2 ∷ []
  pub apart_keeps_clusters : clusters_of (merge_clusters (apart rising) 0 4) ≡ 0 ∷ 1 ∷ 1 ∷ 2 ∷ 2 ∷ []
  pub apart_marks : masks_of (merge_clusters (apart rising) 0 4) ≡ 0 ∷ 3 ∷ 3 ∷ 3 ∷ 0 ∷ []
  pub apart_out_stays : merge_out_clusters (apart rising) 0 4 ≡ apart rising

-- the flag PRODUCE_UNSAFE_TO_CONCAT is set
abbrev pub asking : Buffer → Buffer
asking b = with_flags b (record { 0 = 64 })

-- what marks leave
pub record MarkExamples : Type 0 where
  pub all_but_least : masks_of (unsafe_to_break rising None None) ≡ 0 ∷ 3 ∷ 3 ∷ 3 ∷ 3 ∷ []
  pub least_of_span : masks_of (unsafe_to_break rising (Some 1) (Some 4)) ≡ 0 ∷ 0 ∷ 0 ∷ 3 ∷ 0 ∷ []
  pub least_last : masks_of (unsafe_to_break (falling 2) (Some 1) (Some 9)) ≡ 0 ∷ 3 ∷ 0 ∷ 0 ∷ []
  pub keeps_other_bits :
      masks_of (unsafe_to_break (buffer_at 0 (in_cluster_with 0 8 ∷ in_cluster_with 1 9 ∷ [])) None None) ≡ 8 ∷ 11 ∷ []
  pub short_span_stays : masks_of (unsafe_to_break rising (Some 2) (Some 3)) ≡ 0 ∷ 0 ∷ 0 ∷ 0 ∷ 0 ∷ []
  pub concat_whole_span : masks_of (unsafe_to_concat (asking rising) (Some 1) (Some 3)) ≡ 0 ∷ 2 ∷ 2 ∷ 0 ∷ 0 ∷ []
  pub concat_one_glyph : masks_of (unsafe_to_concat (asking (buffer_at 0 (glyphs_in (7 ∷ [])))) None None) ≡ 2 ∷ []
  pub concat_not_asked : masks_of (unsafe_to_concat rising None None) ≡ 0 ∷ 0 ∷ 0 ∷ 0 ∷ 0 ∷ []

-- the clusters that a removal leaves
abbrev pub left_clusters : List hb_glyph_info_t → List ℕ
left_clusters gs = clusters_of (removed is_deleted (buffer_at 0 gs))

-- the masks that a removal leaves
abbrev pub left_masks : List hb_glyph_info_t → List ℕ
left_masks gs = masks_of (removed is_deleted (buffer_at 0 gs))

-- positions that can be told apart
abbrev pub place : ℕ → GlyphPosition
place n = record zero_position { x_advance = pos n }

-- these positions stand
abbrev pub standing : List GlyphPosition → Buffer → Buffer
standing qs b = record b { positions = Some qs }

-- a line of three glyphs, of which the middle one is deleted
abbrev pub three_glyphs : Buffer
three_glyphs = buffer_at 2 (in_cluster 0 ∷ gone 1 0 ∷ in_cluster 2 ∷ [])

-- what removals leave
pub record RemovalExamples : Type 0 where
  pub next_has_it : left_clusters (gone 0 0 ∷ in_cluster 0 ∷ in_cluster 1 ∷ []) ≡ 0 ∷ 1 ∷ []
  pub next_has_it_inside : left_clusters (in_cluster 5 ∷ gone 4 0 ∷ in_cluster 4 ∷ []) ≡ 5 ∷ 4 ∷ []
  pub kept_take_lower :
      left_clusters (in_cluster 9 ∷ in_cluster 5 ∷ in_cluster 5 ∷ gone 4 0 ∷ in_cluster 3 ∷ [])
      ≡ 9 ∷ 4 ∷ 4 ∷ 3 ∷ []
  pub kept_take_its_flags : left_masks (in_cluster_with 5 15 ∷ in_cluster_with 5 9 ∷ gone 4 18 ∷ []) ≡ 10 ∷ 10 ∷ []
  pub kept_are_lower : left_clusters (in_cluster 0 ∷ gone 1 0 ∷ in_cluster 2 ∷ []) ≡ 0 ∷ 2 ∷ []
  pub last_goes : left_clusters (in_cluster 2 ∷ gone 1 0 ∷ []) ≡ 1 ∷ []
  pub none_kept_merges : left_clusters (gone 0 0 ∷ in_cluster 1 ∷ in_cluster 1 ∷ in_cluster 2 ∷ []) ≡ 0 ∷ 0 ∷ 2 ∷ []
  pub none_kept_higher : left_clusters (gone 3 0 ∷ in_cluster 2 ∷ []) ≡ 2 ∷ []
  pub asked_as_it_stands : clusters_of (removed (λ g. g.cluster == 0) (buffer_at 0 (glyphs_in (0 ∷ 1 ∷ 2 ∷ [])))) ≡ []
  pub all_go : left_clusters (gone 1 0 ∷ gone 0 0 ∷ []) ≡ []
  pub apart_kept_take_lower :
      clusters_of (removed is_deleted (apart (buffer_at 0 (in_cluster 2 ∷ gone 1 0 ∷ [])))) ≡ 1 ∷ []
  pub apart_none_kept_marks :
      masks_of (removed is_deleted (apart (buffer_at 0 (gone 0 0 ∷ in_cluster 1 ∷ [])))) ≡ 3 ∷ []
  pub positions_go_along :
      (removed is_deleted (standing (place 1 ∷ place 2 ∷ place 3 ∷ []) three_glyphs)).positions
      ≡ Some (place 1 ∷ place 3 ∷ [])
  pub positions_stand_on_nothing :
      (removed is_deleted (standing (place 1 ∷ []) (buffer_at 1 (gone 0 0 ∷ [])))).positions ≡ Some []
