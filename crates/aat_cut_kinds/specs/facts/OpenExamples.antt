-- Clusters that are open in a small line, and some that are not. A glyph is given by its cluster and its mask.
use Rattle.std.proofs.Common.{◌≡◌, true, false, List, [], ◌∷◌, refl}
use Rattle.aat_buffer.specs.Examples.{buffer_at, in_cluster_with}
use Rattle.aat_buffer.specs.Marks.{merge_clusters, merged}
use Rattle.aat_glyph.specs.declared.glyph.hb_glyph_info_t.{hb_glyph_info_t}
use Rattle.aat_cut_kinds.specs.Open.{is_open}

-- marks of another cluster do not close it, nor does UNSAFE_TO_CONCAT (2)
pub unmarked : is_open 1 (in_cluster_with 0 3 ∷ in_cluster_with 1 2 ∷ in_cluster_with 1 0 ∷ []) ≡ true
unmarked = refl

-- one marked glyph does
pub one_marked : is_open 1 (in_cluster_with 1 0 ∷ in_cluster_with 1 1 ∷ []) ≡ false
one_marked = refl

-- a cluster that the line has not is not open
pub absent : is_open 2 (in_cluster_with 1 0 ∷ []) ≡ false
absent = refl

-- a line that falls, with a cluster that is not open
abbrev pub falling : List hb_glyph_info_t
falling = in_cluster_with 3 0 ∷ in_cluster_with 3 1 ∷ in_cluster_with 2 0 ∷ []

pub closed_before : is_open 3 falling ≡ false
closed_before = refl

-- a merge that stops at the cursor takes its marked glyph alone away from it, and so opens it
pub opened_behind_cursor : is_open 3 (merge_clusters (buffer_at 1 falling) 1 3).line ≡ true
unfolding merged
opened_behind_cursor = refl
