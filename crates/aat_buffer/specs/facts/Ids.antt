-- What marks and merges keep of the glyph ids.
use Rattle.std.proofs.Common.{◌≡◌, get_or, sym, ap, ◌+◌, ◌-◌, ◌<◌, ◌≤◌, ◌==◌, ◌&&◌, not, cond, min, List, length, refl, ◌∙◌, arith, nat_le}
use Rattle.std.proofs.lemmas.List.{length-map, get_or-map}
use Rattle.std.specs.Prelude.{slice_range, All, Option, ℕ}
use Rattle.std.proofs.lemmas.Bool.Decides.{nat_tests}
use Rattle.aat_buffer.specs.Buffer.{Buffer, Is16Bit}
use Rattle.aat_buffer.specs.Marks.{clusters_stay_apart, on_span, cluster_at, merge_clusters, merge_out_clusters, merged, merged_out, run_after, run_before, merge_start, merge_end, least_of, with_cluster, marked_above, with_mask_bits, break_marked, unsafe_to_break, start_place, end_place}
use Rattle.aat_glyph.specs.declared.glyph.hb_glyph_info_t.{hb_glyph_info_t}
use Rattle.aat_buffer.specs.Clusters.{IsSmall, ids}
use Rattle.aat_buffer.specs.facts.Clusters.{map_span}
use Rattle.aat_buffer.specs.facts.Cases.{chosen}
use Rattle.aat_buffer.specs.facts.Lines.{merge_start_low, merge_end_low}

pub id_of_marked : (least : ℕ) (g : hb_glyph_info_t) → (marked_above least 3 g).glyph_id ≡ g.glyph_id
id_of_marked least g = chosen (λ (x : hb_glyph_info_t). x.glyph_id ≡ g.glyph_id) (g.cluster == least) g (with_mask_bits 3 g) (λ _. refl) (λ _. refl)

id_of_cluster : (c : ℕ) (g : hb_glyph_info_t) → (with_cluster c g).glyph_id ≡ g.glyph_id
id_of_cluster c g = chosen (λ (x : hb_glyph_info_t). x.glyph_id ≡ g.glyph_id) (g.cluster == c) g _ (λ _. refl) (λ _. refl)

-- a merge changes no glyph id
pub ids_of_merge : (b : Buffer) (i j : ℕ) → ids (merge_clusters b i j).line ≡ ids b.line
unfolding merged
ids_of_merge b i j =
    let e = min j (length b.line) in
    let m = least_of (slice_range b.line i e) in
    chosen (λ (gs : List hb_glyph_info_t). ids gs ≡ ids b.line) (nat_le (i + 2) e) (cond (clusters_stay_apart b.cluster_level) (on_span break_marked i e b.line) (merged b.line b.cursor i e)) b.line
    (λ long.
    let low : i ≤ e = grind (arith, nat_tests, long) in
    chosen (λ (gs : List hb_glyph_info_t). ids gs ≡ ids b.line) (clusters_stay_apart b.cluster_level) (on_span break_marked i e b.line) (merged b.line b.cursor i e)
    (λ _. map_span (λ (g : hb_glyph_info_t). g.glyph_id) (marked_above m 3) (id_of_marked m) i e b.line low)
    (λ _. map_span (λ (g : hb_glyph_info_t). g.glyph_id) (with_cluster m) (id_of_cluster m) (merge_start b.line b.cursor i m) (merge_end b.line e m) b.line (omega (arith, low, merge_start_low b.line b.cursor i m, merge_end_low b.line e m))))
    (λ _. refl)

-- a merge on both sides of the cursor changes no glyph id
pub ids_of_merge_out : (b : Buffer) (i j : ℕ) → ids (merge_out_clusters b i j).line ≡ ids b.line
unfolding merged_out
ids_of_merge_out b i j =
    let e = min j (length b.line) in
    let m = least_of (slice_range b.line i e) in
    chosen (λ (gs : List hb_glyph_info_t). ids gs ≡ ids b.line) (nat_le (i + 2) e && not (clusters_stay_apart b.cluster_level)) (merged_out b.line i e) b.line
    (λ long.
    let low : i ≤ e = grind (arith, nat_tests, long) in
    map_span (λ (g : hb_glyph_info_t). g.glyph_id) (with_cluster m) (id_of_cluster m) (i - run_before b.line 0 i (cluster_at b.line i)) (e + run_after b.line e (cluster_at b.line (e - 1))) b.line (omega (arith, low)))
    (λ _. refl)

-- the ids behind a mark
pub ids_of_unsafe : (b : Buffer) (s e : Option ℕ) → ids (unsafe_to_break b s e).line ≡ ids b.line
ids_of_unsafe b s e =
    let n = start_place s in
    let m = end_place e (length b.line) in
    chosen (λ (gs : List hb_glyph_info_t). ids gs ≡ ids b.line) (nat_le (n + 2) m) (on_span break_marked n m b.line) b.line
    (λ long. let low : n ≤ m = grind (arith, nat_tests, long) in map_span (λ (g : hb_glyph_info_t). g.glyph_id) (marked_above (least_of (slice_range b.line n m)) 3) (id_of_marked (least_of (slice_range b.line n m))) n m b.line low) (λ _. refl)

-- where the ids are the same, they have 16 bits still
small_of_ids : (gs hs : List hb_glyph_info_t) → ids hs ≡ ids gs → All Is16Bit gs → All Is16Bit hs
small_of_ids gs hs same small k d low =
    let id : hb_glyph_info_t → ℕ = λ g. g.glyph_id in
    let long : length hs ≡ length gs = sym (length-map hs id) ∙ (ap length same ∙ length-map gs id) in
    let inside : k < length gs = omega (arith, low, long) in
    let equal : id (get_or hs k d) ≡ id (get_or gs k d) = sym (get_or-map id hs k d 0 low) ∙ (ap (λ xs. get_or xs k 0) same ∙ get_or-map id gs k d 0 inside) in
    omega (arith, equal, small k d inside)

pub small_of_unsafe : (b : Buffer) (s e : Option ℕ) → IsSmall b → IsSmall (unsafe_to_break b s e)
small_of_unsafe b s e small = small_of_ids b.line (unsafe_to_break b s e).line (ids_of_unsafe b s e) small
