-- What zeroing, kerning and removal leave of a line besides positions.
use Rattle.std.proofs.Common.{◌≡◌, ◌∙◌, ap, refl, ℕ, zero, suc, ◌+◌, ◌<◌, ◌≤◌, Bool, true, not, List, length, get_or, Option, Some, None, arith}
use Rattle.std.proofs.lemmas.List.{length-map, get_or-map}
use Rattle.std.proofs.lemmas.List.Elements.{All-filter, AllZip-get_or}
use Rattle.std.proofs.lemmas.List.Filters.{length-filter_both}
use Rattle.std.proofs.lemmas.Slice.Zip.{AllZip-long}
use Rattle.std.specs.Prelude.{All, filter, is_some, option_map, remove}
use Rattle.std.specs.List.{AllZip}
use Rattle.aat_glyph.specs.declared.glyph.hb_glyph_info_t.{hb_glyph_info_t}
use Rattle.aat_glyph.specs.declared.glyph.GlyphPosition.{GlyphPosition}
use Rattle.aat_buffer.specs.Buffer.{Buffer, no_glyph, glyph_at, with_cursor}
use Rattle.aat_buffer.specs.Clusters.{IsSmall, KeepsOrder, ids}
use Rattle.aat_buffer.specs.Marks.{cluster_at}
use Rattle.aat_buffer.specs.Removal.{removal, removal_step, removed, with_cluster_kept, without_glyph_at_cursor}
use Rattle.aat_buffer.specs.facts.Cases.{either}
use Rattle.aat_buffer.specs.facts.Clusters.{order_of_clusters}
use Rattle.aat_buffer.specs.facts.Order.{comes_trans}
use Rattle.aat_kerning_machines.specs.KerningLaws.{IsKernedFrom, IsMarkedFrom}
use Rattle.aat_run.specs.Laws.{HasOrderOf}
use Rattle.aat_layout.specs.ShapedOrder.{HasShapedOrderOf}

-- removal keeps what asks neither line nor cursor nor positions
module _ {A : Type 0} (f : Buffer → A)
    (same : (b : Buffer) (line : List hb_glyph_info_t) (p : ℕ) (qs : Option (List GlyphPosition)) → f (record b { line = line; cursor = p; positions = qs }) ≡ f b) where
  kept_by_step : (test : hb_glyph_info_t → Bool) (b : Buffer) → f (removal_step test b) ≡ f b
  kept_by_step test b =
      either f (test (glyph_at b.line b.cursor)) (without_glyph_at_cursor (with_cluster_kept b)) (with_cursor b (b.cursor + 1)) (f b)
      (same b _ b.cursor _) (same b b.line (b.cursor + 1) b.positions)

  kept_by_steps : (test : hb_glyph_info_t → Bool) (n : ℕ) (b : Buffer) → f (removal n test b) ≡ f b
  unfolding removal
  kept_by_steps test zero b = refl
  kept_by_steps test (suc n) b = kept_by_steps test n (removal_step test b) ∙ kept_by_step test b

  pub kept_by_removal : (test : hb_glyph_info_t → Bool) (b : Buffer) → f (removed test b) ≡ f b
  kept_by_removal test b =
      same (removal (length b.line) test (with_cursor b 0)) (removal (length b.line) test (with_cursor b 0)).line 0 (removal (length b.line) test (with_cursor b 0)).positions
      ∙ (kept_by_steps test (length b.line) (with_cursor b 0) ∙ same b b.line 0 b.positions)

-- positions stand where they stood
stand_mapped : (o : Option (List GlyphPosition)) (p : ℕ) → is_some (option_map (λ qs. remove qs p) o) ≡ is_some o
stand_mapped None p = refl
stand_mapped (Some qs) p = refl

stand_by_step : (test : hb_glyph_info_t → Bool) (b : Buffer) → is_some (removal_step test b).positions ≡ is_some b.positions
stand_by_step test b =
    either (λ (c : Buffer). is_some c.positions) (test (glyph_at b.line b.cursor)) (without_glyph_at_cursor (with_cluster_kept b)) (with_cursor b (b.cursor + 1)) (is_some b.positions)
    (stand_mapped b.positions b.cursor) refl

stand_by_steps : (test : hb_glyph_info_t → Bool) (n : ℕ) (b : Buffer) → is_some (removal n test b).positions ≡ is_some b.positions
unfolding removal
stand_by_steps test zero b = refl
stand_by_steps test (suc n) b = stand_by_steps test n (removal_step test b) ∙ stand_by_step test b

pub stand_by_removal : (test : hb_glyph_info_t → Bool) (b : Buffer) → is_some (removed test b).positions ≡ is_some b.positions
stand_by_removal test b = stand_by_steps test (length b.line) (with_cursor b 0)

-- glyph ids of 16 bits, from a line or from its ids
small_ids : (b : Buffer) → IsSmall b → All (λ x. x ≤ 65535) (ids b.line)
small_ids b small k d low =
    let inside : k < length b.line = omega (arith, low, length-map b.line (λ g. g.glyph_id)) in
    rw (get_or-map (λ g. g.glyph_id) b.line k no_glyph d inside) (small k no_glyph inside)

-- those that a filter of the ids leaves
pub small_filtered : (t : ℕ → Bool) (b d : Buffer) → ids d.line ≡ filter t (ids b.line) → IsSmall b → IsSmall d
small_filtered t b d is small k e low =
    let all : All (λ x. x ≤ 65535) (filter t (ids b.line)) = All-filter t (λ x. x ≤ 65535) (ids b.line) (small_ids b small) in
    let inside : k < length (ids d.line) = omega (arith, low, length-map d.line (λ g. g.glyph_id)) in
    let read : get_or (ids d.line) k 0 ≡ (get_or d.line k e).glyph_id = get_or-map (λ g. g.glyph_id) d.line k e 0 low in
    let there : k < length (filter t (ids b.line)) = omega (arith, inside, ap length is) in
    let at : get_or (ids d.line) k 0 ≡ get_or (filter t (ids b.line)) k 0 = ap (λ xs. get_or xs k 0) is in
    omega (arith, all k 0 there, read, at)

-- marks change neither ids nor clusters
pub small_marked : (b d : Buffer) → AllZip IsMarkedFrom b.line d.line → IsSmall b → IsSmall d
small_marked b d marked small k e low =
    let inside : k < length b.line = omega (arith, low, AllZip-long IsMarkedFrom b.line d.line marked) in
    let at = AllZip-get_or IsMarkedFrom b.line d.line k no_glyph e marked inside in
    let same : (get_or d.line k e).glyph_id ≡ (get_or b.line k no_glyph).glyph_id = ap (λ (g : hb_glyph_info_t). g.glyph_id) at.2 in
    omega (arith, same, small k no_glyph inside)

marked_cluster : (b d : Buffer) → AllZip IsMarkedFrom b.line d.line → (k : ℕ) → k < length b.line → cluster_at d.line k ≡ cluster_at b.line k
marked_cluster b d marked k low =
    ap (λ (g : hb_glyph_info_t). g.cluster) (AllZip-get_or IsMarkedFrom b.line d.line k no_glyph no_glyph marked low).2

rises : (x y : ℕ) → x ≡ y → x ≤ y
rises x y e = omega (arith, e)

falls : (x y : ℕ) → x ≡ y → y ≤ x
falls x y e = omega (arith, e)

order_of_marked : (b d : Buffer) → AllZip IsMarkedFrom b.line d.line → KeepsOrder b.line d.line
order_of_marked b d marked =
    let long : length d.line ≡ length b.line = AllZip-long IsMarkedFrom b.line d.line marked in
    let equal = marked_cluster b d marked in
    record {
      rising = order_of_clusters (λ x y. x ≤ y) rises b.line d.line long equal;
      falling = order_of_clusters (λ x y. y ≤ x) falls b.line d.line long equal;
      clusters = λ k low. let inside : k < length b.line = omega (arith, low, long) in (k, inside, equal k inside);
    }

-- one step behind another
pub order_behind : (applied : Bool) (b c d : Buffer) → HasShapedOrderOf applied b c → KeepsOrder c.line d.line → HasShapedOrderOf applied b d
order_behind applied b c d first second = record {
  rising = λ merges up. second.rising (first.rising merges up);
  falling = λ merges down. second.falling (first.falling merges down);
  clusters = comes_trans b.line c.line d.line first.clusters second.clusters;
}

same_order : (b d : Buffer) → d.line ≡ b.line → KeepsOrder b.line d.line
same_order b d e = record {
  rising = λ up. rw e up;
  falling = λ down. rw e down;
  clusters = λ k low. (k, omega (arith, low, ap length e), ap (λ line. cluster_at line k) e);
}

-- nothing changes
pub order_of_same : (applied : Bool) (b d : Buffer) → d ≡ b → HasShapedOrderOf applied b d
order_of_same applied b d e = record {
  rising = λ merges up. rw (ap (λ (c : Buffer). c.line) e) up;
  falling = λ merges down. rw (ap (λ (c : Buffer). c.line) e) down;
  clusters = (same_order b d (ap (λ (c : Buffer). c.line) e)).clusters;
}

-- substitution, where the plan applies it
pub order_of_substituted : (applied : Bool) (b d : Buffer) → applied ≡ true → HasOrderOf b d → HasShapedOrderOf applied b d
order_of_substituted applied b d is kept = record {
  rising = λ merges up. kept.rising (merges is) up;
  falling = λ merges down. kept.falling (merges is) down;
  clusters = kept.clusters;
}

-- advances, kerning and zeroing, one after another
pub order_of_placed : (c d e f : Buffer) → d.line ≡ c.line → IsKernedFrom d e → f.line ≡ e.line → KeepsOrder c.line f.line
order_of_placed c d e f advanced kerned zeroed =
    let first = same_order c d advanced in
    let second = order_of_marked d e kerned.line in
    let third = same_order e f zeroed in
    record {
      rising = λ up. third.rising (second.rising (first.rising up));
      falling = λ down. third.falling (second.falling (first.falling down));
      clusters = comes_trans c.line d.line f.line first.clusters (comes_trans d.line e.line f.line second.clusters third.clusters);
    }

-- the ids that a filter leaves are no more
pub length_of_others : (t : ℕ → Bool) (gs hs : List hb_glyph_info_t) → ids hs ≡ filter t (ids gs) → length hs ≤ length gs
length_of_others t gs hs others =
    let id : hb_glyph_info_t → ℕ = λ g. g.glyph_id in
    omega (arith, length-map hs id, length-map gs id, ap length others, length-filter_both t (λ x. not (t x)) (λ _. refl) (ids gs))

-- and the line stays as long
pub length_of_shaped : (c d e f : Buffer) → d.line ≡ c.line → IsKernedFrom d e → f.line ≡ e.line → length f.line ≡ length c.line
length_of_shaped c d e f advanced kerned zeroed =
    omega (arith, ap length zeroed, AllZip-long IsMarkedFrom d.line e.line kerned.line, ap length advanced)
