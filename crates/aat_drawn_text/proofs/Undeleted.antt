-- A line of which no glyph is deleted is drawn as it stands.
use Rattle.std.proofs.Common.{◌≡◌, ◌∙◌, ap, drop, refl, sym, ℕ, zero, suc, ◌+◌, ◌<◌, ◌≤◌, ◌==◌, Bool, true, false, List, [], ◌∷◌, arith, cond, length, map, not}
use Rattle.std.proofs.lemmas.List.FromFn.{length-range_with_len}
use Rattle.std.specs.List.{range_with_len}
use Rattle.std.specs.Prelude.{filter}
use Rattle.aat_buffer.specs.Buffer.{Buffer, glyph_at, with_cursor, without_positions}
use Rattle.aat_buffer.specs.Clusters.{KeepsOrder, ids}
use Rattle.aat_buffer.specs.Marks.{cluster_at}
use Rattle.aat_buffer.specs.Removal.{deleted_glyph, is_deleted, removal, removal_step, removed, with_cluster_kept, without_glyph_at_cursor}
use Rattle.aat_glyph.specs.declared.glyph.hb_glyph_info_t.{hb_glyph_info_t}
use Rattle.aat_shaped_text.proofs.KeptCounts.{length_passed}
use Rattle.aat_shaped_text.specs.ShapedText.{drawn_glyph, drawn_glyphs, kept_places, with_clusters_of}
use Rattle.aat_shaped_text.specs.declared.text.ShapedGlyph.{ShapedGlyph}
use Rattle.aat_drawn_text.specs.inside.Drawing.{clusters_of}
use Rattle.aat_drawn_text.proofs.Kept.{not_deleted, places_of}

-- where as many places pass a test as there are, each does
all_pass : (p : ℕ → Bool) (a n : ℕ) → n ≤ length (filter p (range_with_len a n)) → (k : ℕ) → k < n → p (a + k) ≡ true
all_pass p a zero most k low = absurd (omega (arith, low))
all_pass p a (suc n) most k low = by_test (p a) refl most (all_pass p (a + 1) n) k low
  where
    rest : List ℕ
    rest = filter p (range_with_len (a + 1) n)

    by_test :
        (t : Bool) → p a ≡ t → suc n ≤ length (cond t (a ∷ rest) rest)
        → (n ≤ length rest → (k : ℕ) → k < n → p (a + 1 + k) ≡ true)
        → (k : ℕ) → k < suc n → p (a + k) ≡ true
    by_test false is most more k low =
        absurd (omega (arith, most, length_passed p (range_with_len (a + 1) n), length-range_with_len (a + 1) n))
    by_test true is most more zero low = let same : a + 0 ≡ a = omega arith in ap p same ∙ is
    by_test true is most more (suc k) low =
        let next : a + suc k ≡ a + 1 + k = omega arith in
        ap p next ∙ more (omega (arith, most)) k (omega (arith, low))

-- and so all of them are those that pass
all_places : (p : ℕ → Bool) (a n : ℕ) → n ≤ length (filter p (range_with_len a n)) → filter p (range_with_len a n) ≡ range_with_len a n
all_places p a zero most = refl
all_places p a (suc n) most = by_test (p a) most (all_places p (a + 1) n)
  where
    rest : List ℕ
    rest = filter p (range_with_len (a + 1) n)

    by_test :
        (t : Bool) → suc n ≤ length (cond t (a ∷ rest) rest) → (n ≤ length rest → rest ≡ range_with_len (a + 1) n)
        → cond t (a ∷ rest) rest ≡ a ∷ range_with_len (a + 1) n
    by_test false most more =
        absurd (omega (arith, most, length_passed p (range_with_len (a + 1) n), length-range_with_len (a + 1) n))
    by_test true most more = ap (λ (ks : List ℕ). a ∷ ks) (more (omega (arith, most)))

-- glyphs from the cursor on that are kept stay as they are
removal_of_kept :
    (n : ℕ) (b : Buffer) → ((i : ℕ) → i < b.cursor + n → is_deleted (glyph_at b.line i) ≡ false)
    → removal n is_deleted b ≡ with_cursor b (b.cursor + n)
unfolding removal
removal_of_kept zero b kept = let same : b.cursor ≡ b.cursor + 0 = omega arith in ap (λ (p : ℕ). with_cursor b p) same
removal_of_kept (suc n) b kept =
    let next : b.cursor + 1 + n ≡ b.cursor + suc n = omega arith in
    ap (λ (t : Bool). removal n is_deleted (cond t (without_glyph_at_cursor (with_cluster_kept b)) (with_cursor b (b.cursor + 1))))
    (kept b.cursor (omega arith))
    ∙ (removal_of_kept n (with_cursor b (b.cursor + 1)) (λ i low. kept i (omega (arith, low)))
    ∙ ap (λ (p : ℕ). with_cursor b p) next)

-- a glyph is drawn for its own cluster
own_clusters :
    (may_break : ℕ → Bool) (b : Buffer) (ks : List ℕ)
    → with_clusters_of (map (glyph_at b.line) ks) (map (drawn_glyph may_break b) ks) ≡ map (drawn_glyph may_break b) ks
own_clusters may_break b [] = refl
own_clusters may_break b (k ∷ ks) =
    ap (λ (gs : List ShapedGlyph). drawn_glyph may_break b k ∷ gs) (own_clusters may_break b ks)

own_cluster :
    (may_break : ℕ → Bool) (b : Buffer) (ks : List ℕ)
    → clusters_of (map (drawn_glyph may_break b) ks) ≡ map (λ g. g.cluster) (map (glyph_at b.line) ks)
own_cluster may_break b [] = refl
own_cluster may_break b (k ∷ ks) = ap (λ (cs : List ℕ). (glyph_at b.line k).cluster ∷ cs) (own_cluster may_break b ks)

-- after a removal the whole line stands from the cursor on
pub from_front :
    (b left : Buffer) (line : List hb_glyph_info_t) → left ≡ removed is_deleted b → line ≡ drop left.cursor left.line
    → line ≡ left.line
from_front b left line gone read =
    read ∙ (ap (λ (c : Buffer). drop c.cursor c.line) gone ∙ sym (ap (λ (c : Buffer). c.line) gone))

-- Removal takes the same glyphs out of a line without its positions.
bare_step :
    (t : Bool) (b : Buffer)
    → cond t (without_glyph_at_cursor (with_cluster_kept (without_positions b))) (with_cursor (without_positions b) (b.cursor + 1))
    ≡ without_positions (cond t (without_glyph_at_cursor (with_cluster_kept b)) (with_cursor b (b.cursor + 1)))
bare_step true b = refl
bare_step false b = refl

bare_removal :
    (n : ℕ) (b : Buffer) → removal n is_deleted (without_positions b) ≡ without_positions (removal n is_deleted b)
unfolding removal
bare_removal zero b = refl
bare_removal (suc n) b =
    ap (removal n is_deleted) (bare_step (is_deleted (glyph_at b.line b.cursor)) b) ∙ bare_removal n (removal_step is_deleted b)

module _ (b bare left : Buffer) (is : bare ≡ without_positions b) (gone : left ≡ removed is_deleted bare) where
  pub left_bare : left.line ≡ (removed is_deleted b).line
  left_bare =
      ap (λ (c : Buffer). c.line) gone
      ∙ (ap (λ (c : Buffer). (removed is_deleted c).line) is
      ∙ ap (λ (c : Buffer). c.line) (bare_removal (length b.line) (with_cursor b 0)))

  pub others_bare :
      ids left.line ≡ filter (λ g. not (g == deleted_glyph)) (ids bare.line)
      → ids left.line ≡ filter (λ g. not (g == deleted_glyph)) (ids b.line)
  others_bare others =
      others ∙ ap (λ (c : Buffer). filter (λ (g : ℕ). not (g == deleted_glyph)) (ids c.line)) is

-- a cursor that moves keeps the order of clusters
pub order_at_front : (b c : Buffer) → c ≡ with_cursor b 0 → KeepsOrder b.line c.line
order_at_front b c is = record {
  rising = λ up. rw is up;
  falling = λ down. rw is down;
  clusters = λ k low. (k, rw is at low, ap (λ (d : Buffer). cluster_at d.line k) is);
}

-- Of a line that has as many places as kept ones nothing is removed.
module _ (b : Buffer) (whole : length b.line ≤ length (kept_places b.line)) where
  none_deleted : (i : ℕ) → i < length b.line → is_deleted (glyph_at b.line i) ≡ false
  none_deleted i low =
      let same : i ≡ 0 + i = omega arith in
      not_deleted (is_deleted (glyph_at b.line i))
      (ap (λ k. not (is_deleted (glyph_at b.line k))) same
      ∙ all_pass (λ k. not (is_deleted (glyph_at b.line k))) 0 (length b.line) whole i low)

  left_whole : (removed is_deleted b).line ≡ b.line
  left_whole =
      ap (λ (c : Buffer). c.line)
      (removal_of_kept (length b.line) (with_cursor b 0) (λ i low. none_deleted i (omega (arith, low))))

  line_is : map (glyph_at b.line) (kept_places b.line) ≡ b.line
  line_is =
      ap (map (glyph_at b.line)) (all_places (λ k. not (is_deleted (glyph_at b.line k))) 0 (length b.line) whole)
      ∙ places_of b.line

  pub drawn_whole : (may_break : ℕ → Bool) → map (drawn_glyph may_break b) (kept_places b.line) ≡ drawn_glyphs may_break b
  drawn_whole may_break =
      let made = map (drawn_glyph may_break b) (kept_places b.line) in
      sym
      (ap (λ (line : List hb_glyph_info_t). with_clusters_of line made) (left_whole ∙ sym line_is)
      ∙ own_clusters may_break b (kept_places b.line))

  pub clusters_whole :
      (may_break : ℕ → Bool)
      → clusters_of (map (drawn_glyph may_break b) (kept_places b.line)) ≡ map (λ g. g.cluster) b.line
  clusters_whole may_break =
      own_cluster may_break b (kept_places b.line) ∙ ap (map (λ (g : hb_glyph_info_t). g.cluster)) line_is
