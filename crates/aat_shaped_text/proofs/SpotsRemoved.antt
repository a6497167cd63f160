-- The clusters that removal leaves of a line, by its spots alone.
use Rattle.std.proofs.Common.{◌≡◌, ◌∙◌, sym, ap, refl, ℕ, zero, suc, ◌+◌, Bool, true, false, cond, [], ◌∷◌, ◌++◌, length, reverse, arith, append_assoc, append-nil, take_at, drop_at, drop}
use Rattle.std.proofs.lemmas.Grind.{reverse_onto}
use Rattle.std.proofs.lemmas.List.{length-append, length-map, length-reverse}
use Rattle.std.specs.Prelude.{remove}
use Rattle.aat_glyph.specs.declared.glyph.hb_glyph_info_t.{hb_glyph_info_t}
use Rattle.aat_buffer.specs.Buffer.{Buffer, glyph_at, with_cursor}
use Rattle.aat_buffer.specs.Removal.{cluster_kept_line, is_deleted, removal, removal_step, removed, with_cluster_kept, without_glyph_at_cursor}
use Rattle.aat_shaped_text.proofs.Spots.{lefts, length_raised, lowered}
use Rattle.aat_shaped_text.proofs.SpotsRuns.{Glyphs, clusters, clusters-reverse, spot, spots}
use Rattle.aat_shaped_text.proofs.SpotsHanded.{HandedOn, handed_on, here_is, line_of}

-- a buffer whose line stands so
pub record Stands (b : Buffer) (fs rest : Glyphs) : Type 0 where
  pub line : b.line ≡ line_of fs rest
  pub cursor : b.cursor ≡ length fs
  pub level : b.cluster_level ≡ 0

-- the glyph at the place behind a front goes
gone :
    (fs : Glyphs) (g : hb_glyph_info_t) (rest : Glyphs) (p : ℕ) → p ≡ length fs
    → remove (line_of fs (g ∷ rest)) p ≡ line_of fs rest
gone fs g rest p place =
    let front : length (reverse fs) ≡ p = length-reverse fs ∙ sym place in
    let more : length (reverse fs ++ g ∷ []) ≡ suc p = length-append (reverse fs) (g ∷ []) ∙ omega (arith, front) in
    ap (λ zs. zs ++ drop (suc p) (line_of fs (g ∷ rest))) (take_at (reverse fs) (g ∷ rest) p front)
    ∙ (ap (λ zs. reverse fs ++ drop (suc p) zs) (sym (append_assoc (reverse fs) (g ∷ []) rest))
    ∙ ap (λ zs. reverse fs ++ zs) (drop_at (reverse fs ++ g ∷ []) rest (suc p) more))

module _ (b : Buffer) (fs : Glyphs) (g : hb_glyph_info_t) (rest : Glyphs) (stands : Stands b fs (g ∷ rest)) where
  abbrev kept : Buffer
  kept = with_cursor b (b.cursor + 1)

  abbrev left : Buffer
  left = without_glyph_at_cursor (with_cluster_kept b)

  at_cursor : glyph_at b.line b.cursor ≡ g
  at_cursor = ap (glyph_at b.line) stands.cursor ∙ (ap (λ zs. glyph_at zs (length fs)) stands.line ∙ here_is fs g rest)

  step_is : (t : Bool) → is_deleted g ≡ t → removal_step is_deleted b ≡ cond t left kept
  step_is t is = ap (λ (x : hb_glyph_info_t). cond (is_deleted x) left kept) at_cursor ∙ ap (λ u. cond u left kept) is

  kept_stands : Stands kept (g ∷ fs) rest
  kept_stands = record {
    line = stands.line
        ∙ (sym (append_assoc (reverse fs) (g ∷ []) rest) ∙ ap (λ zs. zs ++ rest) (sym (reverse_onto fs g [])));
    cursor = omega (arith, stands.cursor);
    level = stands.level;
  }

  abbrev handed : HandedOn fs g rest (cluster_kept_line 0 (length fs) (line_of fs (g ∷ rest)))
  handed = handed_on fs g rest

  left_stands : Stands left handed.front handed.behind
  left_stands = record {
    line = ap (λ zs. remove zs b.cursor)
        (ap (λ level. cluster_kept_line level b.cursor b.line) stands.level
        ∙ (ap (λ p. cluster_kept_line 0 p b.line) stands.cursor
        ∙ (ap (λ zs. cluster_kept_line 0 (length fs) zs) stands.line ∙ handed.whole)))
        ∙ gone handed.front handed.here handed.behind b.cursor (stands.cursor ∙ sym handed.long);
    cursor = stands.cursor ∙ sym handed.long;
    level = stands.level;
  }

clusters_of_removal :
    (n : ℕ) (b : Buffer) (fs rest : Glyphs) → Stands b fs rest → length rest ≡ n
    → clusters (removal n is_deleted b).line ≡ reverse (lefts n (clusters fs) (spots rest))
unfolding removal
clusters_of_removal zero b fs [] stands long =
    ap clusters (stands.line ∙ append-nil (reverse fs)) ∙ clusters-reverse fs
clusters_of_removal zero b fs (g ∷ rest) stands long = absurd (omega (arith, long))
clusters_of_removal (suc n) b fs [] stands long = absurd (omega (arith, long))
clusters_of_removal (suc n) b fs (g ∷ rest) stands long =
    let next : length rest ≡ n = omega (arith, long) in
    let h = handed b fs g rest stands in
    let same : length h.behind ≡ n =
    sym (length-map h.behind spot) ∙ (ap length h.rests ∙ (length_raised (clusters fs) g.cluster (spots rest) ∙ (length-map rest spot ∙ next))) in
    by
    (clusters_of_removal n (kept b fs g rest stands) (g ∷ fs) rest (kept_stands b fs g rest stands) next)
    (clusters_of_removal n (left b fs g rest stands) h.front h.behind (left_stands b fs g rest stands) same)
    (is_deleted g) refl
  where
    by :
        clusters (removal n is_deleted (kept b fs g rest stands)).line ≡ reverse (lefts n (clusters (g ∷ fs)) (spots rest))
        → clusters (removal n is_deleted (left b fs g rest stands)).line ≡ reverse (lefts n (clusters (handed b fs g rest stands).front) (spots (handed b fs g rest stands).behind))
        → (t : Bool) → is_deleted g ≡ t
        → clusters (removal n is_deleted (removal_step is_deleted b)).line ≡ reverse (lefts (suc n) (clusters fs) (spots (g ∷ rest)))
    by stays goes false is =
        ap (λ (c : Buffer). clusters (removal n is_deleted c).line) (step_is b fs g rest stands false is)
        ∙ (stays ∙ sym (ap (λ t. reverse (lefts (suc n) (clusters fs) ((t, g.cluster) ∷ spots rest))) is))
    by stays goes true is =
        let h = handed b fs g rest stands in
        ap (λ (c : Buffer). clusters (removal n is_deleted c).line) (step_is b fs g rest stands true is)
        ∙ (goes
        ∙ (ap (λ zs. reverse (lefts n zs (spots h.behind))) h.fronts
        ∙ (ap (λ zs. reverse (lefts n (lowered (clusters fs) g.cluster (spots rest)) zs)) h.rests
        ∙ sym (ap (λ t. reverse (lefts (suc n) (clusters fs) ((t, g.cluster) ∷ spots rest))) is))))

-- the clusters that removal leaves
pub clusters_of_removed :
    (b : Buffer) → b.cluster_level ≡ 0
    → clusters (removed is_deleted b).line ≡ reverse (lefts (length b.line) [] (spots b.line))
clusters_of_removed b level =
    clusters_of_removal (length b.line) (with_cursor b 0) [] b.line (record { line = refl; cursor = refl; level = level }) refl
