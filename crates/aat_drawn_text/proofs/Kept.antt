-- The glyphs that are kept of a line.
use Rattle.std.proofs.Common.{◌≡◌, ◌≢◌, ◌∙◌, ap, refl, sym, ℕ, zero, suc, ◌<◌, ◌≤◌, ◌==◌, Bool, true, false, true≢false, not, List, [], ◌∷◌, arith, cond, get_or, length, map, Some, None, if◌then◌else◌}
use Rattle.std.specs.Prelude.{All, filter}
use Rattle.std.specs.List.{range_with_len}
use Rattle.std.proofs.lemmas.List.{get_or-map, get_or_default, length-map, same_lists}
use Rattle.std.proofs.lemmas.List.FromFn.{get_or-map-range_with_len, length-map-range_with_len}
use Rattle.aat_buffer.specs.Buffer.{Buffer, glyph_at, no_glyph}
use Rattle.aat_buffer.specs.Clusters.{ids}
use Rattle.aat_buffer.specs.Removal.{deleted_glyph, is_deleted}
use Rattle.aat_glyph.specs.declared.glyph.hb_glyph_info_t.{hb_glyph_info_t}
use Rattle.aat_shaped_text.specs.Breaks.{kept_before}
use Rattle.aat_shaped_text.specs.ShapedText.{drawn_glyph, kept_place, kept_places, with_clusters_of}
use Rattle.aat_shaped_text.specs.declared.text.ShapedGlyph.{ShapedGlyph}
use Rattle.aat_shaped_text.proofs.KeptCounts.{length_passed}
use Rattle.aat_drawn_text.specs.inside.Drawing.{clusters_of}

-- a test of what is made of elements
length_filter_made :
    {X Y : Type 0} (test : Y → Bool) (make : X → Y) (xs : List X)
    → length (filter test (map make xs)) ≡ length (filter (λ x. test (make x)) xs)
length_filter_made test make [] = refl
length_filter_made test make (x ∷ xs) = by_test (test (make x)) (length_filter_made test make xs)
  where
    by_test : (t : Bool)
        → length (filter test (map make xs)) ≡ length (filter (λ y. test (make y)) xs)
        → length (cond t (make x ∷ filter test (map make xs)) (filter test (map make xs)))
        ≡ length (cond t (x ∷ filter (λ y. test (make y)) xs) (filter (λ y. test (make y)) xs))
    by_test true rest = ap suc rest
    by_test false rest = rest

-- all places of a line
pub places_of : (line : List hb_glyph_info_t) → map (glyph_at line) (range_with_len 0 (length line)) ≡ line
places_of line =
    let long : length (map (glyph_at line) (range_with_len 0 (length line))) ≡ length line =
    length-map-range_with_len (glyph_at line) 0 (length line) in
    same_lists (map (glyph_at line) (range_with_len 0 (length line))) line long
    (λ i d low.
    let within : i < length line = omega (arith, low, long) in
    get_or-map-range_with_len (glyph_at line) 0 (length line) i i d within (omega arith)
    ∙ get_or_default line i no_glyph d within)

-- as many places are kept as ids are other ones
pub length_kept :
    (old new : List hb_glyph_info_t) → ids new ≡ filter (λ g. not (g == deleted_glyph)) (ids old)
    → length (kept_places old) ≡ length new
length_kept old new others =
    let kept : hb_glyph_info_t → Bool = λ g. not (is_deleted g) in
    sym (length_filter_made kept (glyph_at old) (range_with_len 0 (length old)))
    ∙ (ap (λ (gs : List hb_glyph_info_t). length (filter kept gs)) (places_of old)
    ∙ (sym (length_filter_made (λ (x : ℕ). not (x == deleted_glyph)) (λ (g : hb_glyph_info_t). g.glyph_id) old)
    ∙ (ap length (sym others) ∙ length-map new (λ g. g.glyph_id))))

-- no more are kept than there are
pub few_kept : (line : List hb_glyph_info_t) → length (kept_places line) ≤ length line
few_kept line =
    omega (
      arith,
      length_passed (λ i. not (is_deleted (glyph_at line i))) (range_with_len 0 (length line)),
      length-map-range_with_len (λ (i : ℕ). i) 0 (length line),
      length-map (range_with_len 0 (length line)) (λ (i : ℕ). i),
    )

-- as many glyphs have clusters of a line, where they are as many
pub length_with_clusters :
    (line : List hb_glyph_info_t) (glyphs : List ShapedGlyph) → length glyphs ≡ length line
    → length (with_clusters_of line glyphs) ≡ length glyphs
length_with_clusters [] [] long = refl
length_with_clusters [] (x ∷ glyphs) long = absurd (omega (arith, long))
length_with_clusters (g ∷ line) [] long = refl
length_with_clusters (g ∷ line) (x ∷ glyphs) long = ap suc (length_with_clusters line glyphs (omega (arith, long)))

-- and they are those
pub clusters_with_clusters :
    (line : List hb_glyph_info_t) (glyphs : List ShapedGlyph) → length glyphs ≡ length line
    → clusters_of (with_clusters_of line glyphs) ≡ map (λ g. g.cluster) line
clusters_with_clusters [] [] long = refl
clusters_with_clusters [] (x ∷ glyphs) long = refl
clusters_with_clusters (g ∷ line) [] long = absurd (omega (arith, long))
clusters_with_clusters (g ∷ line) (x ∷ glyphs) long =
    ap (λ (cs : List ℕ). g.cluster ∷ cs) (clusters_with_clusters line glyphs (omega (arith, long)))

-- what holds of glyphs whatever their clusters are holds with others
all_with_clusters :
    (line : List hb_glyph_info_t) (glyphs : List ShapedGlyph) → All (λ g. g.glyph_id ≢ deleted_glyph) glyphs
    → All (λ g. g.glyph_id ≢ deleted_glyph) (with_clusters_of line glyphs)
all_with_clusters [] glyphs all i d low = absurd (omega (arith, low))
all_with_clusters (g ∷ line) [] all i d low = absurd (omega (arith, low))
all_with_clusters (g ∷ line) (x ∷ glyphs) all zero d low = all zero d (omega arith)
all_with_clusters (g ∷ line) (x ∷ glyphs) all (suc i) d low =
    all_with_clusters line glyphs (λ k e under. all (suc k) e (omega (arith, under))) i d (omega (arith, low))

-- the elements that pass pass
all_passed : {X : Type 0} (test : X → Bool) (xs : List X) → All (λ x. test x ≡ true) (filter test xs)
all_passed test [] = λ i d low. absurd (omega (arith, low))
all_passed test (x ∷ xs) = by_test (test x) refl (all_passed test xs)
  where
    by_test : (t : Bool) → test x ≡ t → All (λ y. test y ≡ true) (filter test xs)
        → All (λ y. test y ≡ true) (cond t (x ∷ filter test xs) (filter test xs))
    by_test true is rest zero d low = is
    by_test true is rest (suc i) d low = rest i d (omega (arith, low))
    by_test false is rest i d low = rest i d low

kept_is : (line : List hb_glyph_info_t) (i : ℕ) → not (is_deleted (glyph_at line i)) ≡ true
    → (glyph_at line i).glyph_id ≢ deleted_glyph
kept_is line i kept same = absurd (true≢false (sym kept ∙ ap (λ (x : ℕ). not (x == deleted_glyph)) same))

-- no glyph that is drawn is deleted
pub all_undeleted :
    (may_break : ℕ → Bool) (b : Buffer) (line : List hb_glyph_info_t)
    → All (λ g. g.glyph_id ≢ deleted_glyph) (with_clusters_of line (map (drawn_glyph may_break b) (kept_places b.line)))
all_undeleted may_break b line =
    let test : ℕ → Bool = λ i. not (is_deleted (glyph_at b.line i)) in
    all_with_clusters line (map (drawn_glyph may_break b) (kept_places b.line))
    (λ i d low.
    let within : i < length (kept_places b.line) =
    omega (arith, low, length-map (kept_places b.line) (drawn_glyph may_break b)) in
    rw (get_or-map (drawn_glyph may_break b) (kept_places b.line) i 0 d within)
    (kept_is b.line (get_or (kept_places b.line) i 0) (all_passed test (range_with_len 0 (length b.line)) i 0 within)))

-- what is noted of a place
pub counted_at :
    (line : List hb_glyph_info_t) (counts : List ℕ) (j : ℕ)
    → counts ≡ map (kept_before line) (range_with_len 0 (length line)) → j < length line
    → get_or counts j 0 ≡ kept_before line j
counted_at line counts j listed low =
    ap (λ (ns : List ℕ). get_or ns j 0) listed
    ∙ get_or-map-range_with_len (kept_before line) 0 (length line) j j 0 low (omega arith)

-- as many places are noted
pub length_counts :
    (line : List hb_glyph_info_t) (counts : List ℕ)
    → counts ≡ map (kept_before line) (range_with_len 0 (length line)) → length counts ≡ length line
length_counts line counts listed =
    ap (λ (ns : List ℕ). length ns) listed ∙ length-map-range_with_len (kept_before line) 0 (length line)

pub not_deleted : (t : Bool) → not t ≡ true → t ≡ false
not_deleted true is = absurd (true≢false (sym is))
not_deleted false is = refl

-- the place of a glyph that is kept
pub place_of_kept :
    (line : List hb_glyph_info_t) (j n : ℕ) → not (is_deleted (glyph_at line j)) ≡ true → n ≡ kept_before line j
    → Some n ≡ kept_place line (Some j)
place_of_kept line j n kept is =
    ap (λ (m : ℕ). Some m) is
    ∙ sym (ap (λ (t : Bool). if t then None else Some (kept_before line j)) (not_deleted (is_deleted (glyph_at line j)) kept))
