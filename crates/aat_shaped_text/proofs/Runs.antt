-- Runs of glyphs that share a cluster, glyph by glyph.
use Rattle.std.proofs.Common.{◌≡◌, ◌≢◌, ◌∙◌, ap, refl, ℕ, suc, ◌<◌, ◌==◌, ◌||◌, Bool, true, false, List, [], ◌∷◌, cond, length, reverse, take, take_while}
use Rattle.std.specs.List.{list_any}
use Rattle.std.proofs.Math.Seq.{take-suc}
use Rattle.std.proofs.lemmas.Bool.{eq-eqb, eqb-true, false_from_ne_true}
use Rattle.std.proofs.lemmas.List.{reverse-append}
use Rattle.std.proofs.lemmas.List.Sums.{take_while-cons}
use Rattle.aat_buffer.specs.Buffer.{glyph_at, no_glyph}
use Rattle.aat_glyph.specs.declared.glyph.hb_glyph_info_t.{hb_glyph_info_t}
use Rattle.aat_buffer.specs.Marks.{cluster_at}
use Rattle.aat_shaped_text.specs.Breaks.{is_unsafe, shares_cluster}

-- whether one of the glyphs at the front that pass a test is marked
abbrev pub unsafe_front : (hb_glyph_info_t → Bool) → List hb_glyph_info_t → Bool
unsafe_front test gs = list_any is_unsafe (take_while test gs)

-- the first glyph, and the others
pub front_of_cons :
    (test : hb_glyph_info_t → Bool) (g : hb_glyph_info_t) (gs : List hb_glyph_info_t)
    → unsafe_front test (g ∷ gs) ≡ cond (test g) (is_unsafe g || unsafe_front test gs) false
front_of_cons test g gs = ap (list_any is_unsafe) (take_while-cons test g gs) ∙ by_test (test g)
  where
    by_test : (t : Bool)
        → list_any is_unsafe (cond t (g ∷ take_while test gs) []) ≡ cond t (is_unsafe g || unsafe_front test gs) false
    by_test true = refl
    by_test false = refl

-- the first glyph has the cluster, and is marked
pub marked_front :
    (line : List hb_glyph_info_t) (i : ℕ) (g : hb_glyph_info_t) (gs : List hb_glyph_info_t)
    → g.cluster ≡ cluster_at line i → is_unsafe g ≡ true → unsafe_front (shares_cluster line i) (g ∷ gs) ≡ true
marked_front line i g gs same marked =
    let rest = unsafe_front (shares_cluster line i) gs in
    front_of_cons (shares_cluster line i) g gs
    ∙ (ap (λ (t : Bool). cond t (is_unsafe g || rest) false) (eq-eqb g.cluster (cluster_at line i) same)
    ∙ ap (λ (u : Bool). u || rest) marked)

-- it has the cluster, and is not marked
pub unmarked_front :
    (line : List hb_glyph_info_t) (i : ℕ) (g : hb_glyph_info_t) (gs : List hb_glyph_info_t)
    → g.cluster ≡ cluster_at line i → is_unsafe g ≡ false
    → unsafe_front (shares_cluster line i) (g ∷ gs) ≡ unsafe_front (shares_cluster line i) gs
unmarked_front line i g gs same unmarked =
    let rest = unsafe_front (shares_cluster line i) gs in
    front_of_cons (shares_cluster line i) g gs
    ∙ (ap (λ (t : Bool). cond t (is_unsafe g || rest) false) (eq-eqb g.cluster (cluster_at line i) same)
    ∙ ap (λ (u : Bool). u || rest) unmarked)

-- it has another cluster
pub other_front :
    (line : List hb_glyph_info_t) (i : ℕ) (g : hb_glyph_info_t) (gs : List hb_glyph_info_t)
    → g.cluster ≢ cluster_at line i → unsafe_front (shares_cluster line i) (g ∷ gs) ≡ false
other_front line i g gs other =
    let rest = unsafe_front (shares_cluster line i) gs in
    front_of_cons (shares_cluster line i) g gs
    ∙ ap (λ (t : Bool). cond t (is_unsafe g || rest) false)
    (false_from_ne_true (g.cluster == cluster_at line i) (λ e. other (eqb-true g.cluster (cluster_at line i) e)))

-- what stands before a place, from the last to the first
pub reversed_front :
    (line : List hb_glyph_info_t) (j : ℕ) → j < length line
    → reverse (take (suc j) line) ≡ glyph_at line j ∷ reverse (take j line)
reversed_front line j low =
    ap (λ (gs : List hb_glyph_info_t). reverse gs) (take-suc line j no_glyph low)
    ∙ reverse-append (take j line) (glyph_at line j ∷ [])
