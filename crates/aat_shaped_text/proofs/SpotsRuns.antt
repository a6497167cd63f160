-- Runs of glyphs that share a cluster, in a line and among its spots.
use Rattle.std.proofs.Common.{◌≡◌, ◌∙◌, sym, ap, refl, ℕ, suc, ◌+◌, ◌-◌, ◌==◌, Bool, true, false, cond, List, [], ◌∷◌, ◌++◌, length, map, take, drop, reverse, arith, append_assoc, take_at, drop_at, one-add, bit_and, if◌then◌else◌}
use Rattle.std.proofs.lemmas.Bool.{eqb-true}
use Rattle.std.proofs.lemmas.Grind.{reverse_onto}
use Rattle.std.proofs.lemmas.List.{length-append, length-reverse, map-append, reverse-append, reverse-reverse, take-append-drop}
use Rattle.std.specs.Prelude.{slice_range}
use Rattle.std.specs.List.{prefix_len}
use Rattle.aat_glyph.specs.declared.glyph.hb_glyph_info_t.{hb_glyph_info_t}
use Rattle.aat_buffer.specs.Marks.{on_span, run_before, run_of, with_cluster}
use Rattle.aat_buffer.specs.Removal.{is_deleted, lowered_run, with_cluster_and_flags}
use Rattle.aat_shaped_text.proofs.Spots.{Spot, lower_run, merge_run}

abbrev pub Glyphs : Type 0
Glyphs = List hb_glyph_info_t

-- what removal asks of a glyph
abbrev pub spot : hb_glyph_info_t → Spot
spot g = (is_deleted g, g.cluster)

abbrev pub spots : Glyphs → List Spot
spots gs = map spot gs

abbrev pub clusters : Glyphs → List ℕ
clusters gs = map (λ g. g.cluster) gs

-- the glyphs in front that have the cluster e, up to the first other one, become f of them
abbrev pub map_run : (hb_glyph_info_t → hb_glyph_info_t) → ℕ → Glyphs → Glyphs
map_run f e [] = []
map_run f e (g ∷ gs) = if g.cluster == e then f g ∷ map_run f e gs else g ∷ gs

-- the length of a run
run_more : (e : ℕ) (g : hb_glyph_info_t) (gs : Glyphs) → run_of e (g ∷ gs) ≡ cond (g.cluster == e) (suc (run_of e gs)) 0
run_more e g gs = by (g.cluster == e)
  where
    by : (t : Bool) → length (take (cond t (1 + prefix_len (λ h. h.cluster == e) gs) 0) (g ∷ gs)) ≡ cond t (suc (run_of e gs)) 0
    by true = ap (λ k. length (take k (g ∷ gs))) (one-add (prefix_len (λ h. h.cluster == e) gs))
    by false = refl

pub run_is : (f : hb_glyph_info_t → hb_glyph_info_t) (e : ℕ) (gs : Glyphs) → map f (take (run_of e gs) gs) ++ drop (run_of e gs) gs ≡ map_run f e gs
run_is f e [] = refl
run_is f e (g ∷ gs) =
    ap (λ k. map f (take k (g ∷ gs)) ++ drop k (g ∷ gs)) (run_more e g gs) ∙ by (run_is f e gs) (g.cluster == e)
  where
    by : map f (take (run_of e gs) gs) ++ drop (run_of e gs) gs ≡ map_run f e gs → (t : Bool)
        → map f (take (cond t (suc (run_of e gs)) 0) (g ∷ gs)) ++ drop (cond t (suc (run_of e gs)) 0) (g ∷ gs)
        ≡ cond t (f g ∷ map_run f e gs) (g ∷ gs)
    by below true = ap (λ zs. f g ∷ zs) below
    by below false = refl

pub clusters_of_run :
    (f : hb_glyph_info_t → hb_glyph_info_t) (e c : ℕ) (gs : Glyphs) → ((g : hb_glyph_info_t) → (f g).cluster ≡ c)
    → clusters (map_run f e gs) ≡ lower_run e c (clusters gs)
clusters_of_run f e c [] sets = refl
clusters_of_run f e c (g ∷ gs) sets = by (clusters_of_run f e c gs sets) (g.cluster == e)
  where
    by : clusters (map_run f e gs) ≡ lower_run e c (clusters gs) → (t : Bool)
        → clusters (cond t (f g ∷ map_run f e gs) (g ∷ gs))
        ≡ cond t (c ∷ lower_run e c (clusters gs)) (g.cluster ∷ clusters gs)
    by below true = ap (λ x. x ∷ clusters (map_run f e gs)) (sets g) ∙ ap (λ zs. c ∷ zs) below
    by below false = refl

pub spots_of_run :
    (f : hb_glyph_info_t → hb_glyph_info_t) (e c : ℕ) (gs : Glyphs)
    → ((g : hb_glyph_info_t) → spot (f g) ≡ (is_deleted g, c)) → spots (map_run f e gs) ≡ merge_run e c (spots gs)
spots_of_run f e c [] sets = refl
spots_of_run f e c (g ∷ gs) sets = by (spots_of_run f e c gs sets) (g.cluster == e)
  where
    by : spots (map_run f e gs) ≡ merge_run e c (spots gs) → (t : Bool)
        → spots (cond t (f g ∷ map_run f e gs) (g ∷ gs))
        ≡ cond t ((is_deleted g, c) ∷ merge_run e c (spots gs)) (spot g ∷ spots gs)
    by below true = ap (λ x. x ∷ spots (map_run f e gs)) (sets g) ∙ ap (λ zs. (is_deleted g, c) ∷ zs) below
    by below false = refl

pub spot_set : (c : ℕ) (g : hb_glyph_info_t) → spot (with_cluster c g) ≡ (is_deleted g, c)
spot_set c g = by (g.cluster == c) refl
  where
    by : (t : Bool) → (g.cluster == c) ≡ t → spot (cond t g (record g { cluster = c; mask = bit_and g.mask 0xFFFFFFF8 })) ≡ (is_deleted g, c)
    by true is = ap (λ x. (is_deleted g, x)) (eqb-true g.cluster c is)
    by false is = refl

-- a span of three parts
module _ (xs ys zs : Glyphs) (f : Glyphs → Glyphs) where
  on_middle : on_span f (length xs) (length xs + length ys) (xs ++ (ys ++ zs)) ≡ xs ++ (f ys ++ zs)
  on_middle =
      let n = length xs in
      let m = length ys in
      let gs = xs ++ (ys ++ zs) in
      let wide : (n + m) - n ≡ m = omega arith in
      let behind : drop (n + m) gs ≡ zs =
      ap (drop (n + m)) (sym (append_assoc xs ys zs)) ∙ drop_at (xs ++ ys) zs (n + m) (length-append xs ys) in
      ap (λ us. us ++ (f (slice_range gs n (n + m)) ++ drop (n + m) gs)) (take_at xs (ys ++ zs) n refl)
      ∙ (ap (λ us. xs ++ (f (slice_range gs n (n + m)) ++ us)) behind
      ∙ (ap (λ k. xs ++ (f (take k (drop n gs)) ++ zs)) wide
      ∙ (ap (λ us. xs ++ (f (take m us) ++ zs)) (drop_at xs (ys ++ zs) n refl)
      ∙ ap (λ us. xs ++ (f us ++ zs)) (take_at ys zs m refl))))

pub map-reverse : {X Y : Type 0} (f : X → Y) (xs : List X) → map f (reverse xs) ≡ reverse (map f xs)
map-reverse f [] = refl
map-reverse f (x ∷ xs) =
    ap (map f) (reverse_onto xs x [])
    ∙ (map-append f (reverse xs) (x ∷ [])
    ∙ (ap (λ us. us ++ f x ∷ []) (map-reverse f xs) ∙ sym (reverse_onto (map f xs) (f x) [])))

pub clusters-reverse : (gs : Glyphs) → clusters (reverse gs) ≡ reverse (clusters gs)
clusters-reverse gs = map-reverse (λ (g : hb_glyph_info_t). g.cluster) gs

-- the run before a place that is lowered
pub lowered_is :
    (fs : Glyphs) (last : ℕ) (g : hb_glyph_info_t) (rest : Glyphs)
    → lowered_run (reverse fs ++ rest) (length fs) last g
    ≡ reverse (map_run (with_cluster_and_flags g) last fs) ++ rest
unfolding lowered_run
lowered_is fs last g rest =
    let f = with_cluster_and_flags g in
    let p = length fs in
    let k = run_of last fs in
    let gs = reverse fs ++ rest in
    let us = take k fs in
    let ws = drop k fs in
    let whole : reverse fs ≡ reverse ws ++ reverse us = ap reverse (sym (take-append-drop k fs)) ∙ reverse-append us ws in
    let parts : gs ≡ reverse ws ++ (reverse us ++ rest) = ap (λ zs. zs ++ rest) whole ∙ append_assoc (reverse ws) (reverse us) rest in
    let front : slice_range gs 0 p ≡ reverse fs = ap (λ k. take k gs) (omega arith) ∙ take_at (reverse fs) rest p (length-reverse fs) in
    let run : run_before gs 0 p last ≡ k = ap (λ zs. run_of last (reverse zs)) front ∙ ap (run_of last) (reverse-reverse fs) in
    let long : length fs ≡ length us + length ws = ap length (sym (take-append-drop k fs)) ∙ length-append us ws in
    let many : length us ≡ k = run_long last fs in
    let start : p - run_before gs 0 p last ≡ length (reverse ws) = omega (arith, run, long, many, length-reverse ws) in
    let end : p ≡ length (reverse ws) + length (reverse us) = omega (arith, long, length-reverse ws, length-reverse us) in
    ap (λ i. on_span (map f) i p gs) start
    ∙ (ap (λ j. on_span (map f) (length (reverse ws)) j gs) end
    ∙ (ap (λ zs. on_span (map f) (length (reverse ws)) (length (reverse ws) + length (reverse us)) zs) parts
    ∙ (on_middle (reverse ws) (reverse us) rest (map f)
    ∙ (ap (λ zs. reverse ws ++ (zs ++ rest)) (map-reverse f us)
    ∙ (sym (append_assoc (reverse ws) (reverse (map f us)) rest)
    ∙ (ap (λ zs. zs ++ rest) (sym (reverse-append (map f us) ws))
    ∙ ap (λ zs. reverse zs ++ rest) (run_is f last fs)))))))
  where
    run_long : (e : ℕ) (gs : Glyphs) → length (take (run_of e gs) gs) ≡ run_of e gs
    run_long e [] = refl
    run_long e (g ∷ gs) =
        ap (λ k. length (take k (g ∷ gs))) (run_more e g gs)
        ∙ (by (run_long e gs) (g.cluster == e) ∙ sym (run_more e g gs))
      where
        by : length (take (run_of e gs) gs) ≡ run_of e gs → (t : Bool)
            → length (take (cond t (suc (run_of e gs)) 0) (g ∷ gs)) ≡ cond t (suc (run_of e gs)) 0
        by below true = ap suc below
        by below false = refl
