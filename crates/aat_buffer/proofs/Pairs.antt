-- A span of two glyphs that gets the break marks: at most one of them is written.
use Rattle.std.proofs.Common.{◌≡◌, ◌∙◌, ap, sym, refl, ℕ, ◌<◌, ◌≤◌, ◌+◌, ◌-◌, ◌==◌, List, [], ◌∷◌, ◌++◌, take, drop, length, get_or, set, min, arith, append_assoc}
use Rattle.std.proofs.lemmas.Bool.Decides.{nat_tests}
use Rattle.std.proofs.lemmas.List.{take_more, drop_more, set_at, length-take-le, take-append-drop}
use Rattle.std.specs.Prelude.{slice_range}
use Rattle.aat_glyph.specs.declared.glyph.hb_glyph_info_t.{hb_glyph_info_t}
use Rattle.aat_buffer.specs.Buffer.{no_glyph, glyph_at}
use Rattle.aat_buffer.specs.Marks.{on_span, break_marked, cluster_at, marked_above, with_mask_bits}
use Rattle.aat_buffer.specs.facts.Cases.{chosen}

-- a list from place s on, where it has two elements or more
rest_of_two : {X : Type 0} (gs : List X) (s : ℕ) (d : X) → s + 2 ≤ length gs → drop s gs ≡ get_or gs s d ∷ get_or gs (s + 1) d ∷ drop (s + 2) gs
rest_of_two gs s d within =
    let next : s + 1 + 1 ≡ s + 2 = omega arith in
    drop_more gs s d (omega (arith, within)) ∙ ap (λ t. get_or gs s d ∷ t) (drop_more gs (s + 1) d (omega (arith, within)) ∙ ap (λ n. get_or gs (s + 1) d ∷ drop n gs) next)

-- a span of two
span_of_two : {X : Type 0} (gs : List X) (s : ℕ) (d : X) → s + 2 ≤ length gs → slice_range gs s (s + 2) ≡ get_or gs s d ∷ get_or gs (s + 1) d ∷ []
span_of_two gs s d within =
    let two : s + 2 - s ≡ 2 = omega arith in
    ap (λ n. take n (drop s gs)) two ∙ ap (take 2) (rest_of_two gs s d within)

-- the first of the two is written
set_first : {X : Type 0} (gs : List X) (s : ℕ) (d x : X) → s + 2 ≤ length gs → set gs s x ≡ take s gs ++ (x ∷ get_or gs (s + 1) d ∷ drop (s + 2) gs)
set_first gs s d x within =
    ap (λ t. set t s x) (sym (take-append-drop s gs) ∙ ap (λ t. take s gs ++ t) (rest_of_two gs s d within))
    ∙ set_at (take s gs) (get_or gs s d) (get_or gs (s + 1) d ∷ drop (s + 2) gs) x s (length-take-le s gs (omega (arith, within)))

-- the second is
set_second : {X : Type 0} (gs : List X) (s : ℕ) (d x : X) → s + 2 ≤ length gs → set gs (s + 1) x ≡ take s gs ++ (get_or gs s d ∷ x ∷ drop (s + 2) gs)
set_second gs s d x within =
    let next : s + 1 + 1 ≡ s + 2 = omega arith in
    ap (λ t. set t (s + 1) x) (sym (take-append-drop (s + 1) gs) ∙ ap (λ t. take (s + 1) gs ++ t) (drop_more gs (s + 1) d (omega (arith, within)) ∙ ap (λ n. get_or gs (s + 1) d ∷ drop n gs) next))
    ∙ (set_at (take (s + 1) gs) (get_or gs (s + 1) d) (drop (s + 2) gs) x (s + 1) (length-take-le (s + 1) gs (omega (arith, within)))
    ∙ (ap (λ t. t ++ (x ∷ drop (s + 2) gs)) (take_more gs s d (omega (arith, within))) ∙ append_assoc (take s gs) (get_or gs s d ∷ []) (x ∷ drop (s + 2) gs)))

-- a glyph of the least cluster stays
stays : (m : ℕ) (g : hb_glyph_info_t) → g.cluster ≡ m → marked_above m 3 g ≡ g
stays m g same =
    chosen (λ (x : hb_glyph_info_t). x ≡ g) (g.cluster == m) g (with_mask_bits 3 g) (λ _. refl) (λ other. absurd (grind (arith, nat_tests, other, same)))

-- a glyph above it is marked
marks : (m : ℕ) (g : hb_glyph_info_t) → m < g.cluster → marked_above m 3 g ≡ with_mask_bits 3 g
marks m g above =
    chosen (λ (x : hb_glyph_info_t). x ≡ with_mask_bits 3 g) (g.cluster == m) g (with_mask_bits 3 g) (λ same. absurd (grind (arith, nat_tests, same, above))) (λ _. refl)

-- what the marks leave of two glyphs, by their marks alone
pair_span : (gs : List hb_glyph_info_t) (s : ℕ) (x y : hb_glyph_info_t) → s + 2 ≤ length gs
    → marked_above (min (min (cluster_at gs s) (cluster_at gs s)) (cluster_at gs (s + 1))) 3 (glyph_at gs s) ≡ x
    → marked_above (min (min (cluster_at gs s) (cluster_at gs s)) (cluster_at gs (s + 1))) 3 (glyph_at gs (s + 1)) ≡ y
    → on_span break_marked s (s + 2) gs ≡ take s gs ++ (x ∷ y ∷ drop (s + 2) gs)
pair_span gs s x y within is_x is_y =
    let m : ℕ = min (min (cluster_at gs s) (cluster_at gs s)) (cluster_at gs (s + 1)) in
    ap (λ t. take s gs ++ (break_marked t ++ drop (s + 2) gs)) (span_of_two gs s no_glyph within)
    ∙ (ap (λ t. take s gs ++ (t ∷ marked_above m 3 (glyph_at gs (s + 1)) ∷ drop (s + 2) gs)) is_x ∙ ap (λ t. take s gs ++ (x ∷ t ∷ drop (s + 2) gs)) is_y)

-- two glyphs of one cluster stay
pub same_stay : (gs : List hb_glyph_info_t) (s : ℕ) → s + 2 ≤ length gs → cluster_at gs s ≡ cluster_at gs (s + 1) → gs ≡ on_span break_marked s (s + 2) gs
same_stay gs s within same =
    sym (take-append-drop s gs) ∙ (ap (λ t. take s gs ++ t) (rest_of_two gs s no_glyph within)
    ∙ sym (pair_span gs s (glyph_at gs s) (glyph_at gs (s + 1)) within (stays _ (glyph_at gs s) (omega (arith, same))) (stays _ (glyph_at gs (s + 1)) (omega (arith, same)))))

-- the first one has the greater cluster
pub first_marked : (gs : List hb_glyph_info_t) (s : ℕ) → s + 2 ≤ length gs → cluster_at gs (s + 1) < cluster_at gs s → set gs s (with_mask_bits 3 (glyph_at gs s)) ≡ on_span break_marked s (s + 2) gs
first_marked gs s within above =
    set_first gs s no_glyph (with_mask_bits 3 (glyph_at gs s)) within
    ∙ sym (pair_span gs s (with_mask_bits 3 (glyph_at gs s)) (glyph_at gs (s + 1)) within (marks _ (glyph_at gs s) (omega (arith, above))) (stays _ (glyph_at gs (s + 1)) (omega (arith, above))))

-- the second one has
pub second_marked : (gs : List hb_glyph_info_t) (s : ℕ) → s + 2 ≤ length gs → cluster_at gs s < cluster_at gs (s + 1) → set gs (s + 1) (with_mask_bits 3 (glyph_at gs (s + 1))) ≡ on_span break_marked s (s + 2) gs
second_marked gs s within above =
    set_second gs s no_glyph (with_mask_bits 3 (glyph_at gs (s + 1))) within
    ∙ sym (pair_span gs s (glyph_at gs s) (with_mask_bits 3 (glyph_at gs (s + 1))) within (stays _ (glyph_at gs s) (omega (arith, above))) (marks _ (glyph_at gs (s + 1)) (omega (arith, above))))
