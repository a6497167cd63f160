-- A span of a line that is written glyph by glyph.
use Rattle.std.proofs.Common.{◌≡◌, ◌≤◌, ◌-◌, refl, sym, [], ◌∷◌, ◌∙◌, ap, ℕ, ◌<◌, ◌+◌, List, ◌++◌, drop, length, get_or, arith, min, fold}
use Rattle.std.proofs.lemmas.List.{take_more, length-drop, get_or-take, get_or-drop}
use Rattle.std.specs.Prelude.{slice_range}
use Rattle.aat_glyph.specs.declared.glyph.hb_glyph_info_t.{hb_glyph_info_t}
use Rattle.aat_buffer.specs.Buffer.{no_glyph, glyph_at}
use Rattle.aat_buffer.specs.Marks.{cluster_at, least_of}

-- a span with one glyph more
pub range_more : {X : Type 0} (xs : List X) (s i : ℕ) (d : X) → s ≤ i → i < length xs → slice_range xs s (i + 1) ≡ slice_range xs s i ++ get_or xs i d ∷ []
range_more xs s i d le lt =
    let n : length (drop s xs) ≡ length xs - s = length-drop s xs in
    let more : i + 1 - s ≡ (i - s) + 1 = omega arith in
    let at : s + (i - s) ≡ i = omega arith in
    rw more (take_more (drop s xs) (i - s) d (omega arith) ∙ rw (get_or-drop s xs (i - s) d, at) refl)

-- a span begins with the glyph at its first place
first_of_span : (gs : List hb_glyph_info_t) (s i : ℕ) → s < i → cluster_at (slice_range gs s i) 0 ≡ cluster_at gs s
first_of_span gs s i some =
    let at : s + 0 ≡ s = omega arith in
    ap (λ (g : hb_glyph_info_t). g.cluster) (get_or-take (i - s) (drop s gs) 0 no_glyph (omega (arith, some)) ∙ get_or-drop s gs 0 no_glyph) ∙ ap (cluster_at gs) at

-- the least of a span from its first glyph on
least_from : (gs : List hb_glyph_info_t) (s i : ℕ) → s < i → least_of (slice_range gs s i) ≡ fold (λ m g. min m g.cluster) (cluster_at gs s) (slice_range gs s i)
least_from gs s i some = ap (λ c. fold (λ (m : ℕ) (g : hb_glyph_info_t). min m g.cluster) c (slice_range gs s i)) (first_of_span gs s i some)

-- the least of a span, from its first glyph on
pub least_of_span : (gs : List hb_glyph_info_t) (s e m : ℕ) (x : hb_glyph_info_t) → s < e → x ≡ glyph_at gs s → m ≡ fold (λ m g. min m g.cluster) x.cluster (slice_range gs s e) → m ≡ least_of (slice_range gs s e)
least_of_span gs s e m x some read is =
    is ∙ rw read refl ∙ sym (least_from gs s e some)
