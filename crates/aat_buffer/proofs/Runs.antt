-- How far a cluster runs, step by step.
use Rattle.std.proofs.Common.{◌≡◌, ◌≢◌, ◌⊎◌, inl, inr, ◌≤◌, ◌-◌, ◌∙◌, ap, sym, refl, [], ◌∷◌, ℕ, zero, suc, ◌<◌, ◌+◌, List, drop, get_or, length, arith, reverse}
use Rattle.std.proofs.lemmas.Bool.{cases_eq}
use Rattle.std.proofs.lemmas.List.{drop_more, drop_all, reverse-append, get_or-drop, get_or-reverse}
use Rattle.std.proofs.lemmas.List.Sums.{take_while-cons}
use Rattle.std.proofs.lemmas.Bool.Decides.{nat_tests}
use Rattle.std.specs.Prelude.{slice_range}
use Rattle.aat_glyph.specs.declared.glyph.hb_glyph_info_t.{hb_glyph_info_t}
use Rattle.aat_buffer.specs.Buffer.{no_glyph, glyph_at}
use Rattle.aat_buffer.specs.Marks.{cluster_at, run_of, run_after, run_before}
use Rattle.aat_buffer.specs.facts.Lines.{length_slice, range_at}
use Rattle.aat_buffer.proofs.Spans.{range_more}

run_of_same : (c : ℕ) (g : hb_glyph_info_t) (gs : List hb_glyph_info_t) → g.cluster ≡ c → run_of c (g ∷ gs) ≡ run_of c gs + 1
run_of_same c g gs e = rw (take_while-cons) (grind (arith, nat_tests))

run_of_other : (c : ℕ) (g : hb_glyph_info_t) (gs : List hb_glyph_info_t) → g.cluster ≢ c → run_of c (g ∷ gs) ≡ 0
run_of_other c g gs e = rw (take_while-cons) (grind (arith, nat_tests))

pub run_after_more : (gs : List hb_glyph_info_t) (c i : ℕ) (x : hb_glyph_info_t) → i < length gs → x ≡ glyph_at gs i → x.cluster ≡ c → run_after gs i c ≡ run_after gs (i + 1) c + 1
run_after_more gs c i x lt read e = rw (drop_more gs i no_glyph lt, ← read) (run_of_same c x (drop (i + 1) gs) e)

pub run_after_other : (gs : List hb_glyph_info_t) (c i : ℕ) (x : hb_glyph_info_t) → i < length gs → x ≡ glyph_at gs i → x.cluster ≢ c → run_after gs i c ≡ 0
run_after_other gs c i x lt read e = rw (drop_more gs i no_glyph lt, ← read) (run_of_other c x (drop (i + 1) gs) e)

pub run_after_end : (gs : List hb_glyph_info_t) (c i : ℕ) → length gs ≤ i → run_after gs i c ≡ 0
run_after_end gs c i le = rw (drop_all i gs le) refl

back_range : (gs : List hb_glyph_info_t) (p i j k : ℕ) (x : hb_glyph_info_t) → p ≤ k → i ≤ length gs → i ≡ k + 1 → j ≡ k → x ≡ glyph_at gs j → reverse (slice_range gs p i) ≡ x ∷ reverse (slice_range gs p k)
back_range gs p i j k x le within e at read = rw (e, range_more gs p k no_glyph le (omega arith), reverse-append, ← at, ← read) refl

pub run_before_more : (gs : List hb_glyph_info_t) (c p i j k : ℕ) (x : hb_glyph_info_t) → p ≤ k → i ≤ length gs → i ≡ k + 1 → j ≡ k → x ≡ glyph_at gs j → x.cluster ≡ c → run_before gs p i c ≡ run_before gs p k c + 1
run_before_more gs c p i j k x le within e at read same = rw (back_range gs p i j k x le within e at read) (run_of_same c x _ same)

pub run_before_other : (gs : List hb_glyph_info_t) (c p i j : ℕ) (x : hb_glyph_info_t) → p ≤ j → i ≤ length gs → i ≡ j + 1 → x ≡ glyph_at gs j → x.cluster ≢ c → run_before gs p i c ≡ 0
run_before_other gs c p i j x le within e read other = rw (back_range gs p i j j x le within e refl read) (run_of_other c x _ other)

pub run_before_end : (gs : List hb_glyph_info_t) (c p i : ℕ) → i ≤ p → run_before gs p i c ≡ 0
run_before_end gs c p i le = let none : i - p ≡ 0 = omega arith in rw none refl

first_has : (c : ℕ) (g : hb_glyph_info_t) (gs : List hb_glyph_info_t) → (g.cluster ≡ c) ⊎ (g.cluster ≢ c) → 0 < run_of c (g ∷ gs) → g.cluster ≡ c
first_has c g gs (inl same) lt = same
first_has c g gs (inr other) lt = absurd (omega (arith, lt, run_of_other c g gs other))

next_has : (c : ℕ) (g : hb_glyph_info_t) (gs : List hb_glyph_info_t) (k : ℕ) → (g.cluster ≡ c) ⊎ (g.cluster ≢ c) → suc k < run_of c (g ∷ gs) → (k < run_of c gs → cluster_at gs k ≡ c) → cluster_at gs k ≡ c
next_has c g gs k (inl same) lt more = more (omega (arith, lt, run_of_same c g gs same))
next_has c g gs k (inr other) lt more = absurd (omega (arith, lt, run_of_other c g gs other))

-- the glyphs of a run have its cluster
run_has : (c : ℕ) (gs : List hb_glyph_info_t) (k : ℕ) → k < run_of c gs → cluster_at gs k ≡ c
run_has c [] k lt = absurd (omega arith)
run_has c (g ∷ gs) zero lt = first_has c g gs (cases_eq g.cluster c) lt
run_has c (g ∷ gs) (suc k) lt = next_has c g gs k (cases_eq g.cluster c) lt (λ low. run_has c gs k low)

pub run_after_has : (gs : List hb_glyph_info_t) (j c k : ℕ) → j ≤ k → k < j + run_after gs j c → cluster_at gs k ≡ c
run_after_has gs j c k from to =
    let at : j + (k - j) ≡ k = omega (arith, from) in
    ap (cluster_at gs) (sym at) ∙ (ap (λ (g : hb_glyph_info_t). g.cluster) (sym (get_or-drop j gs (k - j) no_glyph)) ∙ run_has c (drop j gs) (k - j) (omega (arith, from, to)))

pub run_before_has : (gs : List hb_glyph_info_t) (i c k : ℕ) → i ≤ length gs → i - run_before gs 0 i c ≤ k → k < i → cluster_at gs k ≡ c
run_before_has gs i c k within from to =
    let span = slice_range gs 0 i in
    let long : length span ≡ i - 0 = length_slice 0 i gs (omega arith) within in
    let n = i - 1 - k in
    let low : n < run_of c (reverse span) = omega (arith, from, to) in
    let place : length span - 1 - n ≡ k = omega (arith, long, to) in
    let none : 0 + k ≡ k = omega arith in
    let read : get_or (reverse span) n no_glyph ≡ get_or gs k no_glyph =
    get_or-reverse span n no_glyph (omega (arith, long, to)) ∙ (ap (λ (m : ℕ). get_or span m no_glyph) place ∙ (range_at gs 0 i k no_glyph (omega (arith, to)) ∙ ap (λ (m : ℕ). get_or gs m no_glyph) none)) in
    ap (λ (g : hb_glyph_info_t). g.cluster) (sym read) ∙ run_has c (reverse span) n low
