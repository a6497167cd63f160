-- The run that a lower cluster reaches, step by step.
use Rattle.std.proofs.Common.{◌≡◌, ◌≢◌, ◌∙◌, ◌⊎◌, inl, inr, sym, ap, refl, ℕ, zero, suc, ◌+◌, ◌-◌, ◌<◌, ◌≤◌, List, length, map, take, drop, arith, ◌++◌}
use Rattle.std.proofs.lemmas.List.{length-take-le, length-map, take-append-le, take-append-drop, get_or_append_left, get_or-append_right, get_or-take, get_or-drop, get_or-map}
use Rattle.std.proofs.lemmas.Bool.{cases_lt}
use Rattle.std.specs.Prelude.{slice_range}
use Rattle.aat_glyph.specs.declared.glyph.hb_glyph_info_t.{hb_glyph_info_t}
use Rattle.aat_buffer.specs.Buffer.{no_glyph, glyph_at}
use Rattle.aat_buffer.specs.Marks.{on_span, cluster_at, run_before}
use Rattle.aat_buffer.specs.Removal.{with_cluster_and_flags}
use Rattle.aat_buffer.specs.inside.Pending.{run_first, run_below, runs_written, AreRuns, IsReached, shown_line}
use Rattle.aat_buffer.proofs.Pending.{length_range, runs_length, runs_read, runs_below}
use Rattle.aat_buffer.proofs.Runs.{run_before_more, run_before_other}

take_of_take : {X : Type 0} (i j : ℕ) (xs : List X) → i ≤ j → j ≤ length xs → take i (take j xs) ≡ take i xs
take_of_take i j xs le within = sym (take-append-le i (take j xs) (drop j xs) (omega (arith, length-take-le j xs within))) ∙ ap (take i) (take-append-drop j xs)

pub read_front : (j q : ℕ) (xs : List hb_glyph_info_t) → j < q → q ≤ length xs → glyph_at xs j ≡ glyph_at (take q xs) j
read_front j q xs lt within = ap (λ t. glyph_at t j) (sym (take-append-drop q xs)) ∙ get_or_append_left (take q xs) (drop q xs) no_glyph j (omega (arith, lt, length-take-le q xs within))

-- what stands before a span
pub span_front : (f : hb_glyph_info_t → hb_glyph_info_t) (i j : ℕ) (xs : List hb_glyph_info_t) → i ≤ length xs → take i (on_span (map f) i j xs) ≡ take i xs
span_front f i j xs within = take-append-le i (take i xs) (map f (slice_range xs i j) ++ drop j xs) (omega (arith, length-take-le i xs within)) ∙ take_of_take i i xs (omega arith) within

span_read : (f : hb_glyph_info_t → hb_glyph_info_t) (i j k : ℕ) (xs : List hb_glyph_info_t) → i ≤ k → k < j → j ≤ length xs → glyph_at (on_span (map f) i j xs) k ≡ f (glyph_at xs k)
span_read f i j k xs le lt within =
    let n : length (slice_range xs i j) ≡ j - i = length_range i j xs within in
    let at : i + (k - i) ≡ k = omega (arith, le) in
    get_or-append_right (take i xs) (map f (slice_range xs i j) ++ drop j xs) i k no_glyph (length-take-le i xs (omega arith)) le
    ∙ get_or_append_left (map f (slice_range xs i j)) (drop j xs) no_glyph (k - i) (omega (arith, n, length-map (slice_range xs i j) f))
    ∙ get_or-map f (slice_range xs i j) (k - i) no_glyph no_glyph (omega (arith, n))
    ∙ ap f (get_or-take (j - i) (drop i xs) (k - i) no_glyph (omega (arith, le, lt)) ∙ get_or-drop i xs (k - i) no_glyph ∙ rw at refl)

pub shown_length : (gs : List hb_glyph_info_t) (k l p : ℕ) → AreRuns k l gs p → p ≤ length gs → length (shown_line k l gs) ≡ length gs
shown_length gs k l p are within = runs_length k l gs gs p are within

pub shown_read : (gs : List hb_glyph_info_t) (k l p j : ℕ) → AreRuns k l gs p → p ≤ length gs → p ≤ j + 1 → glyph_at (shown_line k l gs) j ≡ glyph_at gs j
shown_read gs k l p j are within le = runs_read k l gs gs p j are within le

pub reaches_none : (gs : List hb_glyph_info_t) (k l p c : ℕ) → AreRuns k l gs p → IsReached gs k l c p p k l
reaches_none gs k l p c are =
    record {
      before = refl;
      same = λ j from lt. omega (arith, from, lt);
      apart = are;
      within = omega arith;
    }

-- what stands before place i, which is no further than what was reached
reached_before : (gs : List hb_glyph_info_t) (k l c p q b m i : ℕ) → AreRuns k l gs p → p ≤ length gs → IsReached gs k l c p q b m → i ≤ q → take i (shown_line k l gs) ≡ take i (shown_line b m gs)
reached_before gs k l c p q b m i are within is le =
    let n : length (shown_line k l gs) ≡ length gs = shown_length gs k l p are within in
    let o : length (shown_line b m gs) ≡ length gs = shown_length gs b m q is.apart (omega (arith, within, is.within)) in
    sym (take_of_take i q (shown_line k l gs) le (omega (arith, n, within, is.within))) ∙ ap (take i) is.before ∙ take_of_take i q (shown_line b m gs) le (omega (arith, o, within, is.within))

reached_same : (gs : List hb_glyph_info_t) (k l c p q b m i : ℕ) → AreRuns k l gs p → p ≤ length gs → IsReached gs k l c p q b m → i < q → glyph_at (shown_line k l gs) i ≡ glyph_at (shown_line b m gs) i
reached_same gs k l c p q b m i are within is lt =
    let n : length (shown_line k l gs) ≡ length gs = shown_length gs k l p are within in
    let o : length (shown_line b m gs) ≡ length gs = shown_length gs b m q is.apart (omega (arith, within, is.within)) in
    read_front i q (shown_line k l gs) lt (omega (arith, n, within, is.within)) ∙ ap (λ t. glyph_at t i) is.before ∙ sym (read_front i q (shown_line b m gs) lt (omega (arith, o, within, is.within)))

-- the glyph before place q shows its label already
pub reached_read : (gs : List hb_glyph_info_t) (k l c p q b m j : ℕ) → AreRuns k l gs p → p ≤ length gs → IsReached gs k l c p q b m → j + 1 ≡ q → glyph_at (shown_line k l gs) j ≡ glyph_at gs j
reached_read gs k l c p q b m j are within is at =
    reached_same gs k l c p q b m j are within is (omega (arith, at))
    ∙ shown_read gs b m q j is.apart (omega (arith, within, is.within)) (omega (arith, at))

-- one glyph more, with which no run ends
pub reaches_glyph : (gs : List hb_glyph_info_t) (k l c p q b m j : ℕ) → AreRuns k l gs p → p ≤ length gs → IsReached gs k l c p q b m → j + 1 ≡ q → cluster_at gs j ≡ c → (0 < b → m ≢ j) → IsReached gs k l c p j b m
reaches_glyph gs k l c p q b m j are within is at has other =
    record {
      before = reached_before gs k l c p q b m j are within is (omega (arith, at));
      same = λ i from lt. reaches_glyph_at i from lt (cases_lt i q) (ap (λ g. g.cluster) (reached_read gs k l c p q b m j are within is at) ∙ has);
      apart = runs_below b m gs q j (sym at) other is.apart;
      within = omega (arith, at, is.within);
    }
  where
    reaches_glyph_at : (i : ℕ) → j ≤ i → i < p → (i < q) ⊎ (q ≤ i) → cluster_at (shown_line k l gs) j ≡ c → cluster_at (shown_line k l gs) i ≡ c
    reaches_glyph_at i from lt (inl low) here = let same : i ≡ j = omega (arith, at, from, low) in rw same here
    reaches_glyph_at i from lt (inr high) here = is.same i high lt

-- one run more
pub reaches_run : (gs : List hb_glyph_info_t) (k l c p q b m j : ℕ) → AreRuns k l gs p → p ≤ length gs → IsReached gs k l c p q b m → j + 1 ≡ q → cluster_at gs j ≡ c → 0 < b → m ≡ j → IsReached gs k l c p (run_first gs m) (b - 1) (run_below gs m)
unfolding AreRuns runs_written
reaches_run gs k l c p q zero m j are within is at has some last = absurd (omega (arith, some))
reaches_run gs k l c p q (suc b) m j are within is at has some last =
    let (ordered, (below, rest)) = is.apart in
    let f : ℕ = run_first gs m in
    let ys : List hb_glyph_info_t = runs_written b (run_below gs m) gs gs in
    let n : length ys ≡ length gs = runs_length b (run_below gs m) gs gs f rest (omega (arith, ordered, below, within, is.within)) in
    let h : hb_glyph_info_t = glyph_at ys m in
    let label : h.cluster ≡ c = ap (λ g. g.cluster) (runs_read b (run_below gs m) gs gs f m rest (omega (arith, ordered, below, within, is.within)) (omega (arith, ordered))) ∙ ap (cluster_at gs) last ∙ has in
    let less : suc b - 1 ≡ b = omega arith in
    rw less (record {
      before = reached_before gs k l c p q (suc b) m f are within is (omega (arith, ordered, below)) ∙ span_front (with_cluster_and_flags h) f m ys (omega (arith, n, ordered, below, within, is.within));
      same = λ i from lt. reaches_run_at i from lt label n (cases_lt i m) (cases_lt i q) (ap (λ g. g.cluster) (reached_read gs k l c p q (suc b) m j are within is at) ∙ has);
      apart = rest;
      within = omega (arith, ordered, below, is.within);
    })
  where
    reaches_run_at : (i : ℕ) → run_first gs m ≤ i → i < p → (glyph_at (runs_written b (run_below gs m) gs gs) m).cluster ≡ c → length (runs_written b (run_below gs m) gs gs) ≡ length gs → (i < m) ⊎ (m ≤ i) → (i < q) ⊎ (q ≤ i) → cluster_at (shown_line k l gs) j ≡ c → cluster_at (shown_line k l gs) i ≡ c
    reaches_run_at i from lt label n (inl low) (inl under) here =
        let ys : List hb_glyph_info_t = runs_written b (run_below gs m) gs gs in
        ap (λ g. g.cluster) (reached_same gs k l c p q (suc b) m i are within is under ∙ span_read (with_cluster_and_flags (glyph_at ys m)) (run_first gs m) m i ys from low (omega (arith, n, at, last, within, is.within))) ∙ label
    reaches_run_at i from lt label n (inl low) (inr over) here = omega (arith, low, over, at, last)
    reaches_run_at i from lt label n (inr high) (inl under) here = let eq : i ≡ j = omega (arith, high, under, at, last) in rw eq here
    reaches_run_at i from lt label n (inr high) (inr over) here = is.same i over lt

-- the reach ends where a glyph has another cluster
pub reaches_end : (gs : List hb_glyph_info_t) (k l c p q b m j : ℕ) → AreRuns k l gs p → p ≤ length gs → IsReached gs k l c p q b m → j + 1 ≡ q → cluster_at gs j ≢ c → run_before (shown_line k l gs) 0 q c ≡ 0
reaches_end gs k l c p q b m j are within is at other =
    let n : length (shown_line k l gs) ≡ length gs = shown_length gs k l p are within in
    let own : cluster_at (shown_line k l gs) j ≡ cluster_at gs j = ap (λ g. g.cluster) (reached_read gs k l c p q b m j are within is at) in
    run_before_other (shown_line k l gs) c 0 q j (glyph_at (shown_line k l gs) j) (omega arith) (omega (arith, n, within, is.within)) (omega (arith, at)) refl (λ e. other (sym own ∙ e))

-- the last glyph itself is reached
pub reaches_some : (gs : List hb_glyph_info_t) (k l p q b m j : ℕ) → AreRuns k l gs p → p ≤ length gs → IsReached gs k l (cluster_at gs j) p q b m → run_before (shown_line k l gs) 0 q (cluster_at gs j) ≡ 0 → j + 1 ≡ p → q ≤ j
reaches_some gs k l p q b m j are within is none at = reaches_some_by (cases_lt q p)
  where
    reaches_some_by : (q < p) ⊎ (p ≤ q) → q ≤ j
    reaches_some_by (inl lt) = omega (arith, lt, at)
    reaches_some_by (inr ge) =
        let ks : List hb_glyph_info_t = shown_line k l gs in
        let c : ℕ = cluster_at gs j in
        let n : length ks ≡ length gs = shown_length gs k l p are within in
        let own : glyph_at ks j ≡ glyph_at gs j = shown_read gs k l p j are within (omega (arith, at)) in
        let more : run_before ks 0 p c ≡ run_before ks 0 j c + 1 = run_before_more ks c 0 p j j (glyph_at ks j) (omega arith) (omega (arith, n, within)) (omega (arith, at)) refl refl (ap (λ g. g.cluster) own) in
        let same : q ≡ p = omega (arith, ge, is.within) in
        let zero_here : run_before ks 0 p c ≡ 0 = ap (λ i. run_before ks 0 i c) (sym same) ∙ none in
        omega (arith, more, zero_here)
