-- What a lower cluster does to the kept glyphs, once the runs are written.
use Rattle.std.proofs.Common.{◌≡◌, ◌≢◌, ◌∙◌, sym, ap, subst, refl, ℕ, zero, suc, ◌+◌, ◌-◌, ◌<◌, ◌≤◌, List, [], ◌∷◌, ◌++◌, length, map, take, drop, set, arith}
use Rattle.std.proofs.lemmas.List.{length-take-le, get_or_append_left, take-append-le, take-append-drop, append_assoc, map-append, drop_more, take-map, drop-map, length-set, get_or-set_same, get_or-set_other, drop-set, drop-set-lt, take-set-le}
use Rattle.std.proofs.lemmas.List.Edits.{remove-append_right}
use Rattle.std.proofs.Math.Seq.{take-append_seam, map-set_same}
use Rattle.std.specs.Prelude.{slice_range, remove, reverse, take_while, ◌==◌}
use Rattle.aat_glyph.specs.declared.glyph.hb_glyph_info_t.{hb_glyph_info_t}
use Rattle.aat_buffer.specs.Buffer.{no_glyph, glyph_at}
use Rattle.aat_buffer.specs.Marks.{on_span, cluster_at, run_before}
use Rattle.aat_buffer.specs.Removal.{with_cluster_and_flags, lowered_run}
use Rattle.aat_buffer.specs.inside.Pending.{run_written, runs_written, run_first, AreRuns, shown_line, IsReached, with_place}
use Rattle.aat_buffer.proofs.Spans.{range_more}
use Rattle.aat_buffer.proofs.Runs.{run_before_more}
use Rattle.aat_buffer.proofs.Pending.{bare, bare_labelled, span_append, span_length, labelled_labelled, map_same, relabelled, length_range, in_parts, run_parts, run_length, runs_mono, runs_append, runs_length, runs_bare, runs_drop, runs_alike, runs_commute, written_alike, Alike}
use Rattle.aat_buffer.proofs.Reaching.{shown_length, span_front, read_front}

-- How far the cluster runs back

run_back : (gs : List hb_glyph_info_t) (c q n : ℕ) → q + n ≤ length gs → ((j : ℕ) → q ≤ j → j < q + n → cluster_at gs j ≡ c) → run_before gs 0 (q + n) c ≡ n + run_before gs 0 q c
run_back gs c q zero within same = let none : q + 0 ≡ q = omega arith in let e : run_before gs 0 (q + 0) c ≡ run_before gs 0 q c = ap (λ n. run_before gs 0 n c) none in omega (arith, e)
run_back gs c q (suc n) within same =
    run_before_more gs c 0 (q + suc n) (q + n) (q + n) (glyph_at gs (q + n)) (omega arith) within (omega arith) refl refl (same (q + n) (omega arith) (omega arith))
    ∙ (let inner : run_before gs 0 (q + n) c ≡ n + run_before gs 0 q c = run_back gs c q n (omega (arith, within)) (λ j le lt. same j le (omega (arith, lt))) in omega (arith, inner))

-- the run ends where a glyph before it has another cluster
run_reached : (gs : List hb_glyph_info_t) (k l c p q b m : ℕ) → AreRuns k l gs p → p ≤ length gs → IsReached gs k l c p q b m → run_before (shown_line k l gs) 0 q c ≡ 0 → run_before (shown_line k l gs) 0 p c ≡ p - q
run_reached gs k l c p q b m are within is none =
    let n : length (shown_line k l gs) ≡ length gs = shown_length gs k l p are within in
    let sum : q + (p - q) ≡ p = omega (arith, is.within) in
    let runs : run_before (shown_line k l gs) 0 (q + (p - q)) c ≡ (p - q) + run_before (shown_line k l gs) 0 q c = run_back (shown_line k l gs) c q (p - q) (omega (arith, sum, within, n)) (λ j le lt. is.same j le (omega (arith, lt, sum))) in
    ap (λ i. run_before (shown_line k l gs) 0 i c) (sym sum) ∙ runs ∙ omega (arith, none)

run_from : (ks : List hb_glyph_info_t) (p q c : ℕ) (g : hb_glyph_info_t) → q ≤ p → run_before ks 0 p c ≡ p - q → on_span (map (with_cluster_and_flags g)) q p ks ≡ lowered_run ks p c g
unfolding lowered_run
run_from ks p q c g le run = let from : q ≡ p - run_before ks 0 p c = omega (arith, run, le) in ap (λ i. on_span (map (with_cluster_and_flags g)) i p ks) from

-- The kept glyphs get the lower cluster

range_bare : (xs ys : List hb_glyph_info_t) (i j : ℕ) → map bare xs ≡ map bare ys → map bare (slice_range xs i j) ≡ map bare (slice_range ys i j)
range_bare xs ys i j same =
    let of : (zs : List hb_glyph_info_t) → map bare (slice_range zs i j) ≡ slice_range (map bare zs) i j = λ zs. sym (ap (take (j - i)) (drop-map bare i zs) ∙ take-map bare (j - i) (drop i zs)) in
    of xs ∙ ap (λ zs. slice_range zs i j) same ∙ sym (of ys)

take_parts : {X : Type 0} (t : ℕ) (xs ys : List X) → length xs ≡ t → take t (xs ++ ys) ≡ xs
take_parts t xs ys n = ap (λ k. take k (xs ++ ys)) (sym n) ∙ take-append_seam xs ys

-- a line zs like gs, in which the last kept glyph has its label
lowered : (gs zs : List hb_glyph_info_t) (k l c p q b m j : ℕ) (g : hb_glyph_info_t) → p ≤ length gs → j + 1 ≡ p → q ≤ j → AreRuns k l gs p → IsReached gs k l c p q b m → length zs ≡ length gs → take q zs ≡ take q gs → map bare zs ≡ map bare gs → drop j zs ≡ with_cluster_and_flags g (glyph_at gs j) ∷ drop p gs
    → run_written q j (runs_written b m gs zs) ≡ on_span (map (with_cluster_and_flags g)) q p (shown_line k l gs)
lowered gs zs k l c p q b m j g within at le are is long front like back =
    let x : hb_glyph_info_t = glyph_at gs j in
    let y : hb_glyph_info_t = with_cluster_and_flags g x in
    let ks : List hb_glyph_info_t = shown_line k l gs in
    let fs : List hb_glyph_info_t = take q gs in
    let ms : List hb_glyph_info_t = slice_range zs q j in
    let ns : List hb_glyph_info_t = slice_range gs q j in
    let es : List hb_glyph_info_t = drop p gs in
    let fn : length fs ≡ q = length-take-le q gs (omega (arith, le, at, within)) in
    let mn : q + length ms ≡ j = omega (arith, length_range q j zs (omega (arith, long, at, within)), le) in
    let kn : length ks ≡ length gs = shown_length gs k l p are within in
    let hn : length (take q ks) ≡ q = length-take-le q ks (omega (arith, kn, le, at, within)) in
    let rn : length (runs_written b m gs fs) ≡ q = runs_length b m gs fs q is.apart (omega (arith, fn)) ∙ fn in
    let parts : zs ≡ fs ++ (ms ++ y ∷ es) = in_parts zs q j le ∙ ap (λ t. t ++ (ms ++ drop j zs)) front ∙ ap (λ t. fs ++ (ms ++ t)) back in
    let head : runs_written b m gs fs ≡ take q ks = sym (is.before ∙ ap (λ t. take q (runs_written b m gs t)) (sym (take-append-drop q gs)) ∙ ap (take q) (runs_append b m gs fs (drop q gs) q is.apart (omega (arith, fn))) ∙ take_parts q (runs_written b m gs fs) (drop q gs) rn) in
    let left : run_written q j (runs_written b m gs zs) ≡ take q ks ++ (map (with_cluster_and_flags g) ms ++ y ∷ es) =
    ap (λ t. run_written q j (runs_written b m gs t)) parts
    ∙ ap (run_written q j) (runs_append b m gs fs (ms ++ y ∷ es) q is.apart (omega (arith, fn)))
    ∙ ap (λ t. run_written q j (t ++ (ms ++ y ∷ es))) head
    ∙ run_parts (take q ks) ms (y ∷ es) q j hn mn
    ∙ ap (λ t. take q ks ++ (t ++ y ∷ es)) (map_same (with_cluster_and_flags y) (with_cluster_and_flags g) (labelled_labelled g x) ms) in
    let range : slice_range gs q p ≡ ns ++ x ∷ [] = ap (slice_range gs q) (sym at) ∙ range_more gs q j no_glyph le (omega (arith, at, within)) in
    let label : map (with_cluster_and_flags g) (slice_range ks q p) ≡ map (with_cluster_and_flags g) ms ++ y ∷ [] =
    relabelled g (slice_range ks q p) (slice_range gs q p) (range_bare ks gs q p (runs_bare k l gs gs p are))
    ∙ ap (map (with_cluster_and_flags g)) range
    ∙ map-append (with_cluster_and_flags g) ns (x ∷ [])
    ∙ ap (λ t. t ++ y ∷ []) (relabelled g ns ms (sym (range_bare zs gs q j like))) in
    left
    ∙ ap (λ t. take q ks ++ t) (sym (ap (λ t. t ++ drop p ks) label ∙ ap (λ t. (map (with_cluster_and_flags g) ms ++ y ∷ []) ++ t) (runs_drop k l gs gs p p are within (omega arith)) ∙ append_assoc (map (with_cluster_and_flags g) ms) (y ∷ []) es))

pub alike_front : (gs zs : List hb_glyph_info_t) (q : ℕ) → q ≤ length gs → length zs ≡ length gs → take q zs ≡ take q gs → Alike gs zs q
alike_front gs zs q within long front = λ i lt. ap (λ g. g.cluster) (read_front i q gs lt within ∙ ap (λ t. glyph_at t i) (sym front) ∙ sym (read_front i q zs lt (omega (arith, within, long))))

-- the run is written at once
pub lowered_written : (gs : List hb_glyph_info_t) (k l p q b m j : ℕ) (g : hb_glyph_info_t) → p ≤ length gs → j + 1 ≡ p → q ≤ j → AreRuns k l gs p → IsReached gs k l (cluster_at gs j) p q b m → run_before (shown_line k l gs) 0 q (cluster_at gs j) ≡ 0
    → (shown_line b m (run_written q j (set gs j (with_cluster_and_flags g (glyph_at gs j)))) ≡ lowered_run (shown_line k l gs) p (cluster_at gs j) g)
    × AreRuns b m (run_written q j (set gs j (with_cluster_and_flags g (glyph_at gs j)))) p
lowered_written gs k l p q b m j g within at le are is none =
    let c : ℕ = cluster_at gs j in
    let y : hb_glyph_info_t = with_cluster_and_flags g (glyph_at gs j) in
    let zs : List hb_glyph_info_t = set gs j y in
    let ws : List hb_glyph_info_t = run_written q j zs in
    let long : length zs ≡ length gs = length-set gs j y in
    let wide : length ws ≡ length gs = run_length q j zs le (omega (arith, long, at, within)) ∙ long in
    let front : take q zs ≡ take q gs = take-set-le q gs j y le in
    let like : map bare zs ≡ map bare gs = map-set_same bare gs j y no_glyph (bare_labelled g (glyph_at gs j)) in
    let back : drop j zs ≡ y ∷ drop p gs = drop-set gs j y (omega (arith, at, within)) ∙ ap (λ i. y ∷ drop i gs) at in
    let alike : Alike gs ws q = alike_front gs ws q (omega (arith, le, at, within)) wide (span_front (with_cluster_and_flags (glyph_at zs j)) q j zs (omega (arith, long, le, at, within)) ∙ front) in (
      sym (written_alike b m gs ws ws q alike is.apart)
          ∙ sym (runs_commute b m gs zs q j is.apart le (omega (arith, long, at, within)))
          ∙ lowered gs zs k l c p q b m j g within at le are is long front like back
          ∙ run_from (shown_line k l gs) p q c g is.within (run_reached gs k l c p q b m are within is none),
      runs_mono b m ws q p is.within (runs_alike b m gs ws q alike is.apart),
    )

-- the run is pending
pub lowered_pending : (gs : List hb_glyph_info_t) (k l p q b m j : ℕ) (g : hb_glyph_info_t) → p ≤ length gs → j + 1 ≡ p → q + 2 ≤ j → AreRuns k l gs p → IsReached gs k l (cluster_at gs j) p q b m → run_before (shown_line k l gs) 0 q (cluster_at gs j) ≡ 0
    → (shown_line (suc b) j (with_place (with_place (set gs j (with_cluster_and_flags g (glyph_at gs j))) (j - 1) q) q m) ≡ lowered_run (shown_line k l gs) p (cluster_at gs j) g)
    × AreRuns (suc b) j (with_place (with_place (set gs j (with_cluster_and_flags g (glyph_at gs j))) (j - 1) q) q m) p
unfolding AreRuns runs_written
lowered_pending gs k l p q b m j g within at long_run are is none =
    let c : ℕ = cluster_at gs j in
    let y : hb_glyph_info_t = with_cluster_and_flags g (glyph_at gs j) in
    let xs : List hb_glyph_info_t = set gs j y in
    let ys : List hb_glyph_info_t = with_place xs (j - 1) q in
    let zs : List hb_glyph_info_t = with_place ys q m in
    let le : q ≤ j = omega (arith, long_run) in
    let xn : length xs ≡ length gs = length-set gs j y in
    let yn : length ys ≡ length gs = length-set xs (j - 1) (record (glyph_at xs (j - 1)) { cluster = q }) ∙ xn in
    let long : length zs ≡ length gs = length-set ys q (record (glyph_at ys q) { cluster = m }) ∙ yn in
    let front : take q zs ≡ take q gs = take-set-le q ys q (record (glyph_at ys q) { cluster = m }) (omega arith) ∙ take-set-le q xs (j - 1) (record (glyph_at xs (j - 1)) { cluster = q }) (omega (arith, long_run)) ∙ take-set-le q gs j y le in
    let like : map bare zs ≡ map bare gs = map-set_same bare ys q (record (glyph_at ys q) { cluster = m }) no_glyph refl ∙ map-set_same bare xs (j - 1) (record (glyph_at xs (j - 1)) { cluster = q }) no_glyph refl ∙ map-set_same bare gs j y no_glyph (bare_labelled g (glyph_at gs j)) in
    let back : drop j zs ≡ y ∷ drop p gs = drop-set-lt j ys q (record (glyph_at ys q) { cluster = m }) (omega (arith, long_run)) ∙ drop-set-lt j xs (j - 1) (record (glyph_at xs (j - 1)) { cluster = q }) (omega (arith, long_run)) ∙ drop-set gs j y (omega (arith, at, within)) ∙ ap (λ i. y ∷ drop i gs) at in
    let other : j - 1 ≢ q = λ e. omega (arith, e, long_run) in
    let first : run_first zs j ≡ q = ap (λ h. h.cluster) (get_or-set_other ys q (j - 1) (record (glyph_at ys q) { cluster = m }) no_glyph other ∙ get_or-set_same xs (j - 1) (record (glyph_at xs (j - 1)) { cluster = q }) no_glyph (omega (arith, xn, at, within))) in
    let next : cluster_at zs q ≡ m = ap (λ h. h.cluster) (get_or-set_same ys q (record (glyph_at ys q) { cluster = m }) no_glyph (omega (arith, yn, le, at, within))) in
    let alike : Alike gs zs q = alike_front gs zs q (omega (arith, le, at, within)) long front in (
      ap (λ i. run_written i j (runs_written b (cluster_at zs i) zs zs)) first
          ∙ ap (λ n. run_written q j (runs_written b n zs zs)) next
          ∙ ap (run_written q j) (sym (written_alike b m gs zs zs q alike is.apart))
          ∙ lowered gs zs k l c p q b m j g within at le are is long front like back
          ∙ run_from (shown_line k l gs) p q c g is.within (run_reached gs k l c p q b m are within is none),
      subst (λ i. (i + 2 ≤ j) × ((j < p) × AreRuns b (cluster_at zs i) zs i)) (sym first) (long_run, (omega (arith, at), subst (λ n. AreRuns b n zs q) (sym next) (runs_alike b m gs zs q alike is.apart))),
    )

-- The glyph at the cursor goes

lowered_front : (ks ss : List hb_glyph_info_t) (p c : ℕ) (g : hb_glyph_info_t) → length ks ≡ p → lowered_run (ks ++ ss) p c g ≡ lowered_run ks p c g ++ ss
unfolding lowered_run
lowered_front ks ss p c g n =
    let front : run_before (ks ++ ss) 0 p c ≡ run_before ks 0 p c = ap (λ xs. length (take_while (λ h. h.cluster == c) (reverse xs))) (take-append-le (p - 0) ks ss (omega (arith, n))) in
    ap (λ m. on_span (map (with_cluster_and_flags g)) (p - m) p (ks ++ ss)) front
    ∙ span_append (with_cluster_and_flags g) (p - run_before ks 0 p c) p ks ss (omega arith) (omega (arith, n))

lowered_length : (ks : List hb_glyph_info_t) (p c : ℕ) (g : hb_glyph_info_t) → length ks ≡ p → length (lowered_run ks p c g) ≡ p
unfolding lowered_run
lowered_length ks p c g n = span_length (with_cluster_and_flags g) (p - run_before ks 0 p c) p ks (omega arith) (omega (arith, n)) ∙ n

remove_parts : (xs ys : List hb_glyph_info_t) (g : hb_glyph_info_t) (p : ℕ) → length xs ≡ p → remove (xs ++ g ∷ ys) p ≡ xs ++ ys
remove_parts xs ys g p n = let same : p - p ≡ 0 = omega arith in remove-append_right xs (g ∷ ys) p p n (omega arith) ∙ rw same refl

-- a line, and the glyph at place p in it
parts_at : (gs : List hb_glyph_info_t) (p : ℕ) → p < length gs → gs ≡ take p gs ++ glyph_at gs p ∷ drop (p + 1) gs
parts_at gs p lt = sym (take-append-drop p gs) ∙ ap (λ t. take p gs ++ t) (drop_more gs p no_glyph lt)

pub removed_parts : (gs : List hb_glyph_info_t) (p : ℕ) → p < length gs → remove gs p ≡ take p gs ++ drop (p + 1) gs
removed_parts gs p lt = ap (λ t. remove t p) (parts_at gs p lt) ∙ remove_parts (take p gs) (drop (p + 1) gs) (glyph_at gs p) p (length-take-le p gs (omega (arith, lt)))

-- what stands behind the kept glyphs does not matter to the run that is lowered
pub lowered_without : (gs : List hb_glyph_info_t) (p c : ℕ) (g : hb_glyph_info_t) → p < length gs → lowered_run (remove gs p) p c g ≡ remove (lowered_run gs p c g) p
lowered_without gs p c g lt =
    let ks : List hb_glyph_info_t = take p gs in
    let rest : List hb_glyph_info_t = drop (p + 1) gs in
    let n : length ks ≡ p = length-take-le p gs (omega (arith, lt)) in
    ap (λ t. lowered_run t p c g) (removed_parts gs p lt)
    ∙ lowered_front ks rest p c g n
    ∙ sym (ap (λ t. remove (lowered_run t p c g) p) (parts_at gs p lt)
    ∙ ap (λ t. remove t p) (lowered_front ks (glyph_at gs p ∷ rest) p c g n)
    ∙ remove_parts (lowered_run ks p c g) rest (glyph_at gs p) p (lowered_length ks p c g n))

pub alike_without : (gs : List hb_glyph_info_t) (p : ℕ) → p < length gs → Alike gs (remove gs p) p
alike_without gs p lt = λ i low.
    let n : length (take p gs) ≡ p = length-take-le p gs (omega (arith, lt)) in
    ap (λ g. g.cluster) (read_front i p gs low (omega (arith, lt)) ∙ sym (ap (λ t. glyph_at t i) (removed_parts gs p lt) ∙ read_of i low n))
  where
    read_of : (i : ℕ) → i < p → length (take p gs) ≡ p → glyph_at (take p gs ++ drop (p + 1) gs) i ≡ glyph_at (take p gs) i
    read_of i low n = get_or_append_left (take p gs) (drop (p + 1) gs) no_glyph i (omega (arith, n, low))

-- the glyph is gone from the line that is shown
pub shown_without : (gs : List hb_glyph_info_t) (k l p : ℕ) → p < length gs → AreRuns k l gs p → shown_line k l (remove gs p) ≡ remove (shown_line k l gs) p
shown_without gs k l p lt are =
    let ks : List hb_glyph_info_t = take p gs in
    let rest : List hb_glyph_info_t = drop (p + 1) gs in
    let n : length ks ≡ p = length-take-le p gs (omega (arith, lt)) in
    let kn : length (runs_written k l gs ks) ≡ p = runs_length k l gs ks p are (omega (arith, n)) ∙ n in
    sym (written_alike k l gs (remove gs p) (remove gs p) p (alike_without gs p lt) are)
    ∙ ap (runs_written k l gs) (removed_parts gs p lt)
    ∙ runs_append k l gs ks rest p are (omega (arith, n))
    ∙ sym (ap (λ t. remove (runs_written k l gs t) p) (parts_at gs p lt)
    ∙ ap (λ t. remove t p) (runs_append k l gs ks (glyph_at gs p ∷ rest) p are (omega (arith, n)))
    ∙ remove_parts (runs_written k l gs ks) rest (glyph_at gs p) p kn)
