-- Runs that are written later: what is read, appended and taken before they are.
use Rattle.std.proofs.Common.{◌≡◌, ◌≢◌, ◌∙◌, sym, ap, subst, refl, ℕ, zero, suc, ◌+◌, ◌-◌, ◌<◌, ◌≤◌, List, [], ◌∷◌, ◌++◌, length, map, take, drop, arith}
use Rattle.std.proofs.lemmas.List.{length-take-le, length-drop, length-append, length-map, drop-drop, take-append-le, drop-append-le, take-append-drop, append_assoc, map-append, get_or_append_left, get_or-append_right, get_or-drop}
use Rattle.std.proofs.lemmas.Nat.{and_or_apart, and_assoc, or_comm}
use Rattle.std.proofs.Math.Seq.{drop-append-add, take-append_seam, drop-append_seam}
use Rattle.std.specs.Int.Bits.{and_zero_r, bit_and, bit_or}
use Rattle.std.specs.Prelude.{slice_range}
use Rattle.aat_glyph.specs.declared.glyph.hb_glyph_info_t.{hb_glyph_info_t}
use Rattle.aat_buffer.specs.Buffer.{no_glyph, glyph_at}
use Rattle.aat_buffer.specs.Marks.{on_span, cluster_at}
use Rattle.aat_buffer.specs.Removal.{with_cluster_and_flags}
use Rattle.aat_buffer.specs.inside.Pending.{run_written, run_first, run_below, runs_written, AreRuns}

-- Spans

-- a span and what stands behind it
pub span_rest : {X : Type 0} (i j : ℕ) (xs : List X) → i ≤ j → slice_range xs i j ++ drop j xs ≡ drop i xs
span_rest i j xs le =
    let sum : i + (j - i) ≡ j = omega arith in
    rw (← sum) (rw (← drop-drop (j - i) i xs) (let same : i + (j - i) - i ≡ j - i = omega arith in rw same (take-append-drop (j - i) (drop i xs))))

pub span_append : (f : hb_glyph_info_t → hb_glyph_info_t) (i j : ℕ) (xs ys : List hb_glyph_info_t) → i ≤ j → j ≤ length xs → on_span (map f) i j (xs ++ ys) ≡ on_span (map f) i j xs ++ ys
span_append f i j xs ys le within =
    let front : take i (xs ++ ys) ≡ take i xs = take-append-le i xs ys (omega arith) in
    let back : drop j (xs ++ ys) ≡ drop j xs ++ ys = drop-append-le j xs ys within in
    let mid : slice_range (xs ++ ys) i j ≡ slice_range xs i j = ap (take (j - i)) (drop-append-le i xs ys (omega arith)) ∙ take-append-le (j - i) (drop i xs) ys (omega (arith, length-drop i xs)) in
    ap (λ t. t ++ (map f (slice_range (xs ++ ys) i j) ++ drop j (xs ++ ys))) front
    ∙ ap (λ t. take i xs ++ (map f t ++ drop j (xs ++ ys))) mid
    ∙ ap (λ t. take i xs ++ (map f (slice_range xs i j) ++ t)) back
    ∙ ap (λ t. take i xs ++ t) (sym (append_assoc (map f (slice_range xs i j)) (drop j xs) ys))
    ∙ sym (append_assoc (take i xs) (map f (slice_range xs i j) ++ drop j xs) ys)

pub length_range : {X : Type 0} (i j : ℕ) (xs : List X) → j ≤ length xs → length (slice_range xs i j) ≡ j - i
length_range i j xs within = length-take-le (j - i) (drop i xs) (omega (arith, length-drop i xs))

pub span_length : (f : hb_glyph_info_t → hb_glyph_info_t) (i j : ℕ) (xs : List hb_glyph_info_t) → i ≤ j → j ≤ length xs → length (on_span (map f) i j xs) ≡ length xs
span_length f i j xs le within = omega (arith, length-append (take i xs) (map f (slice_range xs i j) ++ drop j xs), length-append (map f (slice_range xs i j)) (drop j xs), length-take-le i xs (omega arith), length-map (slice_range xs i j) f, length_range i j xs within, length-drop j xs)

-- the glyphs behind a span stay
pub span_drop : (f : hb_glyph_info_t → hb_glyph_info_t) (i j k : ℕ) (xs : List hb_glyph_info_t) → i ≤ j → j ≤ k → j ≤ length xs → drop k (on_span (map f) i j xs) ≡ drop k xs
span_drop f i j k xs le behind within =
    let done : List hb_glyph_info_t = map f (slice_range xs i j) in
    let n : length (take i xs ++ done) ≡ j = omega (arith, length-append (take i xs) done, length-take-le i xs (omega arith), length-map (slice_range xs i j) f, length_range i j xs within) in
    let at : j + (k - j) ≡ k = omega arith in
    let here : length (take i xs ++ done) + (k - j) ≡ k = omega (arith, n) in
    ap (drop k) (sym (append_assoc (take i xs) done (drop j xs)))
    ∙ ap (λ m. drop m ((take i xs ++ done) ++ drop j xs)) (sym here)
    ∙ drop-append-add (take i xs ++ done) (drop j xs) (k - j)
    ∙ drop-drop (k - j) j xs ∙ rw at refl

-- Labels

-- a glyph without its label: the cluster and the DEFINED flags (7)
abbrev pub bare : hb_glyph_info_t → hb_glyph_info_t
bare g = record g { cluster = 0; mask = bit_and g.mask 0xFFFFFFF8 }

apart : (y : ℕ) → bit_and (bit_and y 7) 0xFFFFFFF8 ≡ 0
apart y = and_assoc 0xFFFFFFF8 y 7 ∙ and_zero_r y

upper_again : (x : ℕ) → bit_and (bit_and x 0xFFFFFFF8) 0xFFFFFFF8 ≡ bit_and x 0xFFFFFFF8
upper_again x = and_assoc 0xFFFFFFF8 x 0xFFFFFFF8

upper_of_labelled : (x y : ℕ) → bit_and (bit_or (bit_and x 0xFFFFFFF8) (bit_and y 7)) 0xFFFFFFF8 ≡ bit_and x 0xFFFFFFF8
upper_of_labelled x y = and_or_apart 0xFFFFFFF8 (bit_and x 0xFFFFFFF8) (bit_and y 7) (apart y) ∙ upper_again x

lower_of_labelled : (x y : ℕ) → bit_and (bit_or (bit_and x 0xFFFFFFF8) (bit_and y 7)) 7 ≡ bit_and y 7
lower_of_labelled x y =
    let none : bit_and (bit_and x 0xFFFFFFF8) 7 ≡ 0 = and_assoc 7 x 0xFFFFFFF8 ∙ and_zero_r x in
    ap (λ m. bit_and m 7) (or_comm (bit_and x 0xFFFFFFF8) (bit_and y 7)) ∙ and_or_apart 7 (bit_and y 7) (bit_and x 0xFFFFFFF8) none ∙ and_assoc 7 y 7

pub bare_labelled : (h g : hb_glyph_info_t) → bare (with_cluster_and_flags h g) ≡ bare g
bare_labelled h g = ap (λ m. record g { cluster = 0; mask = m }) (upper_of_labelled g.mask h.mask)

-- what a label is given to does not matter in its own label
pub labelled_bare : (h g : hb_glyph_info_t) → with_cluster_and_flags h (bare g) ≡ with_cluster_and_flags h g
labelled_bare h g = ap (λ m. record g { cluster = h.cluster; mask = bit_or m (bit_and h.mask 7) }) (upper_again g.mask)

-- the label of a glyph that has got one
pub labelled_labelled : (h x g : hb_glyph_info_t) → with_cluster_and_flags (with_cluster_and_flags h x) g ≡ with_cluster_and_flags h g
labelled_labelled h x g = ap (λ m. record g { cluster = h.cluster; mask = bit_or (bit_and g.mask 0xFFFFFFF8) m }) (lower_of_labelled x.mask h.mask)

map_map : {X Y Z : Type 0} (f : Y → Z) (h : X → Y) (xs : List X) → map f (map h xs) ≡ map (λ x. f (h x)) xs
map_map f h [] = refl
map_map f h (x ∷ xs) = ap (λ t. f (h x) ∷ t) (map_map f h xs)

pub map_same : {X Y : Type 0} (f h : X → Y) → ((x : X) → f x ≡ h x) → (xs : List X) → map f xs ≡ map h xs
map_same f h same [] = refl
map_same f h same (x ∷ xs) = ap (λ y. y ∷ map f xs) (same x) ∙ ap (λ t. h x ∷ t) (map_same f h same xs)

pub relabelled : (h : hb_glyph_info_t) (xs ys : List hb_glyph_info_t) → map bare xs ≡ map bare ys → map (with_cluster_and_flags h) xs ≡ map (with_cluster_and_flags h) ys
relabelled h xs ys same =
    let of : (zs : List hb_glyph_info_t) → map (with_cluster_and_flags h) zs ≡ map (with_cluster_and_flags h) (map bare zs) = λ zs. map_same (with_cluster_and_flags h) (λ g. with_cluster_and_flags h (bare g)) (λ g. sym (labelled_bare h g)) zs ∙ sym (map_map (with_cluster_and_flags h) bare zs) in
    of xs ∙ ap (map (with_cluster_and_flags h)) same ∙ sym (of ys)

span_bare : (h : hb_glyph_info_t) (i j : ℕ) (xs : List hb_glyph_info_t) → i ≤ j → map bare (on_span (map (with_cluster_and_flags h)) i j xs) ≡ map bare xs
span_bare h i j xs le =
    map-append bare (take i xs) (map (with_cluster_and_flags h) (slice_range xs i j) ++ drop j xs)
    ∙ ap (λ t. map bare (take i xs) ++ t)
    (map-append bare (map (with_cluster_and_flags h) (slice_range xs i j)) (drop j xs)
    ∙ ap (λ t. t ++ map bare (drop j xs)) (map_map bare (with_cluster_and_flags h) (slice_range xs i j) ∙ map_same (λ g. bare (with_cluster_and_flags h g)) bare (bare_labelled h) (slice_range xs i j))
    ∙ sym (map-append bare (slice_range xs i j) (drop j xs))
    ∙ ap (map bare) (span_rest i j xs le))
    ∙ sym (map-append bare (take i xs) (drop i xs))
    ∙ ap (map bare) (take-append-drop i xs)

-- Runs

pub runs_mono : (k l : ℕ) (hs : List hb_glyph_info_t) (p q : ℕ) → p ≤ q → AreRuns k l hs p → AreRuns k l hs q
unfolding AreRuns
runs_mono zero l hs p q le are = are
runs_mono (suc k) l hs p q le (ordered, (below, rest)) = (ordered, (omega (arith, below, le), rest))

pub runs_below : (k l : ℕ) (hs : List hb_glyph_info_t) (p j : ℕ) → p ≡ j + 1 → (0 < k → l ≢ j) → AreRuns k l hs p → AreRuns k l hs j
unfolding AreRuns
runs_below zero l hs p j e other are = are
runs_below (suc k) l hs p j e other (ordered, (below, rest)) = let apart : l ≢ j = other (omega arith) in (ordered, (omega (arith, below, e, apart), rest))

-- where the last run stands
pub runs_top : (k l : ℕ) (hs : List hb_glyph_info_t) (p : ℕ) → 0 < k → AreRuns k l hs p → ((run_first hs l + 2 ≤ l) × (l < p)) × AreRuns (k - 1) (run_below hs l) hs (run_first hs l)
unfolding AreRuns
runs_top zero l hs p some are = omega (arith, some)
runs_top (suc k) l hs p some (ordered, (below, rest)) = let less : k ≡ suc k - 1 = omega arith in ((ordered, below), subst (λ n. AreRuns n (run_below hs l) hs (run_first hs l)) less rest)

pub run_append : (i j : ℕ) (xs ys : List hb_glyph_info_t) → i ≤ j → j < length xs → run_written i j (xs ++ ys) ≡ run_written i j xs ++ ys
run_append i j xs ys le lt =
    ap (λ g. on_span (map (with_cluster_and_flags g)) i j (xs ++ ys)) (get_or_append_left xs ys no_glyph j lt)
    ∙ span_append (with_cluster_and_flags (glyph_at xs j)) i j xs ys le (omega arith)

pub run_length : (i j : ℕ) (xs : List hb_glyph_info_t) → i ≤ j → j < length xs → length (run_written i j xs) ≡ length xs
run_length i j xs le lt = span_length (with_cluster_and_flags (glyph_at xs j)) i j xs le (omega arith)

pub runs_length : (k l : ℕ) (hs xs : List hb_glyph_info_t) (p : ℕ) → AreRuns k l hs p → p ≤ length xs → length (runs_written k l hs xs) ≡ length xs
unfolding AreRuns runs_written
runs_length zero l hs xs p are within = refl
runs_length (suc k) l hs xs p (ordered, (below, rest)) within =
    let inner : length (runs_written k (run_below hs l) hs xs) ≡ length xs = runs_length k (run_below hs l) hs xs (run_first hs l) rest (omega (arith, ordered, below, within)) in
    run_length (run_first hs l) l (runs_written k (run_below hs l) hs xs) (omega (arith, ordered)) (omega (arith, inner, below, within)) ∙ inner

-- runs know nothing of what stands behind them
pub runs_append : (k l : ℕ) (hs xs ys : List hb_glyph_info_t) (p : ℕ) → AreRuns k l hs p → p ≤ length xs → runs_written k l hs (xs ++ ys) ≡ runs_written k l hs xs ++ ys
unfolding AreRuns runs_written
runs_append zero l hs xs ys p are within = refl
runs_append (suc k) l hs xs ys p (ordered, (below, rest)) within =
    let le : run_first hs l ≤ length xs = omega (arith, ordered, below, within) in
    let b : ℕ = run_below hs l in
    ap (run_written (run_first hs l) l) (runs_append k b hs xs ys (run_first hs l) rest le)
    ∙ run_append (run_first hs l) l (runs_written k b hs xs) ys (omega (arith, ordered)) (omega (arith, runs_length k b hs xs (run_first hs l) rest le, below, within))

pub runs_bare : (k l : ℕ) (hs xs : List hb_glyph_info_t) (p : ℕ) → AreRuns k l hs p → map bare (runs_written k l hs xs) ≡ map bare xs
unfolding AreRuns runs_written
runs_bare zero l hs xs p are = refl
runs_bare (suc k) l hs xs p (ordered, (below, rest)) =
    span_bare (glyph_at (runs_written k (run_below hs l) hs xs) l) (run_first hs l) l (runs_written k (run_below hs l) hs xs) (omega (arith, ordered))
    ∙ runs_bare k (run_below hs l) hs xs (run_first hs l) rest

-- the last glyph of the last run shows its label already
pub runs_drop : (k l : ℕ) (hs xs : List hb_glyph_info_t) (p j : ℕ) → AreRuns k l hs p → p ≤ length xs → p ≤ j + 1 → drop j (runs_written k l hs xs) ≡ drop j xs
unfolding AreRuns runs_written
runs_drop zero l hs xs p j are within le = refl
runs_drop (suc k) l hs xs p j (ordered, (below, rest)) within le =
    let b : ℕ = run_below hs l in
    let n : length (runs_written k b hs xs) ≡ length xs = runs_length k b hs xs (run_first hs l) rest (omega (arith, ordered, below, within)) in
    span_drop (with_cluster_and_flags (glyph_at (runs_written k b hs xs) l)) (run_first hs l) l j (runs_written k b hs xs) (omega (arith, ordered)) (omega (arith, below, le)) (omega (arith, n, below, within))
    ∙ runs_drop k b hs xs (run_first hs l) j rest (omega (arith, ordered, below, within)) (omega (arith, ordered, below, le))

pub runs_read : (k l : ℕ) (hs xs : List hb_glyph_info_t) (p j : ℕ) → AreRuns k l hs p → p ≤ length xs → p ≤ j + 1 → glyph_at (runs_written k l hs xs) j ≡ glyph_at xs j
runs_read k l hs xs p j are within le =
    let at : j + 0 ≡ j = omega arith in
    let of : (zs : List hb_glyph_info_t) → glyph_at zs j ≡ glyph_at (drop j zs) 0 = λ zs. sym (get_or-drop j zs 0 no_glyph ∙ rw at refl) in
    of (runs_written k l hs xs) ∙ ap (λ zs. glyph_at zs 0) (runs_drop k l hs xs p j are within le) ∙ sym (of xs)

-- two lines whose glyphs before place p have the same clusters tell the same runs
abbrev pub Alike : List hb_glyph_info_t → List hb_glyph_info_t → ℕ → Type 0
Alike hs zs p = (j : ℕ) → j < p → cluster_at hs j ≡ cluster_at zs j

pub runs_alike : (k l : ℕ) (hs zs : List hb_glyph_info_t) (p : ℕ) → Alike hs zs p → AreRuns k l hs p → AreRuns k l zs p
unfolding AreRuns
runs_alike zero l hs zs p same are = are
runs_alike (suc k) l hs zs p same (ordered, (below, rest)) =
    let f : ℕ = run_first hs l in
    let first : f ≡ run_first zs l = same (l - 1) (omega (arith, below, ordered)) in
    let next : cluster_at hs f ≡ cluster_at zs f = same f (omega (arith, ordered, below)) in
    let inner : AreRuns k (cluster_at hs f) zs f = runs_alike k (cluster_at hs f) hs zs f (λ j lt. same j (omega (arith, lt, ordered, below))) rest in
    subst (λ i. (i + 2 ≤ l) × ((l < p) × AreRuns k (cluster_at zs i) zs i)) first (ordered, (below, subst (λ m. AreRuns k m zs f) next inner))

pub written_alike : (k l : ℕ) (hs zs xs : List hb_glyph_info_t) (p : ℕ) → Alike hs zs p → AreRuns k l hs p → runs_written k l hs xs ≡ runs_written k l zs xs
unfolding AreRuns runs_written
written_alike zero l hs zs xs p same are = refl
written_alike (suc k) l hs zs xs p same (ordered, (below, rest)) =
    let f : ℕ = run_first hs l in
    let first : f ≡ run_first zs l = same (l - 1) (omega (arith, below, ordered)) in
    let next : cluster_at hs f ≡ cluster_at zs f = same f (omega (arith, ordered, below)) in
    ap (run_written f l) (written_alike k (cluster_at hs f) hs zs xs f (λ j lt. same j (omega (arith, lt, ordered, below))) rest)
    ∙ ap (λ m. run_written f l (runs_written k m zs xs)) next
    ∙ ap (λ i. run_written i l (runs_written k (cluster_at zs i) zs xs)) first

pub runs_none : (l : ℕ) (hs xs : List hb_glyph_info_t) → runs_written 0 l hs xs ≡ xs
unfolding runs_written
runs_none l hs xs = refl

-- nothing stands before the first place
pub runs_start : (k l : ℕ) (hs : List hb_glyph_info_t) (p : ℕ) → p ≡ 0 → AreRuns k l hs p → k ≡ 0
unfolding AreRuns
runs_start zero l hs p e are = refl
runs_start (suc k) l hs p e (ordered, (below, rest)) = omega (arith, below, e)

-- there are no more runs than glyphs
pub runs_few : (k l : ℕ) (hs : List hb_glyph_info_t) (p : ℕ) → AreRuns k l hs p → k ≤ p
unfolding AreRuns
runs_few zero l hs p are = omega arith
runs_few (suc k) l hs p (ordered, (below, rest)) = omega (arith, ordered, below, runs_few k (run_below hs l) hs (run_first hs l) rest)

-- A run behind the others

pub span_parts : (f : hb_glyph_info_t → hb_glyph_info_t) (fs ms es : List hb_glyph_info_t) (i j : ℕ) → length fs ≡ i → i + length ms ≡ j → on_span (map f) i j (fs ++ (ms ++ es)) ≡ fs ++ (map f ms ++ es)
span_parts f fs ms es i j n m =
    let all : List hb_glyph_info_t = fs ++ (ms ++ es) in
    let here : j - i ≡ length ms = omega (arith, m) in
    let sum : length (fs ++ ms) ≡ j = omega (arith, n, m, length-append fs ms) in
    let front : take i all ≡ fs = ap (λ k. take k all) (sym n) ∙ take-append_seam fs (ms ++ es) in
    let rest : drop i all ≡ ms ++ es = ap (λ k. drop k all) (sym n) ∙ drop-append_seam fs (ms ++ es) in
    let mid : slice_range all i j ≡ ms = ap (take (j - i)) rest ∙ ap (λ k. take k (ms ++ es)) here ∙ take-append_seam ms es in
    let back : drop j all ≡ es = ap (drop j) (sym (append_assoc fs ms es)) ∙ ap (λ k. drop k ((fs ++ ms) ++ es)) (sym sum) ∙ drop-append_seam (fs ++ ms) es in
    ap (λ t. t ++ (map f (slice_range all i j) ++ drop j all)) front ∙ ap (λ t. fs ++ (map f t ++ drop j all)) mid ∙ ap (λ t. fs ++ (map f ms ++ t)) back

-- a line in three parts
pub in_parts : (gs : List hb_glyph_info_t) (i j : ℕ) → i ≤ j → gs ≡ take i gs ++ (slice_range gs i j ++ drop j gs)
in_parts gs i j le = sym (take-append-drop i gs) ∙ ap (λ t. take i gs ++ t) (sym (span_rest i j gs le))

-- a run written over the parts of a line
pub run_parts : (fs ms es : List hb_glyph_info_t) (i j : ℕ) → length fs ≡ i → i + length ms ≡ j → run_written i j (fs ++ (ms ++ es)) ≡ fs ++ (map (with_cluster_and_flags (glyph_at es 0)) ms ++ es)
run_parts fs ms es i j n m =
    let sum : length (fs ++ ms) ≡ j = omega (arith, n, m, length-append fs ms) in
    let none : j - j ≡ 0 = omega arith in
    let read : glyph_at (fs ++ (ms ++ es)) j ≡ glyph_at es 0 = ap (λ t. glyph_at t j) (sym (append_assoc fs ms es)) ∙ get_or-append_right (fs ++ ms) es j j no_glyph sum (omega arith) ∙ ap (glyph_at es) none in
    span_parts (with_cluster_and_flags (glyph_at (fs ++ (ms ++ es)) j)) fs ms es i j n m
    ∙ ap (λ g. fs ++ (map (with_cluster_and_flags g) ms ++ es)) read

-- a run behind others may be written before them
pub runs_commute : (k l : ℕ) (hs gs : List hb_glyph_info_t) (i j : ℕ) → AreRuns k l hs i → i ≤ j → j < length gs → run_written i j (runs_written k l hs gs) ≡ runs_written k l hs (run_written i j gs)
runs_commute k l hs gs i j are le lt =
    let fs : List hb_glyph_info_t = take i gs in
    let ms : List hb_glyph_info_t = slice_range gs i j in
    let es : List hb_glyph_info_t = drop j gs in
    let n : length fs ≡ i = length-take-le i gs (omega (arith, le, lt)) in
    let m : i + length ms ≡ j = omega (arith, length_range i j gs (omega (arith, lt)), le) in
    let rn : length (runs_written k l hs fs) ≡ i = runs_length k l hs fs i are (omega (arith, n)) ∙ n in
    ap (λ t. run_written i j (runs_written k l hs t)) (in_parts gs i j le)
    ∙ ap (run_written i j) (runs_append k l hs fs (ms ++ es) i are (omega (arith, n)))
    ∙ run_parts (runs_written k l hs fs) ms es i j rn m
    ∙ sym (ap (λ t. runs_written k l hs (run_written i j t)) (in_parts gs i j le)
    ∙ ap (runs_written k l hs) (run_parts fs ms es i j n m)
    ∙ runs_append k l hs fs (map (with_cluster_and_flags (glyph_at es 0)) ms ++ es) i are (omega (arith, n)))
