-- Between two cuts the same is requested.
use Rattle.std.proofs.Common.{◌≡◌, ◌∙◌, ap, sym, refl, ℕ, ◌<◌, ◌≤◌, Bool, true, false, not, ◌&&◌, ◌==◌, cond, leb, List, [], ◌∷◌, filter, fold, arith, All, nat_le, min}
use Rattle.std.specs.List.{list_any, AllByRecursion}
use Rattle.std.proofs.lemmas.Bool.Decides.{nat_tests}
use Rattle.std.proofs.lemmas.List.Elements.{filter_passes, recursion_from_All, All-filter}
use Rattle.aat_map.specs.declared.feature.feature_range_t.{feature_range_t}
use Rattle.aat_map.specs.declared.feature.feature_info_t.{feature_info_t}
use Rattle.aat_machine_tables.specs.declared.morx.ChainFeature.{ChainFeature}
use Rattle.aat_map.specs.ChainFlags.{flags_by}
use Rattle.aat_run.specs.Ranges.{last_cluster}
use Rattle.aat_map.specs.Live.{is_admitted, admitted, placed_by_start, by_start, has_begun, has_ended, infos, live, without_earliest, kept, has_setting, flags_at_cluster, is_edge, is_cut, cuts_at}
use Rattle.aat_map.specs.inside.CompiledSpans.{EndsWithinText}
use Rattle.aat_map.proofs.Truth.{true_not_false, or_false}

-- x and y lie on one side of where a request begins, and of where it ends
pub record SameSide (x y : ℕ) (r : feature_range_t) : Type 0 where
  pub begun : has_begun x r ≡ has_begun y r
  pub ended : has_ended x r ≡ has_ended y r

filter_same :
    (p q : feature_range_t → Bool) (rs : List feature_range_t) → AllByRecursion (λ r. p r ≡ q r) rs
    → filter p rs ≡ filter q rs
filter_same p q [] h = refl
filter_same p q (r ∷ rs) h = ap (λ b. cond b (r ∷ filter p rs) (filter p rs)) h.0 ∙ ap (λ xs. cond (q r) (r ∷ xs) xs) (filter_same p q rs h.1)

begun_same :
    (x y : ℕ) (rs : List feature_range_t) → AllByRecursion (SameSide x y) rs
    → AllByRecursion (λ r. has_begun x r ≡ has_begun y r) rs
begun_same x y [] h = tt
begun_same x y (r ∷ rs) h = (h.0.begun, begun_same x y rs h.1)

ended_same :
    (x y : ℕ) (rs : List feature_range_t) → AllByRecursion (SameSide x y) rs
    → AllByRecursion (λ r. has_ended x r ≡ has_ended y r) rs
ended_same x y [] h = tt
ended_same x y (r ∷ rs) h = (h.0.ended, ended_same x y rs h.1)

pub live_same : (x y : ℕ) (rs : List feature_range_t) → AllByRecursion (SameSide x y) (by_start rs) → live x rs ≡ live y rs
live_same x y rs h =
    ap (λ fs. fold without_earliest (infos fs) (infos (filter (has_ended x) (by_start rs)))) (filter_same _ _ _ (begun_same x y _ h))
    ∙ ap (λ fs. fold without_earliest (infos (filter (has_begun y) (by_start rs))) (infos fs)) (filter_same _ _ _ (ended_same x y _ h))

-- what holds of each request holds of each in order of start
placed_step_all :
    (P : feature_range_t → Type 0) (b : Bool) (q r : feature_range_t) (qs ps : List feature_range_t) → P q → P r
    → AllByRecursion P qs → AllByRecursion P ps → AllByRecursion P (cond b (q ∷ ps) (r ∷ (q ∷ qs)))
placed_step_all P true q r qs ps hq hr hqs hps = (hq, hps)
placed_step_all P false q r qs ps hq hr hqs hps = (hr, (hq, hqs))

placed_all :
    (P : feature_range_t → Type 0) (qs : List feature_range_t) (r : feature_range_t) → AllByRecursion P qs → P r
    → AllByRecursion P (placed_by_start qs r)
placed_all P [] r h p = (p, tt)
placed_all P (q ∷ qs) r h p = placed_step_all P (nat_le q.start r.start) q r qs (placed_by_start qs r) h.0 p h.1 (placed_all P qs r h.1 p)

pub ordered_all :
    (P : feature_range_t → Type 0) (qs rs : List feature_range_t) → AllByRecursion P qs → AllByRecursion P rs
    → AllByRecursion P (fold placed_by_start qs rs)
ordered_all P qs [] h k = h
ordered_all P qs (r ∷ rs) h k = ordered_all P (placed_by_start qs r) rs (placed_all P qs r h k.0) k.1

-- no request cuts behind p and up to x
abbrev NoCut : ℕ → ℕ → List feature_range_t → Type 0
NoCut p x rs = (c : ℕ) → p < c → c ≤ x → list_any (cuts_at c) rs ≡ false

-- a place where a request starts or ends is a cut, where it is no end of the text
cut_at_start : (r : feature_range_t) → is_edge r.start ≡ false → cuts_at r.start r ≡ true
cut_at_start r e = grind (arith, nat_tests, e)

cut_at_end : (r : feature_range_t) → is_edge r.end ≡ false → cuts_at r.end r ≡ true
cut_at_end r e = grind (arith, nat_tests, e)

no_edge : (x : ℕ) → 0 < x → x < last_cluster → is_edge x ≡ false
no_edge x lo hi = grind (arith, nat_tests)

begins_alike :
    (p x : ℕ) (r : feature_range_t) → p ≤ x → r.start < r.end → r.end ≤ last_cluster
    → ((c : ℕ) → p < c → c ≤ x → cuts_at c r ≡ false) → has_begun p r ≡ has_begun x r
begins_alike p x r le lt bound none = by_place (leb r.start p) (leb r.start x) refl refl
  where
    by_place : (a b : Bool) → leb r.start p ≡ a → leb r.start x ≡ b → leb r.start p ≡ leb r.start x
    by_place true true e f = e ∙ sym f
    by_place false false e f = e ∙ sym f
    by_place true false e f = absurd (let h : r.start ≤ p = grind (arith, nat_tests, e) in let k : x < r.start = grind (arith, nat_tests, f) in omega arith)
    by_place false true e f =
        let h : p < r.start = grind (arith, nat_tests, e) in
        let k : r.start ≤ x = grind (arith, nat_tests, f) in
        absurd (true_not_false (sym (cut_at_start r (no_edge r.start (omega arith) (omega arith))) ∙ none r.start h k))

ends_alike :
    (p x : ℕ) (r : feature_range_t) → p ≤ x → r.start < r.end → r.end ≤ last_cluster
    → ((c : ℕ) → p < c → c ≤ x → cuts_at c r ≡ false) → has_ended p r ≡ has_ended x r
ends_alike p x r le lt bound none = by_place (r.end == last_cluster) (leb r.end p) (leb r.end x) refl refl refl
  where
    by_place :
        (z a b : Bool) → (r.end == last_cluster) ≡ z → leb r.end p ≡ a → leb r.end x ≡ b
        → has_ended p r ≡ has_ended x r
    by_place z true true e f h = ap (λ c. c && not (r.end == last_cluster)) (f ∙ sym h)
    by_place z false false e f h = ap (λ c. c && not (r.end == last_cluster)) (f ∙ sym h)
    by_place z true false e f h = absurd (let u : r.end ≤ p = grind (arith, nat_tests, f) in let v : x < r.end = grind (arith, nat_tests, h) in omega arith)
    by_place true false true e f h = rw (e, f, h) refl
    by_place false false true e f h =
        let u : p < r.end = grind (arith, nat_tests, f) in
        let v : r.end ≤ x = grind (arith, nat_tests, h) in
        let w : r.end < last_cluster = grind (arith, nat_tests, e, bound) in
        absurd (true_not_false (sym (cut_at_end r (no_edge r.end (omega arith) w)) ∙ none r.end u v))

record IsGood (r : feature_range_t) : Type 0 where
  admitted : r.start < r.end
  bounded : r.end ≤ last_cluster

sides :
    (p x : ℕ) (rs : List feature_range_t) → p ≤ x → AllByRecursion IsGood rs → NoCut p x rs
    → AllByRecursion (SameSide p x) rs
sides p x [] le good none = tt
sides p x (r ∷ rs) le good none =
    let here : (c : ℕ) → p < c → c ≤ x → cuts_at c r ≡ false = λ c lo hi. (or_false _ _ (none c lo hi)).0 in (
      record { begun = begins_alike p x r le good.0.admitted good.0.bounded here; ended = ends_alike p x r le good.0.admitted good.0.bounded here },
      sides p x rs le good.1 (λ c lo hi. (or_false _ _ (none c lo hi)).1),
    )

good_admitted : (rs : List feature_range_t) → All EndsWithinText rs → AllByRecursion IsGood (admitted rs)
good_admitted rs bounded = recursion_from_All IsGood (admitted rs) (λ k d lt.
    record { admitted = (let h = filter_passes is_admitted rs k d lt in grind (arith, nat_tests, h)); bounded = All-filter is_admitted EndsWithinText rs bounded k d lt })

-- no request cuts past the last cluster
none_past :
    (x : ℕ) (rs : List feature_range_t) → last_cluster < x → AllByRecursion IsGood rs
    → list_any (cuts_at x) rs ≡ false
none_past x [] past good = refl
none_past x (r ∷ rs) past good = rw (here, none_past x rs past good.1) refl
  where
    starts : (r.start == x) ≡ false
    starts = grind (arith, nat_tests, good.0.admitted, good.0.bounded)

    ends : (r.end == x) ≡ false
    ends = grind (arith, nat_tests, good.0.bounded)

    here : cuts_at x r ≡ false
    here = rw (starts, ends) refl

-- the flags of a chain are the same from one cluster to another where no request cuts
pub flags_between :
    (rs : List feature_range_t) (default_flags : ℕ) (features : List ChainFeature) (p x : ℕ)
    → All EndsWithinText rs → p ≤ x → ((c : ℕ) → p < c → c ≤ x → is_cut rs c ≡ false)
    → flags_at_cluster rs default_flags features p ≡ flags_at_cluster rs default_flags features x
flags_between rs default_flags features p x bounded le none =
    let same = live_same p x rs (ordered_all (SameSide p x) [] (admitted rs) tt (sides p x (admitted rs) le (good_admitted rs bounded) none)) in
    ap (λ (ls : List feature_info_t). flags_by (has_setting (kept ls)) default_flags features) same

-- past the last cluster they are as there
pub flags_past :
    (rs : List feature_range_t) (default_flags : ℕ) (features : List ChainFeature) (x : ℕ)
    → All EndsWithinText rs
    → flags_at_cluster rs default_flags features (min x last_cluster) ≡ flags_at_cluster rs default_flags features x
flags_past rs default_flags features x bounded = flags_between rs default_flags features (min x last_cluster) x bounded (omega arith) (λ c lo hi. none_past c (admitted rs) (let past : last_cluster < c = omega arith in past) (good_admitted rs bounded))
