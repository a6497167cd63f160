-- What a compiled map says of each cluster.
use Rattle.std.proofs.Common.{◌≡◌, ◌∙◌, ap, sym, refl, ℕ, zero, suc, ◌+◌, ◌-◌, ◌<◌, ◌≤◌, Bool, true, false, not, ◌&&◌, ◌||◌, ◌==◌, cond, leb, List, [], ◌∷◌, map, fold, length, get_or, arith, All, Option, Some, slice_get, unwrap_or, min}
use Rattle.std.proofs.Math.Bool.{or-true, and-false}
use Rattle.std.proofs.lemmas.Bool.{false_from_ne_true}
use Rattle.std.specs.List.{list_any, list_all, AllByRecursion, AllPairs}
use Rattle.std.proofs.lemmas.Bool.Decides.{nat_tests}
use Rattle.std.proofs.lemmas.List.{length-map}
use Rattle.std.proofs.lemmas.List.Elements.{recursion_from_All, All-map}
use Rattle.std.proofs.lemmas.List.Kept.{AllPairs-from_increasing}
use Rattle.aat_map.specs.declared.feature.feature_range_t.{feature_range_t}
use Rattle.aat_machine_tables.specs.declared.morx.Chain.{Chain}
use Rattle.aat_run.specs.Switches.{by_flags, meets}
use Rattle.aat_map.specs.Builder.{Builder}
use Rattle.aat_map.specs.Compiled.{IsLastStart}
use Rattle.aat_run.specs.Ranges.{last_cluster, flags_in, flags_on, holds, next_start, is_whole_list, switch_for}
use Rattle.aat_map.specs.Live.{admitted, is_edge, is_cut, cuts_at, is_between_edges, is_uncut, flags_at_cluster}
use Rattle.aat_map.specs.Map.{AreStarts, range_starts, flags_at, list_at}
use Rattle.aat_map.specs.SwitchedChains.{switched_by, by_requests, switched_at, with_switch}
use Rattle.aat_map.specs.Spans.{spans}
use Rattle.aat_map.specs.inside.CompiledSpans.{span_range, compiled_lists, RiseFromZero, IsLastSpan, EndsWithinText}
use Rattle.aat_map.proofs.Truth.{true_not_false, or_false}
use Rattle.aat_map.proofs.CutLemmas.{flags_between, flags_past}
use Rattle.aat_map.proofs.SpanLemmas.{length-spans, after_spans, after_ranges}

not_none : (n : ℕ) → (suc n == 0) ≡ false
not_none n = grind (arith, nat_tests)

not_one : (n : ℕ) → (suc (suc n) == 1) ≡ false
not_one n = grind (arith, nat_tests)

-- numbers that rise, each below all later ones
abbrev pub Rises : List ℕ → Type 0
Rises [] = Unit {0}
Rises (s ∷ ss) = AllByRecursion (λ t. s < t) ss × Rises ss

rises_from_pairs : (ss : List ℕ) → AllPairs (λ x y. x < y) ss → Rises ss
rises_from_pairs [] h = tt
rises_from_pairs (s ∷ ss) h = (
  recursion_from_All (λ t. s < t) ss (λ k d lt. h 0 (suc k) d (omega arith) (omega arith)),
  rises_from_pairs ss (λ i j d lt within. h (suc i) (suc j) d (omega arith) (omega arith)),
)

none_below : (s x : ℕ) (ss : List ℕ) → x ≤ s → AllByRecursion (λ t. s < t) ss → list_any (λ t. t == x) ss ≡ false
none_below s x [] le h = refl
none_below s x (t ∷ ts) le h = rw (differs, none_below s x ts le h.1) refl
  where
    differs : (t == x) ≡ false
    differs = grind (arith, nat_tests, h.0, le)

-- starts begin with 0
record Begins (starts : List ℕ) : Type 0 where
  later : List ℕ
  is : starts ≡ 0 ∷ later
  rises : Rises (0 ∷ later)

begins : (requests : List feature_range_t) (starts : List ℕ) → AreStarts requests starts → Begins starts
begins requests [] a = absurd (true_not_false (sym (a.exact 0)))
begins requests (s ∷ ss) a = by_first (s == 0) refl
  where
    up : Rises (s ∷ ss)
    up = rises_from_pairs (s ∷ ss) (AllPairs-from_increasing (s ∷ ss) a.rising)

    by_first : (b : Bool) → (s == 0) ≡ b → Begins (s ∷ ss)
    by_first true e = let z : s ≡ 0 = grind (arith, nat_tests, e) in record { later = ss; is = ap (λ n. n ∷ ss) z; rises = rw z at up }
    by_first false e = absurd (true_not_false (sym (rw e at (a.exact 0)) ∙ none_below s 0 ss (omega arith) up.0))

-- the value at the last place that is not behind x
last_value : (g : ℕ → ℕ) (x acc : ℕ) → List ℕ → ℕ
last_value g x acc [] = acc
last_value g x acc (s ∷ ss) = last_value g x (cond (leb s x) (g s) acc) ss

module _
    (g : ℕ → ℕ) (cut : ℕ → Bool)
    (between : (p x : ℕ) → p ≤ x → ((c : ℕ) → p < c → c ≤ x → cut c ≡ false) → g p ≡ g x) where
  behind :
      (s c : ℕ) (ss : List ℕ) → (s == c) ≡ false → list_any (λ t. t == c) (s ∷ ss) ≡ true
      → list_any (λ t. t == c) ss ≡ true
  behind s c ss e h = rw e at h

  -- where every cut is among the places, that is the value at x
  walk :
      (p x : ℕ) (ss : List ℕ) → p ≤ x → AllByRecursion (λ t. p < t) ss → Rises ss
      → ((c : ℕ) → p < c → c ≤ x → cut c ≡ true → list_any (λ t. t == c) ss ≡ true)
      → last_value g x (g p) ss ≡ g x
  unfolding last_value
  walk p x [] le above up covers = between p x le (λ c lo hi. false_from_ne_true (cut c) (λ k. true_not_false (sym (covers c lo hi k))))
  walk p x (s ∷ ss) le above up covers = by_place (leb s x) refl (walk s x ss) (walk p x ss)
    where
      by_place : (b : Bool) → leb s x ≡ b
          → (s ≤ x → AllByRecursion (λ t. s < t) ss → Rises ss → ((c : ℕ) → s < c → c ≤ x → cut c ≡ true → list_any (λ t. t == c) ss ≡ true) → last_value g x (g s) ss ≡ g x)
          → (p ≤ x → AllByRecursion (λ t. p < t) ss → Rises ss → ((c : ℕ) → p < c → c ≤ x → cut c ≡ true → list_any (λ t. t == c) ss ≡ true) → last_value g x (g p) ss ≡ g x)
          → last_value g x (cond b (g s) (g p)) ss ≡ g x
      by_place true e here later =
          let in_reach : s ≤ x = grind (arith, nat_tests, e) in
          let past : p < s = above.0 in
          here in_reach up.0 up.1 (λ c lo hi k. behind s c ss (let ne : (s == c) ≡ false = grind (arith, nat_tests, lo) in ne) (covers c (omega arith) hi k))
      by_place false e here later =
          let out : x < s = grind (arith, nat_tests, e) in
          later le above.1 up.1 (λ c lo hi k. behind s c ss (let ne : (s == c) ≡ false = grind (arith, nat_tests, out, hi) in ne) (covers c lo hi k))

-- past x nothing changes
stays : (g : ℕ → ℕ) (x acc : ℕ) (ss : List ℕ) → AllByRecursion (λ t. x < t) ss → last_value g x acc ss ≡ acc
unfolding last_value
stays g x acc [] h = refl
stays g x acc (s ∷ ss) h = let e : leb s x ≡ false = grind (arith, nat_tests, h.0) in ap (λ b. last_value g x (cond b (g s) acc) ss) e ∙ stays g x acc ss h.1

above_all : (x t : ℕ) (ss : List ℕ) → x < t → AllByRecursion (λ u. t < u) ss → AllByRecursion (λ u. x < u) ss
above_all x t [] lt h = tt
above_all x t (u ∷ us) lt h = (omega (arith, h.0), above_all x t us lt h.1)

-- the flags of a chain at a cluster
abbrev flags_of : List feature_range_t → Chain → ℕ → ℕ
flags_of requests c x = flags_at_cluster requests c.default_flags c.features.items x

-- a request that cuts has an end within the text
cut_not_edges : (x : ℕ) (r : feature_range_t) → cuts_at x r ≡ true → is_between_edges r ≡ false
cut_not_edges x r h = by_ends (r.start == x) (r.end == x) (is_edge x) refl refl refl h
  where
    by_ends :
        (p q e : Bool) → (r.start == x) ≡ p → (r.end == x) ≡ q → is_edge x ≡ e → ((p || q) && not e) ≡ true
        → is_between_edges r ≡ false
    by_ends true q true sp sq se k = cc
    by_ends true q false sp sq se k = let same : r.start ≡ x = grind (arith, nat_tests, sp) in ap (λ z. is_edge z && is_edge r.end) same ∙ ap (λ b. b && is_edge r.end) se
    by_ends false true true sp sq se k = cc
    by_ends false true false sp sq se k = let same : r.end ≡ x = grind (arith, nat_tests, sq) in ap (λ z. is_edge r.start && is_edge z) same ∙ ap (λ b. is_edge r.start && b) se ∙ and-false (is_edge r.start)
    by_ends false false e sp sq se k = cc

fails_step :
    (t e : Bool) (ts es : Bool) → (t ≡ true → e ≡ false) → (ts ≡ true → es ≡ false) → (t || ts) ≡ true
    → (e && es) ≡ false
fails_step true e ts es f g h = ap (λ b. b && es) (f refl)
fails_step false true ts es f g h = g h
fails_step false false ts es f g h = refl

edges_fail :
    (x : ℕ) (rs : List feature_range_t) → list_any (cuts_at x) rs ≡ true → list_all is_between_edges rs ≡ false
edges_fail x [] h = cc
edges_fail x (r ∷ rs) h = fails_step (cuts_at x r) (is_between_edges r) (list_any (cuts_at x) rs) (list_all is_between_edges rs) (cut_not_edges x r) (edges_fail x rs) h

-- nothing cuts at 0
never_zero : (rs : List feature_range_t) → list_any (cuts_at 0) rs ≡ false
never_zero [] = refl
never_zero (r ∷ rs) = rw (and-false ((r.start == 0) || (r.end == 0)), never_zero rs) refl

edge_or_cut : (r : feature_range_t) → ((x : ℕ) → cuts_at x r ≡ false) → is_between_edges r ≡ true
edge_or_cut r none = by_edges (is_edge r.start) (is_edge r.end) refl refl
  where
    by_edges : (p q : Bool) → is_edge r.start ≡ p → is_edge r.end ≡ q → is_between_edges r ≡ true
    by_edges true true e f = rw (e, f) refl
    by_edges false q e f = absurd (true_not_false (sym (let s : (r.start == r.start) ≡ true = grind (arith, nat_tests) in let h : (((r.start == r.start) || (r.end == r.start)) && not (is_edge r.start)) ≡ true = rw (s, e) refl in h) ∙ none r.start))
    by_edges true false e f = absurd (true_not_false (sym (let s : (r.end == r.end) ≡ true = grind (arith, nat_tests) in let h : (((r.start == r.end) || (r.end == r.end)) && not (is_edge r.end)) ≡ true = rw (s, f) (ap (λ b. b && true) (or-true (r.start == r.end))) in h) ∙ none r.end))

-- where nothing cuts each request starts and ends at an end of the text
all_edges :
    (rs : List feature_range_t) → ((x : ℕ) → list_any (cuts_at x) rs ≡ false)
    → list_all is_between_edges rs ≡ true
all_edges [] none = refl
all_edges (r ∷ rs) none = rw (edge_or_cut r (λ x. (or_false _ _ (none x)).0), all_edges rs (λ x. (or_false _ _ (none x)).1)) refl

any_at : (ss : List ℕ) (i x : ℕ) → slice_get ss i ≡ Some x → list_any (λ t. t == x) ss ≡ true
any_at [] i x h = cc
any_at (s ∷ ss) zero x h = let same : s ≡ x = cc in let e : (s == x) ≡ true = grind (arith, nat_tests, same) in rw e refl
any_at (s ∷ ss) (suc i) x h = rw (any_at ss i x h) (or-true (s == x))

all_read : (P : ℕ → Type 0) (ss : List ℕ) (i x : ℕ) → AllByRecursion P ss → slice_get ss i ≡ Some x → P x
all_read P [] i x h read = cc
all_read P (s ∷ ss) zero x h read = let same : s ≡ x = cc in rw same at h.0
all_read P (s ∷ ss) (suc i) x h read = all_read P ss i x h.1 read

-- the last of numbers that rise is the greatest
greatest_of :
    (ss : List ℕ) → Rises ss → (y x : ℕ) → slice_get ss (length ss - 1) ≡ Some x
    → list_any (λ t. t == y) ss ≡ true → y ≤ x
greatest_of [] up y x read among = cc
greatest_of (s ∷ []) up y x read among = let same : s ≡ x = cc in grind (arith, nat_tests, among, same)
greatest_of (s ∷ (t ∷ ss)) up y x read among =
    let e : length (s ∷ (t ∷ ss)) - 1 ≡ suc (length (t ∷ ss) - 1) = omega arith in
    let deeper : slice_get (t ∷ ss) (length (t ∷ ss) - 1) ≡ Some x = rw e at read in
    by_first (s == y) refl among (all_read (λ u. s < u) (t ∷ ss) (length (t ∷ ss) - 1) x up.0 deeper) (greatest_of (t ∷ ss) up.1 y x deeper)
  where
    by_first :
        (b : Bool) → (s == y) ≡ b → ((s == y) || list_any (λ u. u == y) (t ∷ ss)) ≡ true → s < x
        → (list_any (λ u. u == y) (t ∷ ss) ≡ true → y ≤ x) → y ≤ x
    by_first true f h below later = let same : s ≡ y = grind (arith, nat_tests, f) in omega arith
    by_first false f h below later = later (ap (λ b. b || list_any (λ u. u == y) (t ∷ ss)) (sym f) ∙ h)

module _
    (requests : List feature_range_t) (starts : List ℕ)
    (a : AreStarts requests starts) (bounded : All EndsWithinText requests) where
  abbrev places : Begins starts
  places = begins requests starts a

  covered : (c : ℕ) → 0 < c → is_cut requests c ≡ true → list_any (λ t. t == c) places.later ≡ true
  covered c lo k =
      let e : (0 == c) ≡ false = grind (arith, nat_tests, lo) in
      let found : list_any (λ t. t == c) starts ≡ true = a.exact c ∙ ap (λ b. (c == 0) || b) k ∙ or-true (c == 0) in
      rw e at (rw places.is at found)

  last_is :
      (c : Chain) (x : ℕ)
      → last_value (flags_of requests c) x (flags_of requests c 0) places.later ≡ flags_of requests c x
  last_is c x = walk (flags_of requests c) (is_cut requests) (λ p y le none. flags_between requests c.default_flags c.features.items p y bounded le none) 0 x places.later (omega arith) places.rises.0 places.rises.1 (λ d lo hi k. covered d lo k)

  -- a cluster up to the last one is held by a range
  held :
      (c : Chain) (x p : ℕ) (ss : List ℕ) → p ≤ x → x ≤ last_cluster → Rises (p ∷ ss)
      → flags_in (map (span_range requests c) (spans (p ∷ ss))) x ≡ Some (last_value (flags_of requests c) x (flags_of requests c p) ss)
  unfolding last_value
  held c x p [] le most up = let e : holds x (span_range requests c (p, last_cluster)) ≡ true = grind (arith, nat_tests, le, most) in rw e refl
  held c x p (t ∷ ss) le most up = by_place (leb t x) refl (λ le'. held c x t ss le' most up.1)
    where
      by_place :
          (b : Bool) → leb t x ≡ b
          → (t ≤ x → flags_in (map (span_range requests c) (spans (t ∷ ss))) x ≡ Some (last_value (flags_of requests c) x (flags_of requests c t) ss))
          → flags_in (map (span_range requests c) (spans (p ∷ (t ∷ ss)))) x ≡ Some (last_value (flags_of requests c) x (cond b (flags_of requests c t) (flags_of requests c p)) ss)
      by_place true e later =
          let up_to : t ≤ x = grind (arith, nat_tests, e) in
          let past : 0 < t = omega (arith, up.0.0) in
          let not_here : holds x (span_range requests c (p, t - 1)) ≡ false = grind (arith, nat_tests, up_to, past) in
          rw not_here (later up_to)
      by_place false e later =
          let before : x < t = grind (arith, nat_tests, e) in
          let here : holds x (span_range requests c (p, t - 1)) ≡ true = grind (arith, nat_tests, before, le) in
          rw here (ap Some (sym (stays (flags_of requests c) x (flags_of requests c p) ss (above_all x t ss before up.1.0))))

  -- and so it has its flags
  has_flags :
      (c : Chain) (x : ℕ) → x ≤ last_cluster
      → flags_in (map (span_range requests c) (spans starts)) x ≡ Some (flags_of requests c x)
  has_flags c x most =
      ap (λ ss. flags_in (map (span_range requests c) (spans ss)) x) places.is
      ∙ held c x 0 places.later (omega arith) most places.rises
      ∙ ap Some (last_is c x)

  on_is : (c : Chain) (x : ℕ) → flags_on (map (span_range requests c) (spans starts)) x ≡ flags_of requests c x
  on_is c x =
      ap (λ (o : Option ℕ). unwrap_or o 0) (has_flags c (min x last_cluster) (omega arith))
      ∙ flags_past requests c.default_flags c.features.items x bounded

  list_is :
      (chains : List Chain) (k : ℕ) (c : Chain) → slice_get chains k ≡ Some c
      → list_at (compiled_lists requests chains (spans starts)) k ≡ map (span_range requests c) (spans starts)
  list_is [] k c read = cc
  list_is (b ∷ bs) zero c read = ap (λ d. map (span_range requests d) (spans starts)) (some_inside read)
    where
      some_inside : Some b ≡ Some c → b ≡ c
      some_inside e = cc
  list_is (b ∷ bs) (suc k) c read = list_is bs k c read

  -- what `flags_at` answers
  pub compiled_flags :
      (chains : List Chain) (k x : ℕ) (c : Chain) → slice_get chains k ≡ Some c → x ≤ last_cluster
      → flags_at (compiled_lists requests chains (spans starts)) k x ≡ Some (flags_of requests c x)
  compiled_flags chains k x c read most =
      ap (λ rs. flags_in rs x) (list_is chains k c read) ∙ has_flags c x most

  range_starts_are : (c : Chain) (ss : List ℕ) → range_starts (map (span_range requests c) (spans ss)) ≡ ss
  range_starts_are c [] = refl
  range_starts_are c (s ∷ []) = refl
  range_starts_are c (s ∷ (t ∷ ss)) = ap (λ xs. s ∷ xs) (range_starts_are c (t ∷ ss))

  -- where the ranges of each list begin
  pub compiled_starts :
      (chains : List Chain)
      → All (λ ranges. AreStarts requests (range_starts ranges)) (compiled_lists requests chains (spans starts))
  compiled_starts chains = All-map (λ ranges. AreStarts requests (range_starts ranges)) (λ c. map (span_range requests c) (spans starts)) chains (λ k d lt. rw (range_starts_are (get_or chains k d) starts) a)

  ends_whole : (n s : ℕ) (ss : List ℕ) → fold (λ m r. r.1 + 1) n (spans (s ∷ ss)) ≡ last_cluster + 1
  ends_whole n s [] = refl
  ends_whole n s (t ∷ ss) = ends_whole (t - 1 + 1) t ss

  whole_list : (c : Chain) → is_whole_list (map (span_range requests c) (spans starts)) ≡ true
  whole_list c =
      let e : next_start (map (span_range requests c) (spans starts)) ≡ last_cluster + 1 = after_ranges requests c 0 (spans starts) ∙ ap (λ ss. after_spans (spans ss)) places.is ∙ ends_whole 0 0 places.later in
      rw e (or-true _)

  -- each list ends at the last cluster
  pub compiled_whole :
      (chains : List Chain) → list_all is_whole_list (compiled_lists requests chains (spans starts)) ≡ true
  compiled_whole [] = refl
  compiled_whole (c ∷ cs) = rw (whole_list c, compiled_whole cs) refl

  one_range_by :
      (later : List ℕ) → starts ≡ 0 ∷ later → Rises (0 ∷ later)
      → ((c : ℕ) → 0 < c → is_cut requests c ≡ true → list_any (λ t. t == c) later ≡ true)
      → is_uncut requests ≡ (length starts == 1)
  one_range_by [] is up cover =
      all_edges (admitted requests) (λ x. false_from_ne_true (is_cut requests x) (λ k. by_zero x (x == 0) refl k))
      ∙ sym (ap (λ xs. length xs == 1) is)
    where
      by_zero : (x : ℕ) (z : Bool) → (x == 0) ≡ z → is_cut requests x ≡ true → ⊥
      by_zero x true e k = let zero_x : x ≡ 0 = grind (arith, nat_tests, e) in true_not_false (sym (rw zero_x at k) ∙ never_zero (admitted requests))
      by_zero x false e k = let lo : 0 < x = grind (arith, nat_tests, e) in true_not_false (sym (cover x lo k))
  one_range_by (s ∷ ss) is up cover =
      let lo : 0 < s = up.0.0 in
      let among : list_any (λ t. t == s) starts ≡ true = rw is (let e : (s == s) ≡ true = grind (arith, nat_tests) in let n : (0 == s) ≡ false = grind (arith, nat_tests, lo) in rw (n, e) refl) in
      let not_zero : (s == 0) ≡ false = grind (arith, nat_tests, lo) in
      let cuts : is_cut requests s ≡ true = ap (λ b. b || is_cut requests s) (sym not_zero) ∙ sym (a.exact s) ∙ among in
      edges_fail s (admitted requests) cuts ∙ sym (ap (λ xs. length xs == 1) is ∙ not_one (length ss))

  -- one range alone where nothing cuts
  one_range : is_uncut requests ≡ (length starts == 1)
  one_range = one_range_by places.later places.is places.rises covered

  -- how a compiled list switches its chain
  switch_is :
      (c : Chain)
      → switch_for (map (span_range requests c) (spans starts)) ≡ by_flags (is_uncut requests) (flags_of requests c)
  switch_is c =
      let n : length (map (span_range requests c) (spans starts)) ≡ length starts = length-map (spans starts) (span_range requests c) ∙ length-spans starts in
      let one : (length (map (span_range requests c) (spans starts)) == 1) ≡ is_uncut requests = ap (λ m. m == 1) n ∙ sym one_range in
      let some : (length (map (span_range requests c) (spans starts)) == 0) ≡ false = ap (λ m. m == 0) n ∙ ap (λ ss. length ss == 0) places.is ∙ not_none (length places.later) in
      let on : (feature_flags x : ℕ) → ((length (map (span_range requests c) (spans starts)) == 0) || meets (flags_on (map (span_range requests c) (spans starts)) x) feature_flags) ≡ meets (flags_of requests c x) feature_flags = λ feature_flags x. ap (λ b. b || meets (flags_on (map (span_range requests c) (spans starts)) x) feature_flags) some ∙ ap (λ f. meets f feature_flags) (on_is c x) in
      λ i. record { has_one_range = one i; is_on = λ feature_flags x. on feature_flags x i }

  -- and so each chain
  pub compiled_switches :
      (chains : List Chain)
      → switched_by chains (compiled_lists requests chains (spans starts)) ≡ by_requests requests chains
  compiled_switches [] = refl
  compiled_switches (c ∷ cs) = ap (λ w. with_switch w c ∷ switched_by cs (compiled_lists requests cs (spans starts))) (switch_is c) ∙ ap (λ rest. switched_at requests c ∷ rest) (compiled_switches cs)

  -- the last range begins at the last start
  pub compiled_last : (b : Builder) → IsLastSpan starts b → IsLastStart requests b.range_first
  compiled_last b l = record {
    starts = sym (a.exact b.range_first) ∙ any_at starts (length starts - 1) b.range_first l.first;
    last = λ y k. greatest_of starts (rises_from_pairs starts (AllPairs-from_increasing starts a.rising)) y b.range_first l.first (a.exact y ∙ ap (λ c. (y == 0) || c) k ∙ or-true (y == 0));
  }

  -- starts begin with 0 and rise
  pub rise_from_zero : RiseFromZero starts
  rise_from_zero = record { zero = ap (λ ss. slice_get ss 0) places.is; rising = a.rising }
