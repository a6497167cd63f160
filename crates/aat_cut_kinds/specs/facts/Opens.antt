-- Marks and moves open no cluster: what is open behind them was open before.
use Rattle.std.proofs.Common.{◌≡◌, ◌≢◌, ◌∙◌, ◌⊎◌, inl, inr, ℕ, ◌-◌, ◌<◌, ◌≤◌, true, List, ◌++◌, length, take, drop, Option, Some, refl, ap, sym, arith, length-append}
use Rattle.std.proofs.lemmas.Bool.{and_from, and_parts, cases_eq}
use Rattle.std.proofs.lemmas.Bool.Decides.{nat_tests}
use Rattle.std.proofs.lemmas.List.{get_or_append_left, get_or-append_right, get_or_default, length-map}
use Rattle.std.proofs.lemmas.List.Folds.{Any-from_list_any, list_any_at}
use Rattle.std.proofs.lemmas.List.Sorted.{All-permutation, IsPermutation-append_left, IsPermutation-append_right, IsPermutation-sym, list_any-IsPermutation}
use Rattle.std.proofs.lemmas.List.Sums.{AllPass-from_list_all, list_all-from_AllPass}
use Rattle.std.specs.List.{Any, list_all, list_any}
use Rattle.std.specs.Prelude.{All, IsPermutation, bit_and, slice_range}
use Rattle.aat_buffer.specs.Buffer.{Buffer, glyph_at, no_glyph}
use Rattle.aat_buffer.specs.Clusters.{IsFallingLine, IsOrdered, IsRisingLine}
use Rattle.aat_buffer.specs.Marks.{cluster_at, on_span, unsafe_to_break}
use Rattle.aat_buffer.specs.facts.Clusters.{three_parts}
use Rattle.aat_glyph.specs.declared.glyph.hb_glyph_info_t.{hb_glyph_info_t}
use Rattle.aat_cut_kinds.specs.Greater.{IsUnflagged, clusters}
use Rattle.aat_cut_kinds.specs.Open.{is_of, is_open, is_unmarked_for}
use Rattle.aat_cut_kinds.specs.facts.Flags.{IsCalm, calm_unsafe}
use Rattle.aat_cut_kinds.specs.facts.MarksOnly.{of_unsafe, same_at}
use Rattle.aat_cut_kinds.specs.facts.SpanFlags.{unsafe_flags}

-- a cluster of a line is open
pub record IsOpenLine (c : ℕ) (line : List hb_glyph_info_t) : Type 0 where
  pub place : ℕ
  pub inside : place < length line
  pub at : cluster_at line place ≡ c
  pub unflagged : (k : ℕ) → k < length line → cluster_at line k ≡ c → IsUnflagged (glyph_at line k)

-- what the test of a glyph tells
free : (c : ℕ) (g : hb_glyph_info_t) → is_unmarked_for c g ≡ true → g.cluster ≡ c → IsUnflagged g
free c g is at = grind (arith, nat_tests)

freed : (c : ℕ) (g : hb_glyph_info_t) → (g.cluster ≡ c → IsUnflagged g) → is_unmarked_for c g ≡ true
freed c g each = by_cluster (cases_eq g.cluster c)
  where
    by_cluster : ((g.cluster ≡ c) ⊎ (g.cluster ≢ c)) → is_unmarked_for c g ≡ true
    by_cluster (inl at) = let none : bit_and g.mask 1 ≡ 0 = each at in grind (arith, nat_tests)
    by_cluster (inr other) = grind (arith, nat_tests)

pub opened : (c : ℕ) (line : List hb_glyph_info_t) → is_open c line ≡ true → IsOpenLine c line
opened c line is =
    let parts = and_parts (list_any (is_of c) line) (list_all (is_unmarked_for c) line) is in
    let some : Any (λ (g : hb_glyph_info_t). is_of c g ≡ true) line = Any-from_list_any (is_of c) line parts.0 in
    let each : All (λ (g : hb_glyph_info_t). is_unmarked_for c g ≡ true) line = AllPass-from_list_all (is_unmarked_for c) line parts.1 in
    let read : cluster_at line some.0 ≡ some.1.cluster = ap (λ (g : hb_glyph_info_t). g.cluster) (get_or_default line some.0 no_glyph some.1 some.2 ∙ some.3) in
    let test : is_of c some.1 ≡ true = some.4 in
    let same : some.1.cluster ≡ c = grind (arith, nat_tests, test) in
    record {
      place = some.0;
      inside = some.2;
      at = read ∙ same;
      unflagged = λ k inside at. free c (glyph_at line k) (each k no_glyph inside) at;
    }

pub is_opened : (c : ℕ) (line : List hb_glyph_info_t) → IsOpenLine c line → is_open c line ≡ true
is_opened c line o =
    let at : cluster_at line o.place ≡ c = o.at in
    let test : is_of c (glyph_at line o.place) ≡ true = grind (arith, nat_tests, at) in
    and_from (list_any (is_of c) line) (list_all (is_unmarked_for c) line) (list_any_at (is_of c) line o.place no_glyph o.inside test)
    (list_all-from_AllPass (is_unmarked_for c) line
    (λ k d within. rw (get_or_default line k d no_glyph within) (freed c (glyph_at line k) (o.unflagged k within))))

-- where clusters stay, and a mask gains marks, no cluster opens
pub steady_open : (c : ℕ) (old new : List hb_glyph_info_t) → clusters new ≡ clusters old → IsCalm old new → is_open c new ≡ true → is_open c old ≡ true
steady_open c old new same calm is =
    let o = opened c new is in
    let cluster : hb_glyph_info_t → ℕ = λ g. g.cluster in
    let long : length new ≡ length old = sym (length-map new cluster) ∙ (ap length same ∙ length-map old cluster) in
    let within = o.inside in
    is_opened c old (record {
      place = o.place;
      inside = omega (arith, long, within);
      at = sym (same_at cluster new old o.place same) ∙ o.at;
      unflagged = λ k inside at. calm k (o.unflagged k (omega (arith, long, inside)) (same_at cluster new old k same ∙ at));
    })

-- marks open no cluster
pub unsafe_open : (c : ℕ) (b : Buffer) (i j : Option ℕ) → is_open c (unsafe_to_break b i j).line ≡ true → is_open c b.line ≡ true
unsafe_open c b i j = steady_open c b.line (unsafe_to_break b i j).line (of_unsafe (λ (g : hb_glyph_info_t). g.cluster) (λ bits g. refl) b i j) (calm_unsafe b i j)

-- a mark over a glyph of a cluster and one of a lower cluster closes the greater
pub over_two : (c i j a n : ℕ) (b : Buffer) → i ≤ a → a < j → i ≤ n → n < j → a < length b.line → n < length b.line → cluster_at b.line a < c → cluster_at b.line n ≡ c
    → is_open c (unsafe_to_break b (Some i) (Some j)).line ≡ true → ⊥
over_two c i j a n b from to from_n to_n within within_n low at is =
    let new = (unsafe_to_break b (Some i) (Some j)).line in
    let cluster : hb_glyph_info_t → ℕ = λ g. g.cluster in
    let same = of_unsafe cluster (λ bits g. refl) b (Some i) (Some j) in
    let long : length new ≡ length b.line = sym (length-map new cluster) ∙ (ap length same ∙ length-map b.line cluster) in
    let lower : cluster_at b.line a < cluster_at b.line n = omega (arith, low, at) in
    let apart : a ≢ n = λ one. absurd (let equal : cluster_at b.line a ≡ cluster_at b.line n = ap (λ k. cluster_at b.line k) one in omega (arith, equal, lower)) in
    unsafe_flags i j a n b from to from_n to_n apart within within_n lower
    ((opened c new is).unflagged n (omega (arith, long, within_n)) (same_at cluster new b.line n same ∙ at))

-- A line, and another one behind it
module _ (gs hs : List hb_glyph_info_t) where
  of_first : (P : ℕ → Type 0) → All (λ (g : hb_glyph_info_t). P g.cluster) gs → (k : ℕ) → k < length gs → P (cluster_at (gs ++ hs) k)
  of_first P all k below =
      let read : cluster_at (gs ++ hs) k ≡ cluster_at gs k = ap (λ (g : hb_glyph_info_t). g.cluster) (get_or_append_left gs hs no_glyph k below) in
      rw read (all k no_glyph below)

  of_second : (P : ℕ → Type 0) → All (λ (g : hb_glyph_info_t). P g.cluster) hs → (k : ℕ) → length gs ≤ k → k < length (gs ++ hs) → P (cluster_at (gs ++ hs) k)
  of_second P all k above within =
      let read : cluster_at (gs ++ hs) k ≡ cluster_at hs (k - length gs) = ap (λ (g : hb_glyph_info_t). g.cluster) (get_or-append_right gs hs (length gs) k no_glyph refl above) in
      rw read (all (k - length gs) no_glyph (omega (arith, length-append gs hs, above, within)))

-- clusters in an order along a line, also at one place
pub along : (R : ℕ → ℕ → Type 0) → ((x : ℕ) → R x x) → (line : List hb_glyph_info_t) → IsOrdered R line → (k n : ℕ) → k ≤ n → n < length line → R (cluster_at line k) (cluster_at line n)
along R same line ordered k n before within = by_place (cases_eq k n)
  where
    by_place : ((k ≡ n) ⊎ (k ≢ n)) → R (cluster_at line k) (cluster_at line n)
    by_place (inl is) = rw is (same (cluster_at line n))
    by_place (inr other) = ordered k n no_glyph (omega (arith, before, other)) within

-- where a line rises from clusters below c to clusters from c on, a mark over the place between closes c
pub over_rise : (c : ℕ) (gs hs : List hb_glyph_info_t) (b : Buffer) (i j : ℕ) → All (λ (g : hb_glyph_info_t). g.cluster < c) gs → All (λ (g : hb_glyph_info_t). c ≤ g.cluster) hs → IsRisingLine (gs ++ hs) → b.line ≡ gs ++ hs
    → i < length gs → length gs < j → 0 < length hs → is_open c (unsafe_to_break b (Some i) (Some j)).line ≡ true → ⊥
over_rise c gs hs b i j low high rising line before behind some is =
    let o = opened c (gs ++ hs) (rw line at (unsafe_open c b (Some i) (Some j) is)) in
    let long = length-append gs hs in
    let at : cluster_at (gs ++ hs) o.place ≡ c = o.at in
    let inside : o.place < length (gs ++ hs) = o.inside in
    let beyond : o.place < length gs → ⊥ = λ below. absurd (let less = of_first gs hs (λ x. x < c) low o.place below in omega (arith, less, at)) in
    let after : length gs ≤ o.place = omega (arith, beyond) in
    let first : cluster_at (gs ++ hs) (length gs) ≤ cluster_at (gs ++ hs) o.place = along (λ x y. x ≤ y) (λ x. omega arith) (gs ++ hs) rising (length gs) o.place after inside in
    let least : c ≤ cluster_at (gs ++ hs) (length gs) = of_second gs hs (λ x. c ≤ x) high (length gs) (omega arith) (omega (arith, long, some)) in
    let lower : cluster_at (gs ++ hs) (length gs - 1) < c = of_first gs hs (λ x. x < c) low (length gs - 1) (omega (arith, before)) in
    over_two c i j (length gs - 1) (length gs) b (omega (arith, before)) (omega (arith, behind)) (omega (arith, before)) behind
    (rw line (omega (arith, long, before))) (rw line (omega (arith, long, some))) (rw line lower) (rw line (omega (arith, first, least, at))) is

-- and where it falls from clusters from c on to clusters below c, too
pub over_fall : (c : ℕ) (gs hs : List hb_glyph_info_t) (b : Buffer) (i j : ℕ) → All (λ (g : hb_glyph_info_t). c ≤ g.cluster) gs → All (λ (g : hb_glyph_info_t). g.cluster < c) hs → IsFallingLine (gs ++ hs) → b.line ≡ gs ++ hs
    → i < length gs → length gs < j → 0 < length hs → is_open c (unsafe_to_break b (Some i) (Some j)).line ≡ true → ⊥
over_fall c gs hs b i j high low falling line before behind some is =
    let o = opened c (gs ++ hs) (rw line at (unsafe_open c b (Some i) (Some j) is)) in
    let long = length-append gs hs in
    let at : cluster_at (gs ++ hs) o.place ≡ c = o.at in
    let inside : o.place < length (gs ++ hs) = o.inside in
    let beyond : length gs ≤ o.place → ⊥ = λ above. absurd (let less = of_second gs hs (λ x. x < c) low o.place above inside in omega (arith, less, at)) in
    let ahead : o.place < length gs = omega (arith, beyond) in
    let last : cluster_at (gs ++ hs) (length gs - 1) ≤ cluster_at (gs ++ hs) o.place = along (λ x y. y ≤ x) (λ x. omega arith) (gs ++ hs) falling o.place (length gs - 1) (omega (arith, ahead)) (omega (arith, long, before)) in
    let least : c ≤ cluster_at (gs ++ hs) (length gs - 1) = of_first gs hs (λ x. c ≤ x) high (length gs - 1) (omega (arith, before)) in
    let lower : cluster_at (gs ++ hs) (length gs) < c = of_second gs hs (λ x. x < c) low (length gs) (omega arith) (omega (arith, long, some)) in
    over_two c i j (length gs) (length gs - 1) b (omega (arith, before)) behind (omega (arith, before)) (omega (arith, behind))
    (rw line (omega (arith, long, some))) (rw line (omega (arith, long, before))) (rw line lower) (rw line (omega (arith, last, least, at))) is

-- glyphs in another order open no cluster
pub permuted_open : (c : ℕ) (old new : List hb_glyph_info_t) → IsPermutation old new → is_open c new ≡ true → is_open c old ≡ true
permuted_open c old new permutes is =
    let parts = and_parts (list_any (is_of c) new) (list_all (is_unmarked_for c) new) is in
    and_from (list_any (is_of c) old) (list_all (is_unmarked_for c) old) (list_any-IsPermutation (is_of c) old new permutes ∙ parts.0)
    (list_all-from_AllPass (is_unmarked_for c) old (All-permutation (λ g. is_unmarked_for c g ≡ true) new old (IsPermutation-sym old new permutes) (AllPass-from_list_all (is_unmarked_for c) new parts.1)))

-- nor do those of a span
pub moved_open : (c : ℕ) (f : List hb_glyph_info_t → List hb_glyph_info_t) (i j : ℕ) (line : List hb_glyph_info_t) → i ≤ j → IsPermutation (slice_range line i j) (f (slice_range line i j))
    → is_open c (on_span f i j line) ≡ true → is_open c line ≡ true
moved_open c f i j line low permutes =
    let span = slice_range line i j in
    let a = take i line in
    let d = drop j line in
    let whole : IsPermutation (a ++ (span ++ d)) (a ++ (f span ++ d)) = IsPermutation-append_right a (span ++ d) (f span ++ d) (IsPermutation-append_left d span (f span) permutes) in
    permuted_open c line (on_span f i j line) (rw (three_parts i j line low) at whole)
