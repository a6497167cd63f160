-- A bisection over ranges that split the clusters.
use Rattle.std.proofs.Common.{◌≡◌, ◌∙◌, ap, refl, ℕ, zero, suc, ◌+◌, ◌-◌, ◌/◌, ◌^◌, ◌<◌, ◌≤◌, true, false, IsTrue, List, [], ◌∷◌, length, get_or, fold, Option, option_map, unwrap_or, arith}
use Rattle.std.proofs.lemmas.Bool.Decides.{nat_tests}
use Rattle.std.proofs.lemmas.Option.{slice_get-get_or}
use Rattle.aat_run.specs.RangeOf.{binary_digits, is_held_at}
use Rattle.aat_run.specs.Ranges.{FollowFrom, IsGapless, ends_at_last, holds, last_cluster, next_start}
use Rattle.aat_run.specs.declared.ranges.range_flags_t.{range_flags_t}
use Rattle.aat_run.proofs.Digits.{no_fewer, one_more}

-- what is read past the end
abbrev pub no_range : range_flags_t
no_range = record { flags = 0; cluster_first = 0; cluster_last = 0 }

-- a cluster is in one of the ranges from place low to place high, which took so many probes
pub record IsBetween (ranges : List range_flags_t) (x probes low high : ℕ) : Type 0 where
  pub ordered : low ≤ high
  pub within : high < length ranges
  pub begins : (get_or ranges low no_range).cluster_first ≤ x
  pub ends : x ≤ (get_or ranges high no_range).cluster_last
  pub few : probes + binary_digits (high - low) ≤ binary_digits (length ranges)

-- the first range begins where the ranges do
first_begins : (n : ℕ) (ranges : List range_flags_t) → FollowFrom n ranges → 0 < length ranges → (get_or ranges 0 no_range).cluster_first ≡ n
first_begins n [] follows some = absurd (omega arith)
first_begins n (r ∷ ranges) follows some = follows.0

-- each other one begins behind the one before it
next_begins : (n k : ℕ) (ranges : List range_flags_t) → FollowFrom n ranges → suc k < length ranges → (get_or ranges (suc k) no_range).cluster_first ≡ (get_or ranges k no_range).cluster_last + 1
next_begins n k [] follows within = absurd (omega arith)
next_begins n zero (r ∷ []) follows within = absurd (omega arith)
next_begins n zero (r ∷ (q ∷ ranges)) follows within = follows.2.0
next_begins n (suc k) (r ∷ ranges) follows within = next_begins (r.cluster_last + 1) k ranges follows.2 (omega arith)

-- the last one ends before the place where a next one would begin
last_ends : (n : ℕ) (r : range_flags_t) (ranges : List range_flags_t) → fold (λ m q. q.cluster_last + 1) n (r ∷ ranges) ≡ (get_or (r ∷ ranges) (length ranges) no_range).cluster_last + 1
last_ends n r [] = refl
last_ends n r (q ∷ ranges) = last_ends (r.cluster_last + 1) q ranges

last_is : (ranges : List range_flags_t) (k : ℕ) → next_start ranges ≡ last_cluster + 1 → k ≡ length ranges - 1 → (0 < length ranges) × ((get_or ranges k no_range).cluster_last ≡ last_cluster)
last_is [] k ends at = absurd (omega (arith, ends))
last_is (r ∷ ranges) k ends at =
    let same : k ≡ length ranges = omega (arith, at) in
    let there : (get_or (r ∷ ranges) k no_range).cluster_last ≡ (get_or (r ∷ ranges) (length ranges) no_range).cluster_last = ap (λ (j : ℕ). (get_or (r ∷ ranges) j no_range).cluster_last) same in
    (omega arith, omega (arith, ends, there, last_ends 0 r ranges))

ends_whole : (ranges : List range_flags_t) → IsTrue (ends_at_last ranges) → next_start ranges ≡ last_cluster + 1
ends_whole ranges whole = grind (arith, nat_tests, whole)

pub are_some : (ranges : List range_flags_t) → IsTrue (ends_at_last ranges) → 0 < length ranges
are_some ranges whole = (last_is ranges (length ranges - 1) (ends_whole ranges whole) refl).0

-- before the first probe
pub at_start : (ranges : List range_flags_t) (x : ℕ) → IsGapless ranges → IsTrue (ends_at_last ranges) → x < 2 ^ 32 → IsBetween ranges x 0 0 (length ranges - 1)
at_start ranges x gapless whole fits =
    let last = last_is ranges (length ranges - 1) (ends_whole ranges whole) refl in
    let some : 0 < length ranges = last.0 in
    let last_end : (get_or ranges (length ranges - 1) no_range).cluster_last ≡ last_cluster = last.1 in
    let start : (get_or ranges 0 no_range).cluster_first ≡ 0 = first_begins 0 ranges gapless some in
    record {
      ordered = omega arith;
      within = omega (arith, some);
      begins = omega (arith, start);
      ends = omega (arith, last_end, fits);
      few = omega (arith, no_fewer (length ranges - 1 - 0) (length ranges) (omega arith));
    }

-- the range in the middle ends before the cluster
pub behind_middle : (ranges : List range_flags_t) (x probes low high middle : ℕ) → IsGapless ranges → IsBetween ranges x probes low high → low < high → middle ≡ low + (high - low) / 2 → (get_or ranges middle no_range).cluster_last < x → IsBetween ranges x (probes + 1) (middle + 1) high
behind_middle ranges x probes low high middle gapless was apart is past =
    let inside : suc middle < length ranges = omega (arith, was.within, apart, is) in
    let next : middle + 1 ≡ suc middle = omega arith in
    let start : (get_or ranges (middle + 1) no_range).cluster_first ≡ (get_or ranges middle no_range).cluster_last + 1 = ap (λ (k : ℕ). (get_or ranges k no_range).cluster_first) next ∙ next_begins 0 middle ranges gapless inside in
    let half : binary_digits (high - (middle + 1)) ≤ binary_digits ((high - low) / 2) = no_fewer (high - (middle + 1)) ((high - low) / 2) (omega (arith, is, apart)) in
    record {
      ordered = omega (arith, is, apart);
      within = was.within;
      begins = omega (arith, start, past);
      ends = was.ends;
      few = omega (arith, was.few, half, one_more (high - low) (omega (arith, apart)));
    }

-- it does not
pub up_to_middle : (ranges : List range_flags_t) (x probes low high middle : ℕ) → IsBetween ranges x probes low high → low < high → middle ≡ low + (high - low) / 2 → x ≤ (get_or ranges middle no_range).cluster_last → IsBetween ranges x (probes + 1) low middle
up_to_middle ranges x probes low high middle was apart is reached =
    let half : binary_digits (middle - low) ≤ binary_digits ((high - low) / 2) = no_fewer (middle - low) ((high - low) / 2) (omega (arith, is)) in
    record {
      ordered = omega (arith, is);
      within = omega (arith, was.within, apart, is);
      begins = was.begins;
      ends = reached;
      few = omega (arith, was.few, half, one_more (high - low) (omega (arith, apart)));
    }

holds_inside : (r : range_flags_t) (x : ℕ) → r.cluster_first ≤ x → x ≤ r.cluster_last → holds x r ≡ true
holds_inside r x begins ends = grind (arith, nat_tests, begins, ends)

-- where one range is left it holds the cluster
pub is_held : (ranges : List range_flags_t) (x probes low high : ℕ) → IsBetween ranges x probes low high → high ≤ low → IsTrue (is_held_at ranges low x)
is_held ranges x probes low high was met =
    let same : high ≡ low = omega (arith, was.ordered, met) in
    let within : low < length ranges = omega (arith, was.within, same) in
    let ends : x ≤ (get_or ranges low no_range).cluster_last = omega (arith, was.ends, ap (λ (k : ℕ). (get_or ranges k no_range).cluster_last) same) in
    ap (λ (o : Option range_flags_t). unwrap_or (option_map (holds x) o) false) (slice_get-get_or ranges low no_range within)
    ∙ holds_inside (get_or ranges low no_range) x was.begins ends
