-- A subtable that no range switches on is off at each cluster, and one that each range switches on is on at each.
use Rattle.std.proofs.Common.{◌≡◌, ◌∙◌, ap, sym, refl, ℕ, ◌+◌, ◌≤◌, ◌<◌, ◌||◌, ◌&&◌, not, ◌==◌, Bool, true, false, cond, min, fold, find, option_map, unwrap_or, List, [], ◌∷◌, Some, length, nat_lt, arith}
use Rattle.std.proofs.Math.Bool.{or-true}
use Rattle.std.proofs.lemmas.Bool.Decides.{nat_tests}
use Rattle.std.specs.Int.Bits.{and_zero_l}
use Rattle.std.specs.List.{list_all, list_any}
use Rattle.aat_run.specs.Ranges.{FollowFrom, IsGapless, is_driven_on, switch_for, flags_on, holds, last_cluster, next_start}
use Rattle.aat_run.specs.Switches.{meets}
use Rattle.aat_run.specs.Throughout.{is_everywhere_on, is_nowhere_on}
use Rattle.aat_run.specs.declared.ranges.range_flags_t.{range_flags_t}

-- the flags at a cluster by the ranges that hold it
abbrev flags_by : List range_flags_t → ℕ → ℕ
flags_by ranges x = unwrap_or (option_map (λ (r : range_flags_t). r.flags) (find (holds x) ranges)) 0

-- no flag is met where no range meets it
none_meets : (ranges : List range_flags_t) (flags x : ℕ) → list_any (λ (r : range_flags_t). meets r.flags flags) ranges ≡ false → meets (flags_by ranges x) flags ≡ false
none_meets [] flags x none = ap (λ k. not (k == 0)) (and_zero_l flags)
none_meets (r ∷ ranges) flags x none = by_tests (meets r.flags flags) (holds x r) refl none (none_meets ranges flags x)
  where
    by_tests : (t h : Bool) → t ≡ meets r.flags flags → (t || list_any (λ (q : range_flags_t). meets q.flags flags) ranges) ≡ false
        → (list_any (λ (q : range_flags_t). meets q.flags flags) ranges ≡ false → meets (flags_by ranges x) flags ≡ false)
        → meets (unwrap_or (option_map (λ (q : range_flags_t). q.flags) (cond h (Some r) (find (holds x) ranges))) 0) flags ≡ false
    by_tests true h same none more = absurd (grind (arith, none))
    by_tests false true same none more = sym same
    by_tests false false same none more = more none

none_of : (a b : Bool) → (not a && not b) ≡ true → b ≡ false
none_of true b off = absurd (grind (arith, off))
none_of false true off = absurd (grind (arith, off))
none_of false false off = refl

-- a machine under two ranges or more
pub driven_nowhere : (ranges : List range_flags_t) (flags : ℕ) (answer : Bool) → answer ≡ is_nowhere_on ranges flags → answer ≡ true → 2 ≤ length ranges → (x : ℕ) → is_driven_on ranges flags x ≡ false
driven_nowhere ranges flags answer is so several x =
    let off : is_nowhere_on ranges flags ≡ true = sym is ∙ so in
    let few : nat_lt (length ranges) 2 ≡ false = grind (arith, nat_tests, several) in
    rw (few, none_meets ranges flags (min x last_cluster) (none_of (length ranges == 0) _ off)) refl

some_of : (a b : Bool) → (not a && not b) ≡ true → a ≡ false
some_of true b off = absurd (grind (arith, off))
some_of false b off = refl

-- any subtable
pub switched_nowhere : (ranges : List range_flags_t) (flags : ℕ) (answer : Bool) → answer ≡ is_nowhere_on ranges flags → answer ≡ true → (x : ℕ) → (switch_for ranges).is_on flags x ≡ false
switched_nowhere ranges flags answer is so x =
    let off : is_nowhere_on ranges flags ≡ true = sym is ∙ so in
    rw (some_of (length ranges == 0) _ off, none_meets ranges flags (min x last_cluster) (none_of (length ranges == 0) _ off)) refl

-- the flags at each cluster before the end are met where each range meets them
all_meet : (n : ℕ) (ranges : List range_flags_t) (flags x : ℕ) → FollowFrom n ranges → n ≤ x → x < fold (λ m (r : range_flags_t). r.cluster_last + 1) n ranges
    → list_all (λ (r : range_flags_t). meets r.flags flags) ranges ≡ true → meets (flags_by ranges x) flags ≡ true
all_meet n [] flags x follows from before all = absurd (omega (arith, from, before))
all_meet n (r ∷ ranges) flags x follows from before all =
    by_tests (meets r.flags flags) (holds x r) refl refl all (λ later rest. all_meet (r.cluster_last + 1) ranges flags x follows.2 later before rest)
  where
    by_tests : (t h : Bool) → t ≡ meets r.flags flags → h ≡ holds x r → (t && list_all (λ (q : range_flags_t). meets q.flags flags) ranges) ≡ true
        → (r.cluster_last + 1 ≤ x → list_all (λ (q : range_flags_t). meets q.flags flags) ranges ≡ true → meets (flags_by ranges x) flags ≡ true)
        → meets (unwrap_or (option_map (λ (q : range_flags_t). q.flags) (cond h (Some r) (find (holds x) ranges))) 0) flags ≡ true
    by_tests true true same here all more = sym same
    by_tests true false same here all more = more (grind (arith, nat_tests, here, follows.0, from)) all
    by_tests false h same here all more = absurd (grind (arith, all))

all_of : (a b : Bool) → (a && b) ≡ true → (a ≡ true) × (b ≡ true)
all_of true b both = (refl, both)
all_of false b both = absurd (grind (arith, both))

-- a machine that is on everywhere need not ask its ranges
pub driven_everywhere : (ranges : List range_flags_t) (flags : ℕ) (answer : Bool) → answer ≡ is_everywhere_on ranges flags → answer ≡ true → IsGapless ranges → is_driven_on [] flags ≡ is_driven_on ranges flags
driven_everywhere ranges flags answer is so gapless =
    let both = all_of (next_start ranges == last_cluster + 1) _ (sym is ∙ so) in
    let ends : next_start ranges ≡ last_cluster + 1 = grind (arith, nat_tests, both.0) in
    let met : (x : ℕ) → meets (flags_on ranges x) flags ≡ true = λ x. all_meet 0 ranges flags (min x last_cluster) gapless (omega arith) (omega (arith, ends)) both.1 in
    let driven : (x : ℕ) → is_driven_on ranges flags x ≡ true = λ x. rw (met x) (or-true (nat_lt (length ranges) 2)) in
    λ i x. sym (driven x) i

-- any subtable that is on everywhere need not ask its ranges
pub switched_everywhere : (ranges : List range_flags_t) (flags : ℕ) (answer : Bool) → answer ≡ is_everywhere_on ranges flags → answer ≡ true → IsGapless ranges → (switch_for []).is_on flags ≡ (switch_for ranges).is_on flags
switched_everywhere ranges flags answer is so gapless =
    let both = all_of (next_start ranges == last_cluster + 1) _ (sym is ∙ so) in
    let ends : next_start ranges ≡ last_cluster + 1 = grind (arith, nat_tests, both.0) in
    let met : (x : ℕ) → meets (flags_on ranges x) flags ≡ true = λ x. all_meet 0 ranges flags (min x last_cluster) gapless (omega arith) (omega (arith, ends)) both.1 in
    let on : (x : ℕ) → (switch_for ranges).is_on flags x ≡ true = λ x. rw (met x) (or-true (length ranges == 0)) in
    λ i x. sym (on x) i
