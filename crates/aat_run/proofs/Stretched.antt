-- All clusters of a range are switched as one of them is.
use Rattle.std.proofs.Common.{◌≡◌, ◌∙◌, ap, sym, subst, refl, ℕ, ◌+◌, ◌≤◌, ◌||◌, Bool, true, false, cond, List, [], ◌∷◌, length, min, Option, Some, find, option_map, unwrap_or, nat_eq, arith}
use Rattle.std.proofs.lemmas.Bool.Decides.{nat_tests}
use Rattle.aat_run.specs.Ranges.{FollowFrom, IsGapless, flags_on, holds, last_cluster, switch_for}
use Rattle.aat_run.specs.Switches.{meets}
use Rattle.aat_run.specs.declared.ranges.range_flags_t.{range_flags_t}

-- what two options hold is the same where they are
held_same : (q r : range_flags_t) → Some q ≡ Some r → q ≡ r
held_same q r h = ap (λ (o : Option range_flags_t). unwrap_or o q) h

-- a range that is found for a cluster holds it
pub found_holds : (x : ℕ) (ranges : List range_flags_t) (r : range_flags_t) → find (holds x) ranges ≡ Some r → holds x r ≡ true
found_holds x [] r found = cc
found_holds x (q ∷ qs) r found = by_case (holds x q) refl (found_holds x qs r) found
  where
    by_case :
        (b : Bool) → holds x q ≡ b → (find (holds x) qs ≡ Some r → holds x r ≡ true)
        → cond b (Some q) (find (holds x) qs) ≡ Some r → holds x r ≡ true
    by_case true inside later h = sym (ap (holds x) (held_same q r h)) ∙ inside
    by_case false outside later h = later h

-- a range that is found among ranges from n on begins there or behind it
found_begins : (n x : ℕ) (ranges : List range_flags_t) (r : range_flags_t) → FollowFrom n ranges → find (holds x) ranges ≡ Some r → n ≤ r.cluster_first
found_begins n x [] r follows found = cc
found_begins n x (q ∷ qs) r follows found =
    by_case (holds x q) (found_begins (q.cluster_last + 1) x qs r follows.2) found
  where
    by_case :
        (b : Bool) → (find (holds x) qs ≡ Some r → q.cluster_last + 1 ≤ r.cluster_first)
        → cond b (Some q) (find (holds x) qs) ≡ Some r → n ≤ r.cluster_first
    by_case true later h = subst (λ (s : range_flags_t). n ≤ s.cluster_first) (held_same q r h) (omega (arith, follows.0))
    by_case false later h = omega (arith, follows.0, follows.1, later h)

-- a range that is found for a cluster is found for each that it holds
found_alike : (n x y : ℕ) (ranges : List range_flags_t) (r : range_flags_t) → FollowFrom n ranges → find (holds x) ranges ≡ Some r → holds y r ≡ true → find (holds y) ranges ≡ Some r
found_alike n x y [] r follows found inside = cc
found_alike n x y (q ∷ qs) r follows found inside =
    by_case (holds x q) (λ h. found_alike (q.cluster_last + 1) x y qs r follows.2 h inside) found
  where
    by_case :
        (b : Bool) → (find (holds x) qs ≡ Some r → find (holds y) qs ≡ Some r)
        → cond b (Some q) (find (holds x) qs) ≡ Some r → find (holds y) (q ∷ qs) ≡ Some r
    by_case true later h =
        let same : q ≡ r = held_same q r h in
        let here : holds y q ≡ true = ap (holds y) same ∙ inside in
        rw here h
    by_case false later h =
        let begins : q.cluster_last + 1 ≤ r.cluster_first = found_begins (q.cluster_last + 1) x qs r follows.2 h in
        let outside : holds y q ≡ false = grind (arith, nat_tests, begins, inside) in
        rw outside (later h)

-- a number within bounds is within them too where it is cut at another that is
cut_within : (a b n m : ℕ) → a ≤ n → n ≤ b → a ≤ m → (a ≤ min n m) × (min n m ≤ b)
cut_within a b n m low high above = (omega (arith, low, above), omega (arith, high))

-- a subtable is on at each cluster of the range of one, or off at each
pub switched_alike :
    (ranges : List range_flags_t) (f x y : ℕ) (r : range_flags_t)
    → IsGapless ranges → find (holds x) ranges ≡ Some r → x ≤ last_cluster
    → r.cluster_first ≤ y → y ≤ r.cluster_last
    → (switch_for ranges).is_on f y ≡ meets r.flags f
switched_alike [] f x y r gapless found known first last = cc
switched_alike (q ∷ qs) f x y r gapless found known first last =
    let held = found_holds x (q ∷ qs) r found in
    let low : r.cluster_first ≤ last_cluster = grind (arith, nat_tests, held, known) in
    let cut = cut_within r.cluster_first r.cluster_last y last_cluster first last low in
    let inside : holds (min y last_cluster) r ≡ true = grind (arith, nat_tests, cut.0, cut.1) in
    let flags : flags_on (q ∷ qs) y ≡ r.flags =
    ap (λ (o : Option range_flags_t). unwrap_or (option_map (λ (s : range_flags_t). s.flags) o) 0)
    (found_alike 0 x (min y last_cluster) (q ∷ qs) r gapless found inside)
    in
    let some : nat_eq (length (q ∷ qs)) 0 ≡ false = grind (arith, nat_tests) in
    ap (λ (b : Bool). b || meets (flags_on (q ∷ qs) y) f) some ∙ ap (λ n. meets n f) flags
