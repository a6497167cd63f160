-- A range that stands where a cluster is held is the one that is found for the cluster.
use Rattle.std.proofs.Common.{◌≡◌, ◌∙◌, ap, sym, refl, ℕ, zero, suc, ◌+◌, ◌<◌, ◌≤◌, true, false, IsTrue, List, [], ◌∷◌, length, get_or, Option, Some, find, option_map, unwrap_or, arith}
use Rattle.std.proofs.lemmas.Bool.Decides.{nat_tests}
use Rattle.std.proofs.lemmas.Option.{slice_get-get_or}
use Rattle.aat_run.specs.RangeOf.{is_held_at}
use Rattle.aat_run.specs.Ranges.{FollowFrom, IsGapless, flags_in, holds}
use Rattle.aat_run.specs.declared.ranges.range_flags_t.{range_flags_t}

-- ranges that follow from n on begin at n or behind it
begins_from : (n k : ℕ) (ranges : List range_flags_t) (d : range_flags_t) → FollowFrom n ranges → k < length ranges → n ≤ (get_or ranges k d).cluster_first
begins_from n k [] d follows within = absurd (omega arith)
begins_from n zero (r ∷ ranges) d follows within = omega (arith, follows.0)
begins_from n (suc k) (r ∷ ranges) d follows within =
    omega (arith, follows.0, follows.1, begins_from (r.cluster_last + 1) k ranges d follows.2 (omega arith))

-- a range that ends before another holds none of its clusters
passed : (r q : range_flags_t) (x : ℕ) → r.cluster_last + 1 ≤ q.cluster_first → holds x q ≡ true → holds x r ≡ false
passed r q x later inside = grind (arith, nat_tests, later, inside)

found_from : (n k x : ℕ) (ranges : List range_flags_t) (d : range_flags_t) → FollowFrom n ranges → k < length ranges → holds x (get_or ranges k d) ≡ true → find (holds x) ranges ≡ Some (get_or ranges k d)
found_from n k x [] d follows within inside = absurd (omega arith)
found_from n zero x (r ∷ ranges) d follows within inside = rw inside refl
found_from n (suc k) x (r ∷ ranges) d follows within inside =
    let later : r.cluster_last + 1 ≤ (get_or ranges k d).cluster_first = begins_from (r.cluster_last + 1) k ranges d follows.2 (omega arith) in
    let outside : holds x r ≡ false = passed r (get_or ranges k d) x later inside in
    rw outside (found_from (r.cluster_last + 1) k x ranges d follows.2 (omega arith) inside)

-- the range at a place where a cluster is held holds it
holds_there : (ranges : List range_flags_t) (k x : ℕ) (d : range_flags_t) → k < length ranges → IsTrue (is_held_at ranges k x) → holds x (get_or ranges k d) ≡ true
holds_there ranges k x d within held =
    sym (ap (λ (o : Option range_flags_t). unwrap_or (option_map (holds x) o) false) (slice_get-get_or ranges k d within)) ∙ held

-- and is found for it
pub found_there : (ranges : List range_flags_t) (k x : ℕ) (d : range_flags_t) → IsGapless ranges → k < length ranges → IsTrue (is_held_at ranges k x) → find (holds x) ranges ≡ Some (get_or ranges k d)
found_there ranges k x d gapless within held = found_from 0 k x ranges d gapless within (holds_there ranges k x d within held)

-- so its flags are those at the cluster
pub flags_there : (ranges : List range_flags_t) (k x : ℕ) (d : range_flags_t) → IsGapless ranges → k < length ranges → IsTrue (is_held_at ranges k x) → flags_in ranges x ≡ Some (get_or ranges k d).flags
flags_there ranges k x d gapless within held = ap (option_map (λ (r : range_flags_t). r.flags)) (found_there ranges k x d gapless within held)
