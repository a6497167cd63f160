-- A chain of one range in which a subtable is on at the front has it on everywhere.
use Rattle.std.proofs.Common.{◌≡◌, ◌∙◌, ap, sym, refl, ℕ, ◌||◌, ◌==◌, Bool, true, false, min, List, [], ◌∷◌, length, IsTrue, nat_lt, arith}
use Rattle.std.proofs.lemmas.Bool.Decides.{nat_tests}
use Rattle.aat_run.specs.Ranges.{IsGapless, is_whole_list, is_driven_on, switch_for, flags_on, holds, last_cluster}
use Rattle.aat_run.specs.Switches.{meets}
use Rattle.aat_run.specs.declared.ranges.range_flags_t.{range_flags_t}

-- the only range of a whole list holds each cluster
held_by_only : (r : range_flags_t) (x : ℕ) → r.cluster_first ≡ 0 → r.cluster_last ≡ last_cluster → holds (min x last_cluster) r ≡ true
held_by_only r x first last = grind (arith, nat_tests, first, last)

flags_of_only : (r : range_flags_t) (x : ℕ) → r.cluster_first ≡ 0 → r.cluster_last ≡ last_cluster → flags_on (r ∷ []) x ≡ r.flags
flags_of_only r x first last = rw (held_by_only r x first last) refl

last_of_only : (r : range_flags_t) → IsTrue (is_whole_list (r ∷ [])) → r.cluster_last ≡ last_cluster
last_of_only r whole = grind (arith, nat_tests, whole)

-- the test of the driver is the switch of the chain, where a chain of one range is on at the front
pub driven_is_switched : (ranges : List range_flags_t) (flags : ℕ) → IsGapless ranges → IsTrue (is_whole_list ranges)
    → (length ranges ≡ 1 → (switch_for ranges).is_on flags 0 ≡ true) → is_driven_on ranges flags ≡ (switch_for ranges).is_on flags
driven_is_switched [] flags gapless whole on = refl
driven_is_switched (r ∷ []) flags gapless whole on =
    let last = last_of_only r whole in
    let met : meets r.flags flags ≡ true = sym (ap (λ f. meets f flags) (flags_of_only r 0 gapless.0 last)) ∙ on refl in
    λ i x. sym (ap (λ f. meets f flags) (flags_of_only r x gapless.0 last) ∙ met) i
driven_is_switched (r ∷ (s ∷ rs)) flags gapless whole on = λ i x. more (meets (flags_on (r ∷ (s ∷ rs)) x) flags) i
  where
    few : nat_lt (length (r ∷ (s ∷ rs))) 2 ≡ false
    few = grind (arith, nat_tests)

    none : (length (r ∷ (s ∷ rs)) == 0) ≡ false
    none = grind (arith, nat_tests)

    more : (b : Bool) → (nat_lt (length (r ∷ (s ∷ rs))) 2 || b) ≡ ((length (r ∷ (s ∷ rs)) == 0) || b)
    more b = ap (λ t. t || b) few ∙ sym (ap (λ t. t || b) none)
