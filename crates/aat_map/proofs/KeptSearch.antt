-- Whether kept settings, which rise by group, have a kind and a setting.
use Rattle.std.proofs.Common.{◌≡◌, ◌⊎◌, inl, inr, ⊎_elim, ℕ, zero, suc, ◌+◌, ◌-◌, ◌<◌, ◌≤◌, false, List, [], ◌∷◌, length, get_or, take, drop, sym, ap, refl, arith}
use Rattle.std.specs.List.Sorted.{IsNonDecreasingBy}
use Rattle.std.proofs.lemmas.List.{get_or-drop, length-drop, take_all, get_or_default}
use Rattle.std.proofs.lemmas.List.Sorted.{IsNonDecreasingBy-from_all_adjacent}
use Rattle.std.proofs.lemmas.Bool.Decides.{nat_tests}
use Rattle.std.proofs.lemmas.Cmp.{ranked}
use Rattle.std.specs.Ordering.{nat_cmp, ordering_then}
use Rattle.std.specs.declared.cmp.Ordering.{Ordering}
use Rattle.std.specs.declared.cmp.Ordering.TheVariants.{Less, Equal, Greater}
use Rattle.aat_map.specs.Live.{IsRisingByGroup, group_order, has_setting}
use Rattle.aat_map.specs.declared.feature.feature_info_t.{feature_info_t}

then_less :
    (o p : Ordering) → ordering_then o p ≡ Less → (o ≡ Less) ⊎ (o ≡ Equal)
then_less Less p h = inl refl
then_less Equal p h = inr refl
then_less Greater p h = cc

-- one group before another is of a kind that is no higher
no_higher : (a b : feature_info_t) → group_order a b ≡ Less → a.kind ≤ b.kind
no_higher a b h = ⊎_elim
    (λ less. omega (arith, ranked a.kind b.kind Less (sym less)))
    (λ same. omega (arith, ranked a.kind b.kind Equal (sym same)))
    (then_less (nat_cmp a.kind b.kind) _ h)

-- settings that rise by group have kinds that do not fall
pub kinds_rise : (xs : List feature_info_t) → IsRisingByGroup xs → IsNonDecreasingBy (λ i. i.kind) xs
kinds_rise xs rising =
    IsNonDecreasingBy-from_all_adjacent (λ i. i.kind) xs (λ k d lt. no_higher (get_or xs k d) (get_or xs (k + 1) d) (rising k d lt))

-- those of lower kinds have no setting of a kind
pub from_place :
    (xs : List feature_info_t) (p k s : ℕ)
    → ((i : ℕ) (d : feature_info_t) → i < p → (get_or xs i d).kind < k)
    → has_setting (drop p xs) k s ≡ has_setting xs k s
from_place xs zero k s lower = refl
from_place [] (suc p) k s lower = refl
from_place (x ∷ xs) (suc p) k s lower =
    let later = from_place xs p k s (λ i d lt. lower (suc i) d (omega arith)) in
    grind (arith, nat_tests, lower 0 x (omega arith), later)

-- those of higher kinds have none either
none_higher :
    (xs : List feature_info_t) (k s : ℕ)
    → ((i : ℕ) (d : feature_info_t) → i < length xs → k < (get_or xs i d).kind)
    → has_setting xs k s ≡ false
none_higher [] k s higher = refl
none_higher (x ∷ xs) k s higher =
    let later = none_higher xs k s (λ i d lt. higher (suc i) d (omega arith)) in
    grind (arith, nat_tests, higher 0 x (omega arith), later)

-- from one of a higher kind on there is none
pub none_from :
    (xs : List feature_info_t) (j k s : ℕ) (d : feature_info_t)
    → IsRisingByGroup xs → j < length xs → k < (get_or xs j d).kind
    → has_setting (drop j xs) k s ≡ false
none_from xs j k s d rising within above =
    none_higher (drop j xs) k s
    (λ i e lt.
    let inside : j + i < length xs = omega (arith, lt, length-drop j xs) in
    let first : (get_or xs j e).kind ≡ (get_or xs j d).kind = ap (λ x. x.kind) (get_or_default xs j e d within) in
    let risen = kinds_rise xs rising j (j + i) e (omega arith) inside in
    rw (get_or-drop j xs i e) (omega (arith, first, risen, above)))

-- settings from a place on rise as well
pub rest_rises : (xs : List feature_info_t) (n : ℕ) → IsRisingByGroup xs → IsRisingByGroup (drop n xs)
rest_rises xs n rising k d within =
    let inside : n + k + 1 < length xs = omega (arith, within, length-drop n xs) in
    let next : n + (k + 1) ≡ n + k + 1 = omega arith in
    rw (get_or-drop n xs k d, get_or-drop n xs (k + 1) d, next) (rising (n + k) d inside)

-- a slice up to the end is all from a place on
pub slice_to_end : (xs : List feature_info_t) (n : ℕ) → take (length xs - n) (drop n xs) ≡ drop n xs
slice_to_end xs n = take_all (length xs - n) (drop n xs) (omega (arith, length-drop n xs))
