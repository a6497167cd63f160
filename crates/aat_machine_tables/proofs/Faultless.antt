-- Rules that rise and have classes below the count have no fault.
use Rattle.std.proofs.Common.{◌≡◌, ℕ, zero, suc, ◌+◌, ◌<◌, ◌≤◌, ◌⊎◌, inl, inr, List, [], ◌∷◌, length, get_or, None, ◌∙◌, ap, refl, arith}
use Rattle.std.specs.List.{position_or_len}
use Rattle.std.specs.Prelude.{nat_le}
use Rattle.std.proofs.lemmas.Bool.{cases_lt}
use Rattle.std.proofs.lemmas.Bool.Decides.{nat_tests}
use Rattle.std.proofs.lemmas.List.{get_or_read}
use Rattle.aat_lookup.specs.Keys.{IsRising, fall_after, first_fall}
use Rattle.aat_machine_tables.specs.Table.{Rule, earlier_fault, first_out_of_range, rule_key, rules_fault}
use Rattle.aat_machine_tables.specs.inside.Grid.{AreFaultless}

module _ {X : Type 0} (key : X → ℕ) where
  no_fall_after : (n : ℕ) (x : X) (xs : List X) → IsRising key (x ∷ xs) → fall_after key n (key x) xs ≡ None
  no_fall_after n x [] rising = refl
  no_fall_after n x (y ∷ ys) rising =
      let above : key x < key y = rising 0 1 x (omega arith) (omega arith) in
      let later = no_fall_after (n + 1) y ys (λ i j d lt below. rising (suc i) (suc j) d (omega arith) (omega arith)) in
      grind (arith, nat_tests, above, later)

  no_fall : (xs : List X) → IsRising key xs → first_fall key xs ≡ None
  no_fall [] rising = refl
  no_fall (x ∷ xs) rising = no_fall_after 1 x xs rising

module _ {E : Type 0} (count : ℕ) where
  all_within : (rules : List (Rule E)) → ((i : ℕ) (d : Rule E) → i < length rules → (get_or rules i d).1 < count)
      → position_or_len (λ (r : Rule E). nat_le count r.1) rules ≡ length rules
  all_within [] below = refl
  all_within (r ∷ rules) below =
      let later = all_within rules (λ i d lt. below (suc i) d (omega arith)) in
      let here = below 0 r (omega arith) in
      grind (arith, nat_tests, here, later)

  in_range : (rules : List (Rule E)) → ((i : ℕ) (d : Rule E) → i < length rules → (get_or rules i d).1 < count)
      → first_out_of_range count rules ≡ None
  in_range rules below = let all = all_within rules below in grind (arith, nat_tests, all)

module _ {E : Type 0} (count : ℕ) (rules : List (Rule E)) (place lowest : ℕ) where
  -- rules of which all are without a fault
  pub no_fault : length rules ≤ place → AreFaultless count rules place lowest → rules_fault count rules ≡ None
  no_fault past all =
      let rise : IsRising rule_key rules = λ i j d lt below. (all j d (omega arith)).2 i lt in
      let within = in_range count rules (λ i d lt. (all i d (omega arith)).1) in
      ap (λ fall. earlier_fault fall (first_out_of_range count rules)) (no_fall rule_key rules rise) ∙ ap (earlier_fault None) within

  module _ (next : ℕ) (rule : Rule E) (within : place < length rules) (read : rule ≡ get_or rules place rule)
      (before : AreFaultless count rules place lowest) (above : lowest ≤ rule_key rule) (class : rule.1 < count)
      (is : rule_key rule < next) where
    here : (d : Rule E) → rule ≡ get_or rules place d
    here d = get_or_read rules place rule within read d

    by_place :
        (i : ℕ) (d : Rule E) → (i < place) ⊎ (place ≤ i) → i < place + 1
        → (rule_key (get_or rules i d) < next) × ((get_or rules i d).1 < count)
        × ((j : ℕ) → j < i → rule_key (get_or rules j d) < rule_key (get_or rules i d))
    by_place i d (inl lt) below = let earlier = before i d lt in (omega (arith, earlier.0, above, is), earlier.1, earlier.2)
    by_place i d (inr le) below =
        let same : place ≡ i = omega (arith, le, below) in
        let there : rule ≡ get_or rules i d = here d ∙ ap (λ (k : ℕ). get_or rules k d) same in (
          rw (← there) is,
          rw (← there) class,
          λ j lt. rw (← there) (omega (arith, above, (before j d (omega arith)).0)),
        )

    -- one rule more
    pub faultless_more : AreFaultless count rules (place + 1) next
    faultless_more i d below = by_place i d (cases_lt i place) below
