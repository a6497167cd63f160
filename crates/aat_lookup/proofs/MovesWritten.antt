-- Arrays in which the values of rising pairs are written, one pair after the other.
use Rattle.std.proofs.Common.{◌≡◌, ℕ, ◌+◌, ◌<◌, ◌≢◌, ◌⊎◌, inl, inr, ◌==◌, List, [], ◌∷◌, length, get_or, set, take, drop, Some, None, Option, option_map, false, ◌∙◌, ap, sym, refl, arith}
use Rattle.std.specs.Option.{option_or}
use Rattle.std.specs.List.{find}
use Rattle.std.proofs.lemmas.Bool.{cases_eq}
use Rattle.std.proofs.lemmas.Bool.Decides.{nat_tests}
use Rattle.std.proofs.lemmas.Grind.{get_or-set_at}
use Rattle.std.proofs.lemmas.List.{get_or-set_other, get_or-take, length-take-le, take-append-drop, take_more}
use Rattle.std.proofs.lemmas.List.Folds.{find-append}
use Rattle.aat_lookup.specs.Keys.{first, value_in, IsRising}
use Rattle.aat_lookup.specs.inside.Dense.{is_own, keeps_one}
use Rattle.aat_lookup.specs.facts.Search.{at_key_some}
use Rattle.aat_lookup.proofs.MoveAnswers.{none_own}

module _ {X : Type 0} (xs : List X) (p : ℕ) (v d is : X) (k : ℕ) where
  by_place : p < length xs → (k ≡ p → v ≡ is) → (k ≢ p → get_or xs k d ≡ is) → (k ≡ p) ⊎ (k ≢ p) → get_or (set xs p v) k d ≡ is
  by_place lt here there (inl e) = get_or-set_at xs p k v d e lt ∙ here e
  by_place lt here there (inr ne) = get_or-set_other xs p k v d ne ∙ there ne

  -- what stands at a place once a value is written at one
  pub written : p < length xs → (k ≡ p → v ≡ is) → (k ≢ p → get_or xs k d ≡ is) → get_or (set xs p v) k d ≡ is
  written lt here there = by_place lt here there (cases_eq k p)

or_none : {X : Type 0} (o : Option X) → option_or o None ≡ o
or_none None = refl
or_none (Some x) = refl

module _ (pairs : List (ℕ × ℕ)) (rising : IsRising first pairs) (i : ℕ) (d : ℕ × ℕ) (lt : i < length pairs) (g : ℕ) where
  -- the glyph of a pair has its value among the pairs up to this one
  pub value_new : (get_or pairs i d).0 ≡ g → value_in (take (i + 1) pairs) g ≡ Some (get_or pairs i d).1
  value_new is =
      let long : length (take (i + 1) pairs) ≡ i + 1 = length-take-le (i + 1) pairs (omega arith) in
      let here : get_or (take (i + 1) pairs) i d ≡ get_or pairs i d = get_or-take (i + 1) pairs i d (omega arith) in
      let before : (j : ℕ) → j < i → first (get_or (take (i + 1) pairs) j d) ≢ g = λ j below. λ e. omega (arith, is, e, ap first (get_or-take (i + 1) pairs j d (omega arith)), rising j i d below lt) in
      ap (option_map (λ (p : ℕ × ℕ). p.1)) (at_key_some first (take (i + 1) pairs) g i d (omega (arith, long)) (ap first here ∙ is) before)
      ∙ ap (λ (p : ℕ × ℕ). Some p.1) here

  -- and another glyph the one that it has among those before it
  pub value_old : (get_or pairs i d).0 ≢ g → value_in (take (i + 1) pairs) g ≡ value_in (take i pairs) g
  value_old other =
      let has = λ (p : ℕ × ℕ). p.0 == g in
      let x = get_or pairs i d in
      let alone : find has (x ∷ []) ≡ None = grind (arith, nat_tests) in
      ap (option_map (λ (p : ℕ × ℕ). p.1)) (ap (find has) (take_more pairs i d lt) ∙ find-append has (take i pairs) (x ∷ []) ∙ ap (option_or (find has (take i pairs))) alone ∙ or_none (find has (take i pairs)))

module _ (pairs : List (ℕ × ℕ)) (n g : ℕ) (others : keeps_one (drop n pairs) ≡ false) where
  own_first :
      (a b : Option (ℕ × ℕ)) → is_own (option_map (λ (p : ℕ × ℕ). p.1) b) g ≡ false
      → is_own (option_map (λ (p : ℕ × ℕ). p.1) (option_or a b)) g ≡ is_own (option_map (λ (p : ℕ × ℕ). p.1) a) g
  own_first None b none = none
  own_first (Some p) b none = refl

  -- where no pair from one on has its glyph as value, those before it tell which glyphs have themselves
  pub own_before : is_own (value_in (take n pairs) g) g ≡ is_own (value_in pairs g) g
  own_before =
      let has = λ (p : ℕ × ℕ). p.0 == g in
      let split : find has pairs ≡ option_or (find has (take n pairs)) (find has (drop n pairs)) = ap (find has) (sym (take-append-drop n pairs)) ∙ find-append has (take n pairs) (drop n pairs) in
      sym (ap (λ (o : Option (ℕ × ℕ)). is_own (option_map (λ (p : ℕ × ℕ). p.1) o) g) split ∙ own_first (find has (take n pairs)) (find has (drop n pairs)) (none_own (drop n pairs) g others))
