-- The look for a fall over a list.
use Rattle.std.proofs.Common.{◌≡◌, ℕ, ◌-◌, ◌≤◌, List, [], ◌∷◌, length, get_or, drop, None, refl, sym, ap, ◌∙◌}
use Rattle.std.proofs.lemmas.List.{drop_all}
use Rattle.aat_lookup.specs.Keys.{fall_after, first_fall}

module _ {X : Type 0} (key : X → ℕ) where
  -- a look for a fall that has come to the end has found none
  pub none_falls :
      (i : ℕ) (xs : List X)
      → length xs ≤ i
      → ((d : X) → fall_after key i (key (get_or xs (i - 1) d)) (drop i xs) ≡ first_fall key xs)
      → None ≡ first_fall key xs
  none_falls i [] past same = refl
  none_falls i (x ∷ xs) past same = sym (ap (fall_after key i (key (get_or (x ∷ xs) (i - 1) x))) (drop_all i (x ∷ xs) past)) ∙ same x
