-- The first row that is not above the one before it, by how far rows were compared.
use Rattle.std.proofs.Common.{◌≡◌, ℕ, ◌-◌, ◌≤◌, List, [], ◌∷◌, length, get_or, drop, None, refl, sym}
use Rattle.std.proofs.lemmas.List.{drop_all}
use Rattle.aat_lookup.specs.Keys.{first_fall, fall_after}

module _ {X : Type 0} (key : X → ℕ) where
  -- a look for a fall that has come to the end has found none
  pub no_more :
      (i : ℕ) (xs : List X)
      → length xs ≤ i
      → ((d : X) → fall_after key i (key (get_or xs (i - 1) d)) (drop i xs) ≡ first_fall key xs)
      → None ≡ first_fall key xs
  no_more i [] past same = refl
  no_more i (x ∷ xs) past same = rw (sym (same x), drop_all i (x ∷ xs) past) refl
