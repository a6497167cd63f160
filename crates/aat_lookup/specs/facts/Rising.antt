-- Where keys rise, that of a later place is no smaller.
use Rattle.std.proofs.Common.{◌≡◌, ℕ, ◌<◌, ◌≤◌, List, length, get_or, ap, arith}
use Rattle.aat_lookup.specs.Keys.{IsRising}

module _ {X : Type 0} (key : X → ℕ) (xs : List X) (rising : IsRising key xs) where
  same_place : (i j : ℕ) (d : X) → i ≡ j → key (get_or xs i d) ≡ key (get_or xs j d)
  same_place i j d e = ap (λ q. key (get_or xs q d)) e

  -- the key of a later place is no smaller
  pub keys_rise : (i j : ℕ) (d : X) → i ≤ j → j < length xs → key (get_or xs i d) ≤ key (get_or xs j d)
  keys_rise i j d le lt = grind (arith, rising i j d, same_place i j d)
