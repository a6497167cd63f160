-- Bounds of signed numbers.
use Rattle.std.specs.Prelude.{ℕ, ℤ, pos, neg_ℤ, ◌≤ℤ◌}

-- a number is at most this far from 0
pub record IsWithin (most : ℕ) (z : ℤ) : Type 0 where
  pub low : neg_ℤ (pos most) ≤ℤ z
  pub high : z ≤ℤ pos most
