-- Decimal numbers, summed up as far as 64 bits go.
use Rattle.std.proofs.Common.{◌≡◌, ℕ, ◌+◌, ◌-◌, ◌*◌, ◌^◌, ◌∙◌, List, [], ◌∷◌, min, refl, ap, arith, fold}
use Rattle.aat_layout.specs.features.Numbers.{decimal}

-- a number and one more digit, as far as 64 bits go
abbrev pub saturated : ℕ → ℕ → ℕ
saturated n digit = min (min (n * 10) (2 ^ 64 - 1) + (digit - 48)) (2 ^ 64 - 1)

one_more : (n digit : ℕ) → saturated (min n (2 ^ 64 - 1)) digit ≡ min (10 * n + (digit - 48)) (2 ^ 64 - 1)
one_more n digit = omega arith

from_number : (n : ℕ) (digits : List ℕ) →
    fold saturated (min n (2 ^ 64 - 1)) digits ≡ min (fold (λ m digit. 10 * m + (digit - 48)) n digits) (2 ^ 64 - 1)
from_number n [] = refl
from_number n (digit ∷ digits) =
    ap (λ m. fold saturated m digits) (one_more n digit) ∙ from_number (10 * n + (digit - 48)) digits

-- the digits summed up so are the number that they write, as far as 64 bits go
pub saturated_decimal : (digits : List ℕ) → fold saturated 0 digits ≡ min (decimal digits) (2 ^ 64 - 1)
saturated_decimal digits = from_number 0 digits
