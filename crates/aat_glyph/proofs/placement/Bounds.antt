-- Bounds of products and absolute values.
use Rattle.std.proofs.Common.{◌≡◌, ◌∙◌, ℕ, ◌≤◌, ◌^◌, ap, arith, FitsSigned, SFits, w64, to_z, of_z}
use Rattle.std.specs.Prelude.{ℤ, pos, negsuc, ◌+ℤ◌, ◌*ℤ◌, unsigned_abs}
use Rattle.std.proofs.lemmas.Int.{fits_signed_from_abs, fits_signed_mul, ints, to_z-of_z}
use Rattle.aat_glyph.specs.placement.inside.Within.{IsWithin}

pub abs_within : (m : ℕ) (z : ℤ) → IsWithin m z → unsigned_abs z ≤ m
abs_within m (pos n) w = omega (arith, ints, w.high)
abs_within m (negsuc n) w = omega (arith, ints, w.low)

pub within_abs : (m : ℕ) (z : ℤ) → unsigned_abs z ≤ m → IsWithin m z
within_abs m (pos n) le = record { low = omega (arith, ints); high = omega (arith, ints) }
within_abs m (negsuc n) le = record { low = omega (arith, ints); high = omega (arith, ints) }

-- a product of numbers of 64 bits that are small enough is theirs
pub product_is :
    (a b : ℤ) → SFits w64 a → SFits w64 b → IsWithin (2 ^ 16) a → IsWithin (2 ^ 33) b
    → to_z w64 (of_z w64 (to_z w64 (of_z w64 a) *ℤ to_z w64 (of_z w64 b))) ≡ a *ℤ b
product_is a b fa fb wa wb =
    let fits : FitsSigned w64 (a *ℤ b) =
    fits_signed_mul w64 a b (2 ^ 16) (2 ^ 33) (abs_within (2 ^ 16) a wa) (abs_within (2 ^ 33) b wb) (omega arith) in
    ap (λ z. to_z w64 (of_z w64 (z *ℤ to_z w64 (of_z w64 b)))) (to_z-of_z w64 a fa)
    ∙ (ap (λ z. to_z w64 (of_z w64 (a *ℤ z))) (to_z-of_z w64 b fb) ∙ to_z-of_z w64 (a *ℤ b) fits)

-- twice a number and another one fit 64 bits
pub sum_fits : (n d : ℤ) → IsWithin (2 ^ 50) n → IsWithin (2 ^ 50) d → FitsSigned w64 (n +ℤ n +ℤ d)
sum_fits n d wn wd =
    let within : IsWithin (2 ^ 53) (n +ℤ n +ℤ d) = record {
      low = omega (arith, ints, wn.low, wd.low);
      high = omega (arith, ints, wn.high, wd.high);
    } in
    let low : unsigned_abs (n +ℤ n +ℤ d) ≤ 2 ^ 53 = abs_within (2 ^ 53) (n +ℤ n +ℤ d) within in
    fits_signed_from_abs w64 (n +ℤ n +ℤ d) (omega (arith, low))
