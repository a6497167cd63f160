-- Bounds of products.
use Rattle.std.proofs.Common.{◌≡◌, ◌∙◌, ℕ, ◌≤◌, ◌^◌, ap, arith, subst, sym, FitsSigned, SFits, w16, w32, w64, to_z, of_z}
use Rattle.std.specs.Prelude.{ℤ, pos, negsuc, ◌*ℤ◌, unsigned_abs}
use Rattle.std.proofs.lemmas.Int.{fits_signed_mul, ints, to_z-of_z, unsigned_abs-mul}
use Rattle.std.proofs.lemmas.Nat.{mul-le}
use Rattle.aat_read_outlines.specs.inside.Within.{IsWithin}

within_abs : (m : ℕ) (z : ℤ) → unsigned_abs z ≤ m → IsWithin m z
within_abs m (pos n) le = record { low = omega (arith, ints); high = omega (arith, ints) }
within_abs m (negsuc n) le = record { low = omega (arith, ints); high = omega (arith, ints) }

abs_16 : (z : ℤ) → SFits w16 z → unsigned_abs z ≤ 2 ^ 15
abs_16 (pos n) fits = omega (arith, ints, fits.sfits)
abs_16 (negsuc n) fits = omega (arith, ints, fits.sfits)

abs_32 : (z : ℤ) → SFits w32 z → unsigned_abs z ≤ 2 ^ 31
abs_32 (pos n) fits = omega (arith, ints, fits.sfits)
abs_32 (negsuc n) fits = omega (arith, ints, fits.sfits)

-- a number of fewer bits among those of 64
from_16 : (x : ℤ) → SFits w16 x → to_z w64 (of_z w64 (to_z w16 (of_z w16 x))) ≡ x
from_16 x fits = ap (λ z. to_z w64 (of_z w64 z)) (to_z-of_z w16 x fits) ∙ to_z-of_z w64 x (record { sfits = omega (arith, fits.sfits) })

from_32 : (x : ℤ) → SFits w32 x → to_z w64 (of_z w64 (to_z w32 (of_z w32 x))) ≡ x
from_32 x fits = ap (λ z. to_z w64 (of_z w64 z)) (to_z-of_z w32 x fits) ∙ to_z-of_z w64 x (record { sfits = omega (arith, fits.sfits) })

-- a product of a number of 16 bits and one of 32 is small
pub product_within :
    (a b : ℤ) → SFits w16 a → SFits w32 b
    → IsWithin (2 ^ 49)
    (to_z w64 (of_z w64 (to_z w64 (of_z w64 (to_z w16 (of_z w16 a))) *ℤ to_z w64 (of_z w64 (to_z w32 (of_z w32 b))))))
product_within a b fa fb =
    let fits : FitsSigned w64 (a *ℤ b) = fits_signed_mul w64 a b (2 ^ 15) (2 ^ 31) (abs_16 a fa) (abs_32 b fb) (omega arith) in
    let same =
    ap (λ z. to_z w64 (of_z w64 (z *ℤ to_z w64 (of_z w64 (to_z w32 (of_z w32 b)))))) (from_16 a fa)
    ∙ ap (λ z. to_z w64 (of_z w64 (a *ℤ z))) (from_32 b fb)
    ∙ to_z-of_z w64 (a *ℤ b) fits in
    let low : unsigned_abs (a *ℤ b) ≤ 2 ^ 49 =
    omega (arith, unsigned_abs-mul a b, mul-le (unsigned_abs a) (unsigned_abs b) (2 ^ 15) (2 ^ 31) (abs_16 a fa) (abs_32 b fb)) in
    subst (λ z. IsWithin (2 ^ 49) z) (sym same) (within_abs (2 ^ 49) (a *ℤ b) low)
