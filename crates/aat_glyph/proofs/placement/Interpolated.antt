-- The interpolation, from the numbers that the code computes.
use Rattle.std.proofs.Common.{◌≡◌, ◌≢◌, ◌∙◌, ℕ, ◌<◌, ◌^◌, Bool, true, false, ap, arith, cond, refl, sym, SFits, w16, w32, w64, to_z, of_z}
use Rattle.std.specs.Prelude.{ℤ, pos, ◌+ℤ◌, ◌-ℤ◌, ◌*ℤ◌}
use Rattle.std.proofs.lemmas.Int.{ints, to_z-of_z, to_z_pos}
use Rattle.std.specs.Ordering.{int_eq}
use Rattle.std.proofs.lemmas.Bool.Decides.{Decides-int_eq}
use Rattle.aat_glyph.specs.placement.Interpolation.{interpolated, rounded}

-- numbers that differ are not equal
pub differs : (a b : ℤ) → a ≢ b → int_eq a b ≡ false
differs a b other = by (int_eq a b) refl
  where
    by : (t : Bool) → int_eq a b ≡ t → t ≡ false
    by true is = absurd (other ((Decides-int_eq a b).0 is))
    by false is = refl

pub interpolated_is :
    (from to low high size span way rise total level climb : ℤ) → from ≢ to → span ≡ to -ℤ from → way ≡ size -ℤ from
    → rise ≡ high -ℤ low → level ≡ low *ℤ span → climb ≡ rise *ℤ way → total ≡ level +ℤ climb
    → rounded total span ≡ interpolated from to low high size
interpolated_is from to low high size span way rise total level climb other s w r l c t =
    let product : climb ≡ (high -ℤ low) *ℤ (size -ℤ from) = c ∙ (ap (λ n. n *ℤ way) r ∙ ap (λ n. (high -ℤ low) *ℤ n) w) in
    let sum : total ≡ low *ℤ (to -ℤ from) +ℤ (high -ℤ low) *ℤ (size -ℤ from) =
    t ∙ (ap (λ n. n +ℤ climb) (l ∙ ap (λ n. low *ℤ n) s) ∙ ap (λ n. low *ℤ (to -ℤ from) +ℤ n) product) in
    ap (λ n. rounded n span) sum
    ∙ (ap (λ n. rounded (low *ℤ (to -ℤ from) +ℤ (high -ℤ low) *ℤ (size -ℤ from)) n) s
    ∙ ap (λ (b : Bool). cond b low (rounded (low *ℤ (to -ℤ from) +ℤ (high -ℤ low) *ℤ (size -ℤ from)) (to -ℤ from)))
    (sym (differs from to other)))

-- a number of fewer bits among those of 64
pub from_32 : (x : ℤ) → SFits w32 x → to_z w64 (of_z w64 (to_z w32 (of_z w32 x))) ≡ x
from_32 x fits = ap (λ z. to_z w64 (of_z w64 z)) (to_z-of_z w32 x fits) ∙ to_z-of_z w64 x (record { sfits = omega (arith, fits.sfits) })

pub from_16 : (x : ℤ) → SFits w16 x → to_z w64 (of_z w64 (to_z w16 (of_z w16 x))) ≡ x
from_16 x fits = ap (λ z. to_z w64 (of_z w64 z)) (to_z-of_z w16 x fits) ∙ to_z-of_z w64 x (record { sfits = omega (arith, fits.sfits) })

pub from_unsigned : (n : ℕ) → n < 2 ^ 32 → to_z w64 n ≡ pos n
from_unsigned n low = to_z_pos w64 n (omega arith)

pub both_are : (a a' b b' : ℤ) → a ≡ a' → b ≡ b' → a -ℤ b ≡ a' -ℤ b'
both_are a a' b b' e f = ap (λ n. n -ℤ b) e ∙ ap (λ n. a' -ℤ n) f

-- numbers that differ have a distance
pub no_distance : (a b : ℤ) → a ≢ b → b -ℤ a ≡ pos 0 → ⊥
no_distance a b other none = other (omega (arith, ints, none))
