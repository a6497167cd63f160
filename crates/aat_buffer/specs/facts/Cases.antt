-- Choices, by their cases.
use Rattle.std.proofs.Common.{◌≡◌, Bool, true, false, cond, refl}

-- a choice, by its cases
pub chosen : {A : Type 0} (P : A → Type 0) (b : Bool) (x y : A) → (b ≡ true → P x) → (b ≡ false → P y) → P (cond b x y)
chosen P true x y f g = f refl
chosen P false x y f g = g refl

-- what both cases have, a choice has
pub either : {A B : Type 0} (f : A → B) (b : Bool) (x y : A) (z : B) → f x ≡ z → f y ≡ z → f (cond b x y) ≡ z
either f true x y z p q = p
either f false x y z p q = q
