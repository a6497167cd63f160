-- What a turn that passed the safety test tells.
use Rattle.std.proofs.Common.{◌≡◌, ◌⊎◌, inl, inr, ◌&&◌, ◌||◌, not, Bool, true, false, Option, Some, None, refl}
use Rattle.aat_lookup.specs.Truth.{is_alike, is_some_and}

-- the test, and three ways in which the second part is led as the run is
pub reads : (acts first home alike idle : Bool) → (not acts && ((first || (home || alike)) && idle)) ≡ true
    → (acts ≡ false) × (idle ≡ true) × ((first ≡ true) ⊎ ((home ≡ true) ⊎ (alike ≡ true)))
reads true first home alike idle e = absurd (cc)
reads false true home alike true e = (refl, refl, inl refl)
reads false true home alike false e = absurd (cc)
reads false false true alike true e = (refl, refl, inr (inl refl))
reads false false true alike false e = absurd (cc)
reads false false false true true e = (refl, refl, inr (inr refl))
reads false false false true false e = absurd (cc)
reads false false false false idle e = absurd (cc)

pub both : (a b : Bool) → (a && b) ≡ true → (a ≡ true) × (b ≡ true)
both true b e = (refl, e)
both false b e = absurd (cc)

pub none_of : (a : Bool) → not a ≡ true → a ≡ false
none_of true e = absurd (cc)
none_of false e = refl

-- an option that passes a test has something that does
pub found : {X : Type 0} (o : Option X) (test : X → Bool) → is_some_and o test ≡ true → (x : X) × (o ≡ Some x) × (test x ≡ true)
found None test e = absurd (cc)
found (Some x) test e = (x, refl, e)

pub alike_is : (a b : Bool) → is_alike a b ≡ true → a ≡ b
alike_is true true e = refl
alike_is true false e = absurd (cc)
alike_is false true e = absurd (cc)
alike_is false false e = refl
