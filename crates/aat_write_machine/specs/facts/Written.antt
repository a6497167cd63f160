-- What is known where something was written.
use Rattle.std.proofs.Common.{◌≡◌, ℕ, List, Bool, true, false, Option, Some, None, Ok, refl}
use Rattle.aat_write_machine.specs.WriteErrors.{unless_refused}

-- no element fell, they are not too many, and the bytes are those that were made
pub written_is :
    (fall : Option ℕ) (many : Bool) (made bytes : List ℕ)
    → unless_refused fall many made ≡ Ok bytes
    → (fall ≡ None) × (many ≡ false) × (made ≡ bytes)
written_is (Some place) many made bytes is = absurd (let wrong : ⊥ = cc in wrong)
written_is None true made bytes is = absurd (let wrong : ⊥ = cc in wrong)
written_is None false made bytes is = (refl, refl, cc)
