-- Truth values.
use Rattle.std.proofs.Common.{◌≡◌, refl, Bool, true, false, ◌||◌}

pub true_not_false : true ≡ false → ⊥
true_not_false h = cc

-- neither of two holds
pub or_false : (a b : Bool) → (a || b) ≡ false → (a ≡ false) × (b ≡ false)
or_false true b e = cc
or_false false b e = (refl, e)
