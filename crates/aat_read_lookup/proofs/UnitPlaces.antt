-- Units stand inside where all of them do.
use Rattle.std.proofs.Common.{ℕ, ◌+◌, ◌*◌, ◌<◌, ◌≤◌, arith}
use Rattle.std.proofs.Math.Nat.{mul-le-mul_left}

-- the record of a unit stands before the end of all units
pub record_inside :
    (start size i count record_size end : ℕ)
    → i < count
    → record_size ≤ size
    → start + 12 + size * count ≤ end
    → start + 12 + size * i + record_size ≤ end
record_inside start size i count record_size end below wide inside =
    let next : i + 1 ≤ count = omega arith in omega (arith, mul-le-mul_left size next)
