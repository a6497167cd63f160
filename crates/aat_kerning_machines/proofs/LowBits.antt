-- What the low 16 bits of a number are as a signed number.
use Rattle.std.proofs.Common.{◌≡◌, ℤ, pos, refl}
use Rattle.std.specs.Prelude.{unsigned_abs}
use Rattle.std.specs.Int.{cast_signed, int_rem_euclid, int_wrap, w16}

pub low_bits_wrap : (z : ℤ) → cast_signed w16 (unsigned_abs (int_rem_euclid z (pos 65536))) ≡ int_wrap w16 z
unfolding int_wrap
low_bits_wrap z = refl
