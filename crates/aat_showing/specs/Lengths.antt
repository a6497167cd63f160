-- Lengths as signed numbers of 32 bits. (No chapter of the manual: this is HarfBuzz's arithmetic.)
use Rattle.std.specs.Prelude.{ℕ, ℤ, pos, int_div}
use Rattle.std.specs.Int.{cast_signed, int_wrapping_add, int_wrapping_sub, w32}

-- sums wrap modulo 2 ^ 32
unfoldable pub plus : ℤ → ℤ → ℤ
plus x y = int_wrapping_add w32 x y

-- so do differences
unfoldable pub minus : ℤ → ℤ → ℤ
minus x y = int_wrapping_sub w32 x y

-- a length as a signed number
unfoldable pub signed : ℕ → ℤ
signed length = cast_signed w32 length

-- half of a length, rounded towards 0
unfoldable pub half : ℤ → ℤ
half x = int_div x (pos 2)
