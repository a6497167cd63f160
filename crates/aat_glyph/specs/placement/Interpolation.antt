-- A value between those of two sizes. HarfBuzz computes it in floats; here it is exact.
use Rattle.std.specs.Prelude.{ℤ, pos, neg_ℤ, ◌+ℤ◌, ◌-ℤ◌, ◌*ℤ◌, int_lt, if◌then◌else◌}
use Rattle.std.specs.Int.{int_div_euclid}
use Rattle.std.specs.Ordering.{int_eq}

-- a quotient by a number above 0, rounded to the nearest number, halves up
abbrev pub nearest : ℤ → ℤ → ℤ
nearest n d = int_div_euclid (n +ℤ n +ℤ d) (d +ℤ d)

-- a quotient, rounded so
abbrev pub rounded : ℤ → ℤ → ℤ
rounded n d = if int_lt d (pos 0) then nearest (neg_ℤ n) (neg_ℤ d) else nearest n d

-- the value at a size on the straight line through the values `low` at the size `from` and `high` at `to`, rounded so;
-- `low` where the two sizes are equal
abbrev pub interpolated : ℤ → ℤ → ℤ → ℤ → ℤ → ℤ
interpolated from to low high size =
    if int_eq from to then low
    else rounded (low *ℤ (to -ℤ from) +ℤ (high -ℤ low) *ℤ (size -ℤ from)) (to -ℤ from)
