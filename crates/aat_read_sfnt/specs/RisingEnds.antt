-- Ends that have to rise: the last points of contours.
use Rattle.std.specs.Prelude.{ℕ, Bool, ◌-◌, Option, nat_lt, nat_le, ◌&&◌, find}
use Rattle.std.specs.List.{range_with_len}

-- whether an end is not above the one before it
abbrev pub end_falls : (ℕ → ℕ) → ℕ → Bool
end_falls end_at i = nat_lt 0 i && nat_le (end_at i) (end_at (i - 1))

-- the first of so many ends that is not above the one before it
abbrev pub first_fall : (ℕ → ℕ) → ℕ → Option ℕ
first_fall end_at count = find (end_falls end_at) (range_with_len 0 count)
