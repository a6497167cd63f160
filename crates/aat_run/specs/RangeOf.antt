-- Where the range stands that holds a cluster, and how many digits a number has.
use Rattle.std.specs.Prelude.{ℕ, Bool, false, List, length, option_map, slice_get, unwrap_or}
use Rattle.std.specs.Int.Digits.{digits_of}
use Rattle.aat_run.specs.Ranges.{holds}
use Rattle.aat_run.specs.declared.ranges.range_flags_t.{range_flags_t}

-- the range at a place holds a cluster; past the end there is none
abbrev pub is_held_at : List range_flags_t → ℕ → ℕ → Bool
is_held_at ranges place x = unwrap_or (option_map (holds x) (slice_get ranges place)) false

-- how many binary digits a number has, none for 0
unfoldable pub binary_digits : ℕ → ℕ
binary_digits n = length (digits_of 2 n)
