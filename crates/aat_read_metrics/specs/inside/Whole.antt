-- What is known of the tracks at an offset that have no fault.
use Rattle.std.specs.Prelude.{◌+◌, ◌*◌, ◌<◌, ◌≤◌, ℕ, List, length}
use Rattle.aat_read_metrics.specs.Trak.{size_count, sizes_place, track_count, values_place}

-- the values of each of so many tracks stand inside
abbrev pub HaveValues : List ℕ → ℕ → ℕ → ℕ → Type 0
HaveValues bytes at count size = (k : ℕ) → k < count → values_place bytes at k + size ≤ length bytes

-- the tracks at an offset are there as a whole
pub record IsWhole (bytes : List ℕ) (at : ℕ) : Type 0 where
  pub header : at + 8 ≤ length bytes
  pub entries : at + 8 + 8 * track_count bytes at ≤ length bytes
  pub sizes : sizes_place bytes at + 4 * size_count bytes at ≤ length bytes
  pub values : HaveValues bytes at (track_count bytes at) (2 * size_count bytes at)
