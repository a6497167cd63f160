-- How much memory a tracking table takes.
use Rattle.std.specs.Prelude.{◌≡◌, ℕ, ◌+◌, ◌*◌, ◌≤◌, List, length, Option, Ok}
use Rattle.std.specs.Option.{option_map_or}
use Rattle.aat_glyph.specs.placement.Tracks.{TrackTable, TrackingTable}
use Rattle.aat_read_metrics.specs.Trak.{trak_of}

-- how many bytes the tracks of a direction take: 4 for each size, 8 for each track and 2 for each value
abbrev pub data_size : TrackTable → ℕ
data_size t = 4 * length t.sizes + 8 * length t.tracks + 2 * length t.values

-- those of a direction, if there are any
abbrev pub part_size : Option TrackTable → ℕ
part_size part = option_map_or data_size part 0

-- how many bytes a table takes
abbrev pub table_size : TrackingTable → ℕ
table_size t = part_size t.rows + part_size t.columns

-- a table that is read takes at most 4 bytes for each of its bytes
abbrev pub TraksAreBounded : Type 0
TraksAreBounded = (bytes : List ℕ) (t : TrackingTable) → trak_of bytes ≡ Ok t → table_size t ≤ 4 * length bytes
