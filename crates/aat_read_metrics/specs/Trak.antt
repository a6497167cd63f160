-- What the bytes of the tracking table say. Apple's TrueType Reference Manual, "The 'trak' table".
use Rattle.std.specs.Prelude.{ℕ, ℤ, ◌+◌, ◌*◌, ◌-◌, ◌/◌, ◌==◌, List, length, map, find, not, Bool, Option, Some, None, Result, Ok, Err, if◌then◌else◌, nat_lt, nat_le, option_map}
use Rattle.std.specs.Int.{cast_signed, w32}
use Rattle.std.specs.List.{flat_map, range_with_len}
use Rattle.std.specs.Option.{option_or}
use Rattle.aat_bytes.specs.Faults.{fault_at}
use Rattle.aat_bytes.specs.Numbers.{be16, be32, signed16}
use Rattle.aat_bytes.specs.declared.error.Fault.{Fault}
use Rattle.aat_bytes.specs.declared.error.FaultKind.TheVariants.{PastEnd, UnknownFormat}
use Rattle.aat_bytes.specs.declared.tags.TheConstants.{TRAK}
use Rattle.aat_glyph.specs.placement.Tracks.{TrackTable, TrackingTable}
use Rattle.aat_glyph.specs.declared.placement.track_data.Track.{Track}

-- a number of 32 bits taken as signed, in two's complement
abbrev pub signed32 : ℕ → ℤ
signed32 number = cast_signed w32 number

-- the fault of what is not there as a whole at a place
abbrev pub past : ℕ → Fault
past place = fault_at TRAK PastEnd place

-- whether so many bytes stand at a place
abbrev pub reaches : List ℕ → ℕ → ℕ → Bool
reaches bytes place size = nat_le (place + size) (length bytes)

-- the fault of the header of 12 bytes, of version 1 and format 0
abbrev pub header_fault : List ℕ → Option Fault
header_fault bytes =
    if nat_lt (length bytes) 12 then Some (past 0) else
    (if be16 bytes 0 == 1 then
    (if be16 bytes 4 == 0 then None else Some (fault_at TRAK UnknownFormat 4)) else
    Some (fault_at TRAK UnknownFormat 0))

-- the tracks of a direction stand at an offset: their number, that of the sizes, the offset of the sizes, and entries
abbrev pub track_count : List ℕ → ℕ → ℕ
track_count bytes at = be16 bytes at

-- the number of sizes
abbrev pub size_count : List ℕ → ℕ → ℕ
size_count bytes at = be16 bytes (at + 2)

-- the place of the sizes
abbrev pub sizes_place : List ℕ → ℕ → ℕ
sizes_place bytes at = be32 bytes (at + 4)

-- the place of the entry of a track: its track value, its name, and the offset of its values
abbrev pub entry_place : ℕ → ℕ → ℕ
entry_place at k = at + 8 + 8 * k

-- the place of the values of a track
abbrev pub values_place : List ℕ → ℕ → ℕ → ℕ
values_place bytes at k = be16 bytes (entry_place at k + 6)

-- the first of so many tracks whose values are not there as a whole
abbrev pub first_outside : List ℕ → ℕ → ℕ → ℕ → Option ℕ
first_outside bytes at count size =
    find (λ k. not (reaches bytes (values_place bytes at k) size)) (range_with_len 0 count)

-- the fault of so many tracks and sizes at an offset: entries, sizes, more values than the bytes have room for, each
-- track's counted, and values
abbrev pub lists_fault : List ℕ → ℕ → ℕ → ℕ → Option Fault
lists_fault bytes at tracks sizes =
    if reaches bytes (at + 8) (8 * tracks) then
    (if reaches bytes (sizes_place bytes at) (4 * sizes) then
    (if nat_lt (length bytes) (tracks * (8 + 2 * sizes)) then Some (past at) else
    option_map (λ k. past (values_place bytes at k)) (first_outside bytes at tracks (2 * sizes))) else
    Some (past (sizes_place bytes at))) else
    Some (past (at + 8 + 8 * ((length bytes - (at + 8)) / 8)))

-- the fault of the tracks at an offset
abbrev pub data_fault : List ℕ → ℕ → Option Fault
data_fault bytes at =
    if reaches bytes at 8 then lists_fault bytes at (track_count bytes at) (size_count bytes at) else Some (past at)

-- an offset of 0 is that of no tracks
abbrev pub part_fault : List ℕ → ℕ → Option Fault
part_fault bytes at = if at == 0 then None else data_fault bytes at

-- the first fault: of the header, of the tracks for rows, whose offset stands at 6, and of those for columns, at 8
abbrev pub trak_fault : List ℕ → Option Fault
trak_fault bytes =
    option_or (header_fault bytes) (option_or (part_fault bytes (be16 bytes 6)) (part_fault bytes (be16 bytes 8)))

-- so many sizes at a place
abbrev pub sizes_from : List ℕ → ℕ → ℕ → List ℤ
sizes_from bytes place count = map (λ s. signed32 (be32 bytes (place + 4 * s))) (range_with_len 0 count)

-- the track of an entry
abbrev pub track_at : List ℕ → ℕ → ℕ → Track
track_at bytes at k = record {
  value = signed32 (be32 bytes (entry_place at k));
  name = be16 bytes (entry_place at k + 4);
}

-- the tracks at an offset
abbrev pub tracks_at : List ℕ → ℕ → List Track
tracks_at bytes at = map (track_at bytes at) (range_with_len 0 (track_count bytes at))

-- so many values at a place
abbrev pub values_from : List ℕ → ℕ → ℕ → List ℤ
values_from bytes place count = map (λ s. signed16 (be16 bytes (place + 2 * s))) (range_with_len 0 count)

-- the values of a track
abbrev pub track_values : List ℕ → ℕ → ℕ → List ℤ
track_values bytes at k = values_from bytes (values_place bytes at k) (size_count bytes at)

-- the tracks of a direction
abbrev pub data_at : List ℕ → ℕ → TrackTable
data_at bytes at = record {
  sizes = sizes_from bytes (sizes_place bytes at) (size_count bytes at);
  tracks = tracks_at bytes at;
  values = flat_map (track_values bytes at) (range_with_len 0 (track_count bytes at));
}

-- the same, if there are any
abbrev pub part_at : List ℕ → ℕ → Option TrackTable
part_at bytes at = if at == 0 then None else Some (data_at bytes at)

-- the table, or its first fault
abbrev pub trak_of : List ℕ → Result TrackingTable Fault
trak_of bytes = elim (trak_fault bytes) [
  | None ↦ Ok (record { rows = part_at bytes (be16 bytes 6); columns = part_at bytes (be16 bytes 8) })
  | Some fault ↦ Err fault
]
