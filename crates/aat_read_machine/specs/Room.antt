-- The room for the lookups of contextual glyph substitution, so that many offsets to one lookup take no more memory
-- than the bytes account for. Apple's TrueType Reference Manual, "The 'morx' table", contextual glyph substitution, and
-- "Font Tables", section on lookup tables.
use Rattle.std.specs.Prelude.{ℕ, ◌+◌, ◌*◌, ◌-◌, List, length, find, Option, Some, None, if◌then◌else◌, nat_lt, ◌==◌, sum_by, unwrap_or}
use Rattle.std.specs.List.{range_with_len}
use Rattle.aat_bytes.specs.Numbers.{u16_at, u32_at}
use Rattle.aat_read_machine.specs.StateArray.{StateArray}

-- the number of 16 bits at a place, and 0 where it is not there
abbrev pub number_at : List ℕ → ℕ → ℕ
number_at bytes place = unwrap_or (u16_at bytes place) 0

-- how many bytes the unit of format 4 at a place and its values take: three numbers, and two bytes for each glyph from
-- its first to its last
abbrev pub unit_size : List ℕ → ℕ → ℕ
unit_size bytes place = 6 + 2 * (number_at bytes place + 1 - number_at bytes (place + 2))

-- how many bytes the lookup at a place takes by its format, for a font of so many glyphs. The values of each unit of
-- format 4 count, also where units share them; what fills up units does not
unfoldable pub lookup_size : List ℕ → ℕ → ℕ → ℕ
lookup_size bytes place glyph_count =
    let format = number_at bytes place in
    let count = number_at bytes (place + 4) in
    if format == 0 then 2 + 2 * glyph_count else
    if format == 2 then 12 + 6 * count else
    if format == 4 then 12 + sum_by (λ i. unit_size bytes (place + 12 + number_at bytes (place + 2) * i)) (range_with_len 0 count) else
    if format == 6 then 12 + 4 * count else
    if format == 8 then 6 + 2 * count else
    8 + number_at bytes (place + 2) * number_at bytes (place + 6)

-- what the lookup of an index takes of the room: 8 bytes, and its size where its offset is there
unfoldable pub lookup_cost : List ℕ → ℕ → ℕ → ℕ → ℕ
lookup_cost bytes list glyph_count i = elim (u32_at bytes (list + 4 * i)) [
  | None ↦ 8
  | Some offset ↦ 8 + lookup_size bytes (list + offset) glyph_count
]

-- what so many lookups take of the room
abbrev pub lookups_cost : List ℕ → ℕ → ℕ → ℕ → ℕ
lookups_cost bytes list glyph_count count = sum_by (lookup_cost bytes list glyph_count) (range_with_len 0 count)

-- the room: the bytes from the state table on, without 2 for each cell
abbrev pub room_left : StateArray → ℕ → ℕ
room_left m cells = length m.bytes - 2 * cells

-- the first of so many lookups that passes the room
abbrev pub lookup_past_room : List ℕ → ℕ → ℕ → ℕ → ℕ → Option ℕ
lookup_past_room bytes list glyph_count room count =
    find (λ i. nat_lt room (lookups_cost bytes list glyph_count (i + 1))) (range_with_len 0 count)
