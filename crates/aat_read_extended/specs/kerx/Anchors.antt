-- The anchor points of glyphs. Apple's TrueType Reference Manual, "The 'ankr' table".
use Rattle.std.specs.Prelude.{ℕ, ◌+◌, ◌*◌, List, [], ◌∷◌, length, map, Result, Ok, Err, if◌then◌else◌, nat_lt, ◌==◌}
use Rattle.std.specs.List.{range_with_len}
use Rattle.aat_bytes.specs.Faults.{after, fault_at}
use Rattle.aat_bytes.specs.Numbers.{be16, be32, signed16}
use Rattle.aat_bytes.specs.declared.error.Fault.{Fault}
use Rattle.aat_bytes.specs.declared.error.FaultKind.TheVariants.{PastEnd, UnknownFormat}
use Rattle.aat_bytes.specs.declared.tags.TheConstants.{ANKR}
use Rattle.aat_kerning_tables.specs.AnchorPoints.{Points}
use Rattle.aat_kerning_tables.specs.declared.ankr.Point.{Point}
use Rattle.aat_read_lookup.specs.Lookups.{lookup_at}

-- a point: two signed numbers
abbrev pub point_at : List ℕ → ℕ → Point
point_at bytes place = record { x = signed16 (be16 bytes place); y = signed16 (be16 bytes (place + 2)) }

-- the points whose number stands at a place, in 32 bits, and which follow it
abbrev pub points_at : List ℕ → ℕ → List Point
points_at bytes place = map (λ i. point_at bytes (place + 4 + 4 * i)) (range_with_len 0 (be32 bytes place))

-- where the points of an offset stand: it counts from where the points of all glyphs start
abbrev pub points_place : List ℕ → ℕ → ℕ
points_place bytes offset = be32 bytes 8 + offset

-- how many bytes of memory a glyph and so many points take
abbrev pub row_size : ℕ → ℕ
row_size count = 32 + 4 * count

-- the points at a place, which have to stand inside. Glyphs may share points, and have their own copy each: so they
-- also have to have room, which is 24 bytes of memory for each byte of the table, beside what is used
unfoldable pub points_within : List ℕ → ℕ → ℕ → Result (List Point) Fault
points_within bytes used place =
    if nat_lt (length bytes) (place + 4) then Err (fault_at ANKR PastEnd place) else
    if nat_lt (length bytes) (place + 4 + 4 * be32 bytes place) then Err (fault_at ANKR PastEnd place) else
    if nat_lt (24 * length bytes) (used + row_size (be32 bytes place)) then Err (fault_at ANKR PastEnd place) else
    Ok (points_at bytes place)

-- the points of glyphs by their offsets, beside what is used, or the first fault
abbrev pub rows_within : List ℕ → ℕ → List (ℕ × ℕ) → Result Points Fault
rows_within bytes used [] = Ok []
rows_within bytes used (glyph ∷ glyphs) =
    after (points_within bytes used (points_place bytes glyph.1)) (λ points.
    after (rows_within bytes (used + row_size (length points)) glyphs) (λ rows. Ok ((glyph.0, points) ∷ rows)))

-- the table, or its first fault: its version is 0, and at 4 it has the offset of a lookup, which gives glyphs their
-- offsets, and at 8 that of the points
unfoldable pub ankr_of : List ℕ → ℕ → Result Points Fault
ankr_of bytes glyph_count =
    if nat_lt (length bytes) 12 then Err (fault_at ANKR PastEnd 0) else
    if be16 bytes 0 == 0 then after (lookup_at ANKR bytes (be32 bytes 4) glyph_count) (rows_within bytes 0)
    else Err (fault_at ANKR UnknownFormat 0)
