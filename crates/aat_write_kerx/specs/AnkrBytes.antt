-- The table of anchor points as bytes. Apple's TrueType Reference Manual, "The 'ankr' table".
use Rattle.std.specs.Prelude.{ℕ, ℤ, ◌+◌, ◌*◌, ◌≤◌, List, [], ◌∷◌, ◌++◌, length, Option, Some, None, Result, Ok, Err, if◌then◌else◌, nat_lt}
use Rattle.std.specs.Int.{w16, cast_unsigned}
use Rattle.std.specs.List.{flat_map}
use Rattle.aat_kerning_tables.specs.AnchorPoints.{Points}
use Rattle.aat_kerning_tables.specs.declared.ankr.Point.{Point}
use Rattle.aat_write_machine.specs.Lookups.{lookup_written}
use Rattle.aat_write_machine.specs.Words.{long_bytes, word_bytes}
use Rattle.aat_write_machine.specs.declared.write_error.WriteError.{WriteError}
use Rattle.aat_write_kerx.specs.AnkrWriteErrors.{error_of_lookup}
use Rattle.aat_write_kerx.specs.declared.ankr_error.AnkrWriteError.{AnkrWriteError}
use Rattle.aat_write_kerx.specs.declared.ankr_error.AnkrWriteError.TheVariants.{TooFar, TooManyPoints}

-- a signed number as one of 16 bits, in two's complement
abbrev pub unsigned16 : ℤ → ℕ
unsigned16 number = cast_unsigned w16 number

-- a point: two signed numbers
abbrev pub point_words : Point → List ℕ
point_words point = unsigned16 point.x ∷ unsigned16 point.y ∷ []

-- the points of a glyph: their number, in 32 bits, and the points
abbrev pub points_bytes : List Point → List ℕ
points_bytes points = long_bytes (length points ∷ []) ++ word_bytes (flat_map point_words points)

-- how many bytes they take
abbrev pub points_size : List Point → ℕ
points_size points = 4 + 4 * length points

-- each glyph with the offset of its points, which stand one behind the other from an offset on
abbrev pub offsets_from : ℕ → Points → List (ℕ × ℕ)
offsets_from offset [] = []
offsets_from offset (row ∷ rows) = (row.0, offset) ∷ offsets_from (offset + points_size row.1) rows

-- the first row, from a place and an offset on, whose offset has more than 16 bits, or which has more points than an
-- index of 16 bits can name
abbrev pub refusal_from : ℕ → ℕ → Points → Option AnkrWriteError
refusal_from place offset [] = None
refusal_from place offset (row ∷ rows) =
    if nat_lt 65535 offset then Some (TooFar place) else
    if nat_lt 65536 (length row.1) then Some (TooManyPoints place) else
    refusal_from (place + 1) (offset + points_size row.1) rows

-- a row has no more points than an index of 16 bits can name
abbrev pub HasFewPoints : ℕ × List Point → Type 0
HasFewPoints row = length row.1 ≤ 65536

-- a table with the bytes of its lookup: version and flags of 0, the offset of the lookup and that of the points, the
-- lookup, and the points of each glyph
abbrev pub ankr_bytes : List ℕ → Points → List ℕ
ankr_bytes lookup rows =
    long_bytes (0 ∷ 12 ∷ (12 + length lookup) ∷ []) ++ (lookup ++ flat_map (λ row. points_bytes row.1) rows)

-- a table whose lookup is written, or why it is not
abbrev pub with_lookup : Result (List ℕ) WriteError → Points → Result (List ℕ) AnkrWriteError
with_lookup (Ok lookup) rows = Ok (ankr_bytes lookup rows)
with_lookup (Err e) rows = Err (error_of_lookup e)

-- the bytes of a table, or why it is not written
abbrev pub ankr_written : Points → Result (List ℕ) AnkrWriteError
ankr_written rows = elim (refusal_from 0 0 rows) [
  | None ↦ with_lookup (lookup_written (offsets_from 0 rows)) rows
  | Some e ↦ Err e
]
