-- Lookups whose values are offsets of rows. Apple's TrueType Reference Manual, "The 'kerx' table", formats 2 and 6.
use Rattle.std.specs.Prelude.{ℕ, ◌/◌, List, map, Result, Ok}
use Rattle.aat_bytes.specs.Faults.{after}
use Rattle.aat_bytes.specs.declared.error.Fault.{Fault}
use Rattle.aat_bytes.specs.declared.tag.Tag.{Tag}
use Rattle.aat_read_lookup.specs.Lookups.{lookup_at}

-- the row of a glyph, where rows have so many values and the offset of a row counts values
abbrev pub in_row : ℕ → ℕ × ℕ → ℕ × ℕ
in_row width pair = (pair.0, pair.1 / width)

-- each glyph of the lookup at a place with its row, or the first fault of the lookup
abbrev pub rows_at : Tag → List ℕ → ℕ → ℕ → ℕ → Result (List (ℕ × ℕ)) Fault
rows_at table bytes place glyph_count width =
    after (lookup_at table bytes place glyph_count) (λ pairs. Ok (map (in_row width) pairs))
