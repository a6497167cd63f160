-- A lookup that is written is read again.
use Rattle.std.specs.Prelude.{◌≡◌, ℕ, ◌<◌, List, ◌++◌, length, All, Ok}
use Rattle.aat_bytes.specs.declared.tag.Tag.{Tag}
use Rattle.aat_read_lookup.specs.Lookups.{lookup_at}
use Rattle.aat_write_machine.specs.Lookups.{lookup_written}

-- a glyph and a value have 16 bits each
abbrev pub IsPair : ℕ × ℕ → Type 0
IsPair pair = (pair.0 < 65536) × (pair.1 < 65536)

-- the reader gives the pairs that were written, whatever stands before and behind them in the table
abbrev pub WrittenLookupsAreRead : Type 0
WrittenLookupsAreRead =
    (table : Tag) (pairs : List (ℕ × ℕ)) (bytes before after : List ℕ) (glyph_count : ℕ)
    → All IsPair pairs
    → lookup_written pairs ≡ Ok bytes
    → lookup_at table (before ++ (bytes ++ after)) (length before) glyph_count ≡ Ok pairs
