-- How much memory a lookup of rows takes whose values have 32 bits, and how many bytes it is read from.
use Rattle.std.specs.Prelude.{ℕ, ◌*◌, List, length, Result, Ok}
use Rattle.aat_bytes.specs.Faults.{after}
use Rattle.aat_bytes.specs.declared.error.Fault.{Fault}
use Rattle.aat_bytes.specs.declared.tag.Tag.{Tag}
use Rattle.aat_read_lookup.specs.Kept.{layout_segments}
use Rattle.aat_read_lookup.specs.Layouts.{layout_at}
use Rattle.aat_read_lookup.specs.Sizes.{bytes_of}
use Rattle.aat_read_lookup.specs.declared.kept.Keep.TheVariants.{LongRow}
use Rattle.aat_read_lookup.specs.declared.segment.ValueKind.TheVariants.{Long}

-- how many bytes the lookup at a place is read from, or its first fault
abbrev pub long_bytes_at : Tag → List ℕ → ℕ → ℕ → Result ℕ Fault
long_bytes_at table bytes place glyph_count =
    after (layout_at table bytes place glyph_count Long) (λ layout. Ok (bytes_of bytes layout))

-- how many bytes the rows of the lookup at a place take, or its first fault: 6 for each segment
abbrev pub long_size_at : Tag → List ℕ → ℕ → ℕ → ℕ → Result ℕ Fault
long_size_at table bytes place glyph_count width =
    after (layout_at table bytes place glyph_count Long)
    (λ layout. Ok (6 * length (layout_segments bytes (LongRow width) layout)))
