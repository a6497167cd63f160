-- How much memory a lookup that is read takes at most, and how many bytes it is read from.
use Rattle.std.specs.Prelude.{ℕ, ◌+◌, ◌*◌, ◌/◌, List, length, if◌then◌else◌, ◌==◌, nat_lt, nat_le, Bool, Result, Ok}
use Rattle.aat_bytes.specs.Faults.{after}
use Rattle.aat_bytes.specs.declared.error.Fault.{Fault}
use Rattle.aat_bytes.specs.declared.tag.Tag.{Tag}
use Rattle.aat_lookup.specs.Keys.{first}
use Rattle.aat_lookup.specs.GlyphSpans.{glyph_span}
use Rattle.aat_read_lookup.specs.Kept.{layout_segments}
use Rattle.aat_read_lookup.specs.Layouts.{layout_at, unit_bytes}
use Rattle.aat_read_lookup.specs.Lookups.{pairs_of}
use Rattle.aat_read_lookup.specs.Segments.{values_size}
use Rattle.aat_read_lookup.specs.declared.kept.Keep.TheVariants.{Value}
use Rattle.aat_read_lookup.specs.declared.layout.Layout.{Layout}
use Rattle.aat_read_lookup.specs.declared.layout.Layout.TheVariants.{Array, Searched}
use Rattle.aat_read_lookup.specs.declared.segment.ValueKind.TheVariants.{Word}

-- how many bytes of the table a layout is read from, behind its header: its values, and the records of its units
abbrev pub bytes_of : List ℕ → Layout → ℕ
bytes_of bytes (Array segment) = values_size segment.values segment.count
bytes_of bytes (Searched units) = unit_bytes bytes units

-- the number of cells beside so many pairs whose glyphs span so many: an array over the span where it has no more than
-- about 32 cells for each pair; else pages of 256 cells, at most one for 8 pairs, and 256 cells for their places
abbrev pub cells_beside : ℕ → ℕ → ℕ
cells_beside count span =
    if count == 0 then 0 else
    if nat_le (span / 32) count then span else
    if nat_lt count 8 then 0 else 256 + 256 * (count / 8)

-- how many bytes pairs take at most: 4 for each, and 4 for each cell beside them
abbrev pub pairs_size : List (ℕ × ℕ) → ℕ
pairs_size pairs = 4 * length pairs + 4 * cells_beside (length pairs) (glyph_span first (0, 0) pairs)

-- whether a layout is kept as segments: where its pairs would take more than 7 bytes for each byte that it is read from
abbrev pub is_spread : List ℕ → Layout → Bool
is_spread bytes layout = nat_lt (7 * bytes_of bytes layout) (pairs_size (pairs_of bytes layout))

-- how many bytes the lookup of a layout takes at most: 6 for each segment, or those of its pairs
abbrev pub layout_size : List ℕ → Layout → ℕ
layout_size bytes layout =
    if is_spread bytes layout then 6 * length (layout_segments bytes Value layout) else pairs_size (pairs_of bytes layout)

-- how many bytes the lookup at a place is read from, or its first fault
abbrev pub lookup_bytes_at : Tag → List ℕ → ℕ → ℕ → Result ℕ Fault
lookup_bytes_at table bytes place glyph_count =
    after (layout_at table bytes place glyph_count Word) (λ layout. Ok (bytes_of bytes layout))

-- how many bytes the lookup at a place takes at most, or its first fault
abbrev pub lookup_size_at : Tag → List ℕ → ℕ → ℕ → Result ℕ Fault
lookup_size_at table bytes place glyph_count =
    after (layout_at table bytes place glyph_count Word) (λ layout. Ok (layout_size bytes layout))
