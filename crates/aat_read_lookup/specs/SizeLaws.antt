-- What is known of a lookup that is read, and of its size, whatever the bytes say.
use Rattle.std.specs.Prelude.{◌≡◌, ℕ, ◌+◌, ◌*◌, ◌-◌, ◌≤◌, List, length, Ok, None}
use Rattle.aat_bytes.specs.declared.tag.Tag.{Tag}
use Rattle.aat_lookup.specs.Keys.{first, first_fall}
use Rattle.aat_lookup.specs.GlyphSpans.{span_count}
use Rattle.aat_read_lookup.specs.Lookups.{lookup_at}
use Rattle.aat_read_lookup.specs.Sizes.{lookup_bytes_at, lookup_size_at, pairs_size}

-- pairs that are read rise strictly
abbrev pub PairsRise : Type 0
PairsRise =
    (table : Tag) (bytes : List ℕ) (place glyph_count : ℕ) (pairs : List (ℕ × ℕ))
    → lookup_at table bytes place glyph_count ≡ Ok pairs
    → first_fall first pairs ≡ None

-- a lookup takes at most 7 bytes of memory for each byte that it is read from
abbrev pub LookupsAreBounded : Type 0
LookupsAreBounded =
    (table : Tag) (bytes : List ℕ) (place glyph_count count size : ℕ)
    → lookup_bytes_at table bytes place glyph_count ≡ Ok count
    → lookup_size_at table bytes place glyph_count ≡ Ok size
    → size ≤ 7 * count

-- a lookup is read from no more bytes than stand from its place to the end of the table
abbrev pub BytesAreInside : Type 0
BytesAreInside =
    (table : Tag) (bytes : List ℕ) (place glyph_count count : ℕ)
    → lookup_bytes_at table bytes place glyph_count ≡ Ok count
    → count ≤ length bytes - place

-- the size of pairs counts the cells of an array that is kept beside them
abbrev pub ArraysAreCounted : Type 0
ArraysAreCounted = (pairs : List (ℕ × ℕ)) → 4 * length pairs + 4 * span_count pairs ≤ pairs_size pairs
