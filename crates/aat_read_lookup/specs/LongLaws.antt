-- What is known of a lookup with values of 32 bits that is read, and of its size, whatever the bytes say.
use Rattle.std.specs.Prelude.{◌≡◌, ℕ, ◌*◌, ◌-◌, ◌≤◌, List, length, Ok, None}
use Rattle.aat_bytes.specs.declared.tag.Tag.{Tag}
use Rattle.aat_lookup.specs.Keys.{first, first_fall}
use Rattle.aat_read_lookup.specs.LongLookups.{long_lookup_at}
use Rattle.aat_read_lookup.specs.LongSizes.{long_bytes_at, long_size_at}

-- pairs that are read rise strictly
abbrev pub PairsRise : Type 0
PairsRise =
    (table : Tag) (bytes : List ℕ) (place glyph_count : ℕ) (pairs : List (ℕ × ℕ))
    → long_lookup_at table bytes place glyph_count ≡ Ok pairs
    → first_fall first pairs ≡ None

-- rows take at most 6 bytes of memory for each byte that their lookup is read from
abbrev pub LookupsAreBounded : Type 0
LookupsAreBounded =
    (table : Tag) (bytes : List ℕ) (place glyph_count width count size : ℕ)
    → long_bytes_at table bytes place glyph_count ≡ Ok count
    → long_size_at table bytes place glyph_count width ≡ Ok size
    → size ≤ 6 * count

-- a lookup is read from no more bytes than stand from its place to the end of the table
abbrev pub BytesAreInside : Type 0
BytesAreInside =
    (table : Tag) (bytes : List ℕ) (place glyph_count count : ℕ)
    → long_bytes_at table bytes place glyph_count ≡ Ok count
    → count ≤ length bytes - place
