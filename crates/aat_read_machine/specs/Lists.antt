-- Lists without a length of their own. They reach to the end of the bytes that are handed in; what is past is missing,
-- and a list that starts past the end is empty.
use Rattle.std.specs.Prelude.{ℕ, ◌+◌, ◌*◌, ◌-◌, ◌/◌, List, length, map}
use Rattle.std.specs.List.{range_with_len}
use Rattle.aat_bytes.specs.Numbers.{be16, be32}
use Rattle.aat_lookup.specs.declared.glyph_id.GlyphId.{GlyphId}

-- how many elements of a size stand from a place on
abbrev pub count_from : List ℕ → ℕ → ℕ → ℕ
count_from bytes place size = (length bytes - place) / size

-- numbers of 16 bits
abbrev pub numbers16 : List ℕ → ℕ → List ℕ
numbers16 bytes place = map (λ i. be16 bytes (place + 2 * i)) (range_with_len 0 (count_from bytes place 2))

-- numbers of 32 bits
abbrev pub numbers32 : List ℕ → ℕ → List ℕ
numbers32 bytes place = map (λ i. be32 bytes (place + 4 * i)) (range_with_len 0 (count_from bytes place 4))

-- glyphs of 16 bits
abbrev pub glyphs_from : List ℕ → ℕ → List GlyphId
glyphs_from bytes place =
    map (λ i. record { 0 = be16 bytes (place + 2 * i) }) (range_with_len 0 (count_from bytes place 2))
