-- The words of all reading: numbers at places, big-endian, and slices by offset and length.
use Rattle.std.specs.Prelude.{ℕ, ℤ, ◌+◌, List, length, take, drop, Option, Some, None, option_map, if◌then◌else◌, nat_le}
use Rattle.std.specs.Int.{w16, w32, from_be_bytes, cast_signed}
use Rattle.aat_bytes.specs.declared.tag.Tag.{Tag}

-- the number of 16 bits at a place
abbrev pub be16 : List ℕ → ℕ → ℕ
be16 bytes place = from_be_bytes w16 (take 2 (drop place bytes))

-- the number of 32 bits at a place
abbrev pub be32 : List ℕ → ℕ → ℕ
be32 bytes place = from_be_bytes w32 (take 4 (drop place bytes))

-- a number of 16 bits taken as signed, in two's complement
abbrev pub signed16 : ℕ → ℤ
signed16 number = cast_signed w16 number

-- a value that stands on so many bytes at a place, if the bytes have them all
abbrev pub inside : {X : Type 0} → List ℕ → ℕ → ℕ → X → Option X
inside bytes place size x = if nat_le (place + size) (length bytes) then Some x else None

-- the number of 16 bits at a place, if it stands inside
unfoldable pub u16_at : List ℕ → ℕ → Option ℕ
u16_at bytes place = inside bytes place 2 (be16 bytes place)

-- the number of 32 bits at a place, if it stands inside
unfoldable pub u32_at : List ℕ → ℕ → Option ℕ
u32_at bytes place = inside bytes place 4 (be32 bytes place)

-- the signed number of 16 bits at a place, if it stands inside
abbrev pub i16_at : List ℕ → ℕ → Option ℤ
i16_at bytes place = option_map signed16 (u16_at bytes place)

-- the tag at a place, if it stands inside
abbrev pub tag_at : List ℕ → ℕ → Option Tag
tag_at bytes place = option_map (λ number. record { 0 = number }) (u32_at bytes place)

-- the slice of so many bytes at an offset, if it stands inside
unfoldable pub slice : List ℕ → ℕ → ℕ → Option (List ℕ)
slice bytes offset size = inside bytes offset size (take size (drop offset bytes))

-- the bytes from an offset to the end, if the offset does not lie past it
unfoldable pub slice_from : List ℕ → ℕ → Option (List ℕ)
slice_from bytes offset = inside bytes offset 0 (drop offset bytes)
