-- Worked examples of numbers and slices.
use Rattle.std.specs.Prelude.{◌≡◌, ℕ, List, [], ◌∷◌, pos, negsuc, Some, None}
use Rattle.aat_bytes.specs.Numbers.{signed16, i16_at, u16_at, u32_at, slice, slice_from}

-- five bytes
abbrev pub example_bytes : List ℕ
example_bytes = 0 ∷ 1 ∷ 255 ∷ 254 ∷ 7 ∷ []

-- the first byte counts most, and a number that has not all of its bytes is missing
abbrev pub NumbersAreBigEndian : Type 0
NumbersAreBigEndian =
    (u16_at example_bytes 0 ≡ Some 1)
    × (u16_at example_bytes 1 ≡ Some 511)
    × (u16_at example_bytes 3 ≡ Some 65031)
    × (u16_at example_bytes 4 ≡ None)
    × (u32_at example_bytes 1 ≡ Some 33553927)
    × (u32_at example_bytes 2 ≡ None)

-- a signed number is in two's complement
abbrev pub SignedNumbersAreInTwosComplement : Type 0
SignedNumbersAreInTwosComplement =
    (i16_at example_bytes 1 ≡ Some (pos 511))
    × (i16_at example_bytes 2 ≡ Some (negsuc 1))
    × (signed16 32767 ≡ pos 32767)
    × (signed16 32768 ≡ negsuc 32767)

-- a slice stands inside as a whole or is missing; an empty one may stand at the end
abbrev pub SlicesStandInside : Type 0
SlicesStandInside =
    (slice example_bytes 1 2 ≡ Some (1 ∷ 255 ∷ []))
    × (slice example_bytes 3 2 ≡ Some (254 ∷ 7 ∷ []))
    × (slice example_bytes 3 3 ≡ None)
    × (slice example_bytes 5 0 ≡ Some [])
    × (slice example_bytes 6 0 ≡ None)
    × (slice_from example_bytes 4 ≡ Some (7 ∷ []))
    × (slice_from example_bytes 6 ≡ None)
