-- Numbers of 16 and of 32 bits, one behind the other.
use Rattle.std.specs.Prelude.{ℕ, ◌/◌, ◌%◌, List, [], ◌∷◌}
use Rattle.std.specs.Int.{w16, w32, to_be_bytes}
use Rattle.std.specs.List.{flat_map}

-- the bytes of numbers of 16 bits, big-endian
abbrev pub word_bytes : List ℕ → List ℕ
word_bytes words = flat_map (to_be_bytes w16) words

-- the bytes of numbers of 32 bits, big-endian
abbrev pub long_bytes : List ℕ → List ℕ
long_bytes longs = flat_map (to_be_bytes w32) longs

-- a number of 32 bits as two of 16
abbrev pub long : ℕ → List ℕ
long number = (number / 65536) ∷ (number % 65536) ∷ []
