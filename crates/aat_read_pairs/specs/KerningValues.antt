-- What stands for a kerning value. Apple's TrueType Reference Manual, "The 'kern' table" and "The 'kerx' table".
use Rattle.std.specs.Prelude.{ℕ, ℤ, pos, ◌+◌, ◌*◌, List, length, if◌then◌else◌, nat_lt, ◌==◌}
use Rattle.aat_bytes.specs.Numbers.{be16, signed16}
use Rattle.aat_read_pairs.specs.declared.values.Tuples.{Tuples}

-- no tuples: a number is the value itself
abbrev pub no_tuples : Tuples
no_tuples = record { place = 0; count = 0 }

-- the value of a number of 16 bits: the number itself, or, where values stand in tuples, the first value of the tuple
-- whose offset it is. HarfBuzz has 0 for a tuple that is not there as a whole
abbrev pub kerning_value : List ℕ → Tuples → ℕ → ℤ
kerning_value bytes tuples number =
    if tuples.count == 0 then signed16 number else
    if nat_lt (length bytes) (tuples.place + number + 2 * tuples.count) then pos 0 else
    signed16 (be16 bytes (tuples.place + number))
