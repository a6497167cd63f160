-- Integers and codes of operators, as DICTs and charstrings write them. Adobe Technical Note 5176, "DICT Data", and 5177, "Charstring Number
-- Encoding".
use Rattle.std.specs.Prelude.{ℕ, ℤ, pos, ◌+◌, ◌+ℤ◌, ◌-ℤ◌, ◌*ℤ◌, ◌==◌, List, slice_index, if◌then◌else◌, nat_lt}
use Rattle.aat_bytes.specs.Numbers.{be16, signed16}

-- how many bytes an integer takes that begins with a byte
abbrev pub integer_size : ℕ → ℕ
integer_size first = if first == 28 then 3 else if nat_lt first 247 then 1 else 2

-- an integer of two bytes above 107, and one below -107
abbrev pub integer_above : ℕ → ℕ → ℤ
integer_above first second = (pos first -ℤ pos 247) *ℤ pos 256 +ℤ pos second +ℤ pos 108

abbrev pub integer_below : ℕ → ℕ → ℤ
integer_below first second = (pos 251 -ℤ pos first) *ℤ pos 256 -ℤ pos second -ℤ pos 108

-- the integer at a place
abbrev pub integer_at : List ℕ → ℕ → ℤ
integer_at bytes place =
    let first = slice_index bytes place in
    if first == 28 then signed16 (be16 bytes (place + 1)) else
    if nat_lt first 247 then pos first -ℤ pos 139 else
    if nat_lt first 251
    then integer_above first (slice_index bytes (place + 1))
    else integer_below first (slice_index bytes (place + 1))

-- the code of the operator or key at a place. One of two bytes is 256 times 12 and the other one
abbrev pub code_at : List ℕ → ℕ → ℕ
code_at bytes place =
    if slice_index bytes place == 12 then 3072 + slice_index bytes (place + 1) else slice_index bytes place
