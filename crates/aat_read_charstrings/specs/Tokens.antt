-- Numbers and operators of a charstring. Adobe Technical Note 5177, "Charstring Number Encoding" and "Appendix A".
use Rattle.std.specs.Prelude.{ℕ, ℤ, pos, ◌+◌, ◌*ℤ◌, ◌==◌, ◌||◌, List, length, slice_index, Bool, Option, Some, None, if◌then◌else◌, nat_le, nat_lt}
use Rattle.std.specs.Int.{cast_signed, w32}
use Rattle.aat_bytes.specs.Numbers.{be32}
use Rattle.aat_read_charstrings.specs.Integers.{integer_at, integer_size}
use Rattle.aat_read_charstrings.specs.declared.index.Span.{Span}

-- whether a number begins with a byte, else an operator does
abbrev pub is_number : ℕ → Bool
is_number first = nat_le 32 first || (first == 28)

-- how many bytes a number or an operator takes that begins with a byte: 12 is an operator of two bytes
abbrev pub token_size : ℕ → ℕ
token_size first = if first == 12 then 2 else if first == 255 then 5 else integer_size first

-- where the number or operator ends that stands at the start of a span, if the table and the span have all of it
abbrev pub token_end : List ℕ → Span → Option ℕ
token_end bytes at =
    let end = at.start + token_size (slice_index bytes at.start) in
    if nat_lt (length bytes) at.end || nat_le at.end at.start then None else
    if nat_lt at.end end then None else Some end

-- the number at a place, in 65536ths: behind 255 stand 32 bits of them, and other numbers are integers
abbrev pub number_at : List ℕ → ℕ → ℤ
number_at bytes place =
    if slice_index bytes place == 255 then cast_signed w32 (be32 bytes (place + 1)) else
    if slice_index bytes place == 12 then pos 0 else
    integer_at bytes place *ℤ pos 65536
