-- What the actions of a ligature subtable say. Apple's TrueType Reference Manual, "The 'morx' table", ligature
-- substitution.
use Rattle.std.specs.Prelude.{ℕ, ◌==◌, Bool, not, bit_and, ℤ, pos, negsuc, ◌+ℤ◌, ◌-ℤ◌, List, slice_get, Option, None, if◌then◌else◌}

-- the last action of a list; an action that stores a ligature, as the last one does
abbrev pub is_last : ℕ → Bool
is_last action = not (bit_and action 0x80000000 == 0)

abbrev pub is_store : ℕ → Bool
is_store action = not (bit_and action 0xC0000000 == 0)

-- the low 30 bits of an action, signed
abbrev pub offset_of : ℕ → ℤ
offset_of action =
    let low = pos (bit_and action 0x1FFFFFFF) in
    if bit_and action 0x20000000 == 0 then low else low -ℤ pos 0x20000000

-- the element at a place, if there is one
abbrev pub element_at : List ℕ → ℤ → Option ℕ
element_at xs (pos i) = slice_get xs i
element_at xs (negsuc i) = None

-- the value that an action reads for a glyph, if there is one
abbrev pub value_of : List ℕ → ℕ → ℕ → Option ℕ
value_of values action glyph = element_at values (pos glyph +ℤ offset_of action)
