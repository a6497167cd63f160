-- The bits of a subtable's coverage. Apple's TrueType Reference Manual, "The 'morx' table", metamorphosis subtables,
-- where they are the four highest of 32 bits; here they have a byte of their own.
use Rattle.std.specs.Prelude.{ℕ, List, [], ◌∷◌, Bool, codes, bit_and, ◌==◌}
use Rattle.aat_machine_tables.specs.declared.morx.Coverage.{Coverage}

-- the names of the bits
abbrev pub coverage_bits : List (List ℕ × ℕ)
coverage_bits =
    (codes "VERTICAL", 0x80)
    ∷ (codes "BACKWARDS", 0x40)
    ∷ (codes "ALL_DIRECTIONS", 0x20)
    ∷ (codes "LOGICAL", 0x10)
    ∷ []

-- bit 31: the subtable is for vertical text alone; where it is clear, for horizontal text alone
abbrev pub is_vertical_coverage : Coverage → Bool
is_vertical_coverage c = bit_and c.0 0x80 == 0x80

-- bit 30: the glyphs are taken backwards, from the last to the first, in the order that bit 28 chooses
abbrev pub is_backwards : Coverage → Bool
is_backwards c = bit_and c.0 0x40 == 0x40

-- bit 29: the subtable is for horizontal and vertical text, whatever bit 31 says
abbrev pub is_all_directions : Coverage → Bool
is_all_directions c = bit_and c.0 0x20 == 0x20

-- bit 28: the order is the logical one, that of the characters; where it is clear, the one in which the glyphs are
-- laid out, from left to right in horizontal text
abbrev pub is_logical : Coverage → Bool
is_logical c = bit_and c.0 0x10 == 0x10
