-- The characters of which nothing is to be seen.
use Rattle.std.specs.Prelude.{ℕ, Bool, not, ◌&&◌, ◌||◌, ◌==◌, nat_le}
use Rattle.ucd_derived.specs.Binary.{is_default_ignorable_code_point}

-- the characters, ignorable in Unicode, that HarfBuzz shows: Hangul fillers, the fourth free variation selector of
-- Mongolian, and the format controls of shorthand
abbrev pub is_shown_character : ℕ → Bool
is_shown_character character =
    character == 0x115F || character == 0x1160 || character == 0x180F || character == 0x3164 || character == 0xFFA0
    || (nat_le 0x1BCA0 character && nat_le character 0x1BCA3)

-- an ignorable character, as HarfBuzz has it
abbrev pub is_ignorable_character : ℕ → Bool
is_ignorable_character character = is_default_ignorable_code_point character && not (is_shown_character character)
