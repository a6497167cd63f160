-- Characters of which all that a text asks is known without a look-up.
use Rattle.std.specs.Prelude.{ℕ, Bool, List, [], ◌∷◌}
use Rattle.ucd_table.specs.Rows.{Range, in_ranges}

-- characters of Latin, Greek, Cyrillic, Armenian, Hebrew and Arabic, punctuation, and characters of East Asia
abbrev pub plain_ranges : List Range
plain_ranges =
    (0x20, 0x7E) ∷ (0xA0, 0xA8) ∷ (0xAA, 0xAC) ∷ (0xAF, 0x2FF) ∷ (0x370, 0x482) ∷ (0x48A, 0x590) ∷ (0x5CA, 0x5FF) ∷
    (0x606, 0x60F) ∷ (0x61D, 0x64A) ∷ (0x660, 0x66F) ∷ (0x671, 0x6D5) ∷ (0x1E00, 0x200A) ∷ (0x2010, 0x2027) ∷
    (0x2E00, 0x3029) ∷ (0x303E, 0x3098) ∷ (0x309B, 0x3163) ∷ (0x329A, 0xA66E) ∷ []

-- Such a character is no mark, is shown, joins only what has to be joined to the next character, and is joined by
-- marks alone
abbrev pub is_plain : ℕ → Bool
is_plain character = in_ranges plain_ranges character
