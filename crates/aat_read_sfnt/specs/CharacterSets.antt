-- Under which numbers subtables have characters. Apple's TrueType Reference Manual, "The 'cmap' table".
use Rattle.std.specs.Prelude.{ℕ, ◌+◌, List, length, Option, Some, None, if◌then◌else◌, nat_lt, ◌==◌, find, option_map, option_and_then, slice_index}
use Rattle.std.specs.List.{range_with_len}
use Rattle.std.specs.Option.{option_or}
use Rattle.aat_read_sfnt.specs.declared.cmap.character_set.CharacterSet.{CharacterSet}
use Rattle.aat_read_sfnt.specs.declared.cmap.character_set.CharacterSet.TheVariants.{Unicode, Symbol, MacRoman}
use Rattle.aat_read_sfnt.specs.declared.cmap.character_set.TheConstants.{MAC_ROMAN}

-- the characters of a platform and encoding: 3 with 0 has symbols, and 1 with 0 is of the Macintosh
abbrev pub set_of : ℕ → CharacterSet
set_of encoding = if encoding == 0x30000 then Symbol else if encoding == 0x10000 then MacRoman else Unicode

-- where a character of one byte may stand besides
abbrev pub private_symbol : ℕ → Option ℕ
private_symbol character = if nat_lt 0xFF character then None else Some (0xF000 + character)

-- the glyph of a symbol: its own, and where it has none that of the character from 0xF000 on
abbrev pub symbol_glyph : (ℕ → Option ℕ) → ℕ → Option ℕ
symbol_glyph glyph character = option_or (glyph character) (option_and_then glyph (private_symbol character))

-- the place of a character in a list
unfoldable pub place_of : List ℕ → ℕ → Option ℕ
place_of characters character =
    find (λ i. slice_index characters i == character) (range_with_len 0 (length characters))

-- the number of a character of Mac Roman, of those from 0x80 on. HarfBuzz 12.3.2 takes a character above 0xFFFF by its
-- low 16 bits
abbrev pub mac_roman_code : ℕ → Option ℕ
mac_roman_code character = option_map (λ i. 0x80 + i) (place_of MAC_ROMAN character)

-- the glyph of a character of the Macintosh: ASCII has its own numbers, others those of Mac Roman
abbrev pub mac_glyph : (ℕ → Option ℕ) → ℕ → Option ℕ
mac_glyph glyph character =
    if nat_lt character 0x80 then glyph character else option_and_then glyph (mac_roman_code character)

-- the glyph of a character of a set, by those of numbers
abbrev pub glyph_in_set : CharacterSet → (ℕ → Option ℕ) → ℕ → Option ℕ
glyph_in_set Unicode glyph character = glyph character
glyph_in_set Symbol glyph character = symbol_glyph glyph character
glyph_in_set MacRoman glyph character = mac_glyph glyph character
