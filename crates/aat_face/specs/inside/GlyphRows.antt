-- Rows of characters whose glyphs stand in a row.
use Rattle.std.specs.Prelude.{◌≡◌, ℕ, ◌+◌, ◌%◌, ◌<◌, ◌≤◌, Some}
use Rattle.aat_read_sfnt.specs.Characters.{mapped_glyph}
use Rattle.aat_read_sfnt.specs.declared.cmap.CharacterMap.{CharacterMap}

-- each character from the space up to `end` has the glyph of its number plus `delta`, modulo 65536
abbrev pub IsRow : CharacterMap → ℕ → ℕ → Type 0
IsRow map delta end = (c : ℕ) → 32 ≤ c → c < end → mapped_glyph map c ≡ Some ((c + delta) % 65536)
