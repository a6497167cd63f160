-- How the words of glyphs are marked. No contract but those of the words cites this.
use Rattle.std.specs.Prelude.{◌≡◌, ◌<◌, ◌≤◌, ℕ, Bool, List, Some, slice_index_or, true}
use Rattle.std.specs.Int.{bit_at}
use Rattle.aat_font.specs.Wakers.{word_of, word_place, WakeAt}
use Rattle.aat_lookup.specs.Keys.{value_in}
use Rattle.aat_machine_tables.specs.declared.morx.Subtable.{Subtable}
use Rattle.aat_font.specs.declared.wakers.GlyphWords.{GlyphWords}

-- no glyph lost a bit
abbrev pub KeepsBits : GlyphWords → GlyphWords → Type 0
KeepsBits old new = (g k : ℕ) → bit_at (word_of old g) k ≤ bit_at (word_of new g) k

-- each glyph has the word that it had
abbrev pub SameWords : GlyphWords → GlyphWords → Type 0
SameWords old new = (g : ℕ) → word_of new g ≡ word_of old g

-- no subtable below a number is woken by a glyph that did not wake it
abbrev pub KeepsWakers : List GlyphWords → List GlyphWords → ℕ → Type 0
KeepsWakers old new number = (k : ℕ) (s : Subtable) → k < number → WakeAt s old k → WakeAt s new k

-- a class whose bit is set passes a test
abbrev pub ArePassed : (ℕ → Bool) → ℕ → Type 0
ArePassed test passed = (class : ℕ) → bit_at passed class ≡ 1 → test class ≡ true

-- where a glyph's bit is clear, the class that pairs have for it passes a test
abbrev pub AreAwake : (ℕ → Bool) → GlyphWords → ℕ → List (ℕ × ℕ) → Type 0
AreAwake test w bit pairs = (g class : ℕ) → bit_at (word_of w g) bit ≡ 0 → value_in pairs g ≡ Some class → test class ≡ true

-- a glyph whose place is below one, and whose bit is clear in a summary, has no bit of its own in a block
abbrev pub IsSummedBelow : GlyphWords → ℕ → GlyphWords → ℕ → Type 0
IsSummedBelow summary bit block place =
    (g : ℕ) → word_place g < place → bit_at (word_of summary g) bit ≡ 0 → slice_index_or block.words.items (word_place g) 0 ≡ 0
