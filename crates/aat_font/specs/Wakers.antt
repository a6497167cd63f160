-- Which of 64 subtables a glyph may wake, as the bits of a word.
use Rattle.std.specs.Prelude.{◌≡◌, ◌+◌, ◌/◌, ◌%◌, ℕ, true, List, Some, slice_get, slice_index_or, take, bit_or}
use Rattle.std.specs.Int.{bit_at}
use Rattle.aat_font.specs.Idle.{is_idle}
use Rattle.aat_machine_tables.specs.Chains.{subtable_count}
use Rattle.aat_machine_tables.specs.declared.morx.Chain.{Chain}
use Rattle.aat_machine_tables.specs.declared.morx.Subtable.{Subtable}
use Rattle.aat_font.specs.declared.wakers.GlyphWords.{GlyphWords}

-- the place of a glyph's own bits in a list. Those of glyph 0xFFFF, which stands for a deleted one, come first
abbrev pub word_place : ℕ → ℕ
word_place g = (g + 1) % 65536

-- the word of a glyph: the bits that each glyph has, and its own
abbrev pub word_of : GlyphWords → ℕ → ℕ
word_of w g = bit_or w.everywhere (slice_index_or w.words.items (word_place g) 0)

-- where a glyph's bit of a subtable is clear, the subtable does nothing over it
abbrev pub IsAwakeIn : Subtable → GlyphWords → ℕ → Type 0
IsAwakeIn s w bit = (g : ℕ) → bit_at (word_of w g) bit ≡ 0 → is_idle s.kind g ≡ true

-- words tell which glyphs may wake the subtable with a number, where they reach it
abbrev pub WakeAt : Subtable → List GlyphWords → ℕ → Type 0
WakeAt s words number = (w : GlyphWords) → slice_get words (number / 64) ≡ Some w → IsAwakeIn s w (number % 64)

-- so they do for the subtables of a list, of which the first one has this number
abbrev pub AreWakers : List Subtable → List GlyphWords → ℕ → Type 0
AreWakers subtables words first = (i : ℕ) (s : Subtable) → slice_get subtables i ≡ Some s → WakeAt s words (first + i)

-- and for those of chains, which are numbered one behind the other
abbrev pub AreChainWakers : List Chain → List GlyphWords → Type 0
AreChainWakers chains words =
    (i : ℕ) (c : Chain) → slice_get chains i ≡ Some c → AreWakers c.subtables.items words (subtable_count (take i chains))

-- where a glyph's bit is clear in a summary, its word of a block is 0
abbrev pub IsSummedAt : GlyphWords → ℕ → GlyphWords → Type 0
IsSummedAt summary bit block = (g : ℕ) → bit_at (word_of summary g) bit ≡ 0 → word_of block g ≡ 0

-- a summary tells of each block by the bit of its number, counted from 0 again behind each 64
abbrev pub IsSummaryOf : GlyphWords → List GlyphWords → Type 0
IsSummaryOf summary blocks = (i : ℕ) (block : GlyphWords) → slice_get blocks i ≡ Some block → IsSummedAt summary (i % 64) block
