-- What the bits of a line's glyphs tell of the subtables that they may wake.
use Rattle.std.specs.Prelude.{◌≡◌, ◌<◌, ℕ, true, false, List, Some, slice_get, length}
use Rattle.std.specs.Int.{bit_at}
use Rattle.aat_buffer.specs.Buffer.{glyph_at}
use Rattle.aat_font.specs.Wakers.{word_of}
use Rattle.aat_machine_tables.specs.declared.morx.Subtable.{Subtable}
use Rattle.aat_font.specs.declared.wakers.GlyphWords.{GlyphWords}
use Rattle.aat_font.specs.declared.wakers.SubtableWords.{SubtableWords}
use Rattle.aat_glyph.specs.declared.glyph.hb_glyph_info_t.{hb_glyph_info_t}
use Rattle.aat_kinds.specs.Idle.{IsIdleLineOf}
use Rattle.aat_morx.specs.declared.waking.KnownBits.{KnownBits}
use Rattle.aat_morx.specs.declared.waking.LineWord.{LineWord}

-- a line has a glyph, and a bit is clear in the word of each of its glyphs
abbrev pub IsClearIn : GlyphWords → ℕ → List hb_glyph_info_t → Type 0
IsClearIn w bit line =
    (0 < length line) × ((i : ℕ) → i < length line → bit_at (word_of w (glyph_at line i).glyph_id) bit ≡ 0)

-- a bit that is clear in a word is clear in the word of each glyph of a line, which has one
abbrev pub HasBitsOf : GlyphWords → ℕ → List hb_glyph_info_t → Type 0
HasBitsOf w word line = (k : ℕ) → k < 64 → bit_at word k ≡ 0 → IsClearIn w k line

-- bits that are known are those of a line
abbrev pub AreBitsOf : KnownBits → GlyphWords → List hb_glyph_info_t → Type 0
AreBitsOf known w line = known.are_known ≡ true → HasBitsOf w known.bits line

-- nothing is known of a line
abbrev pub KnowsNothing : LineWord → Type 0
KnowsNothing known = (known.word.are_known ≡ false) × (known.summary.are_known ≡ false)

-- what is known of a line, by the words of a block and by the summary, holds of it
abbrev pub TellsOf : LineWord → SubtableWords → List hb_glyph_info_t → Type 0
TellsOf known words line =
    ((w : GlyphWords) → slice_get words.blocks.items known.block ≡ Some w → AreBitsOf known.word w line)
    × AreBitsOf known.summary words.summary line

-- a line has a glyph, and none of its glyphs wakes a subtable
abbrev pub IsAsleep : Subtable → List hb_glyph_info_t → Type 0
IsAsleep s line = (0 < length line) × IsIdleLineOf s.kind line
