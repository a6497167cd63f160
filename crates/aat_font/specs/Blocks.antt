-- The words of the subtables of a font.
use Rattle.std.specs.Prelude.{List}
use Rattle.aat_font.specs.declared.wakers.GlyphWords.{GlyphWords}
use Rattle.aat_font.specs.declared.wakers.SubtableWords.{SubtableWords}

-- the words of each block of 64 subtables
abbrev pub blocks_of : SubtableWords → List GlyphWords
blocks_of words = words.blocks.items
