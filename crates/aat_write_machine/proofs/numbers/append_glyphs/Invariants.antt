use Rattle.std.proofs.Common.{◌≡◌, ◌++◌, take}
use Rattle.aat_write_machine.specs.Words.{word_bytes}
use Rattle.aat_write_machine.specs.Kinds.{glyph_words}
use Rattle.aat_write_machine.proofs.numbers.append_glyphs.Given as goal

abbrev pub invariant-loop-glyph : goal.invariant-loop-glyph
invariant-loop-glyph g l = l.out.items ≡ l.fn.out.items ++ word_bytes (glyph_words (take l.glyph-index l.glyphs))
