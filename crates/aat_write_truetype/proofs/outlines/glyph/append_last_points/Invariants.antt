use Rattle.std.proofs.Common.{◌≡◌, ◌++◌, take}
use Rattle.aat_write_truetype.specs.outlines.GlyphData.{last_points}
use Rattle.aat_write_machine.specs.Words.{word_bytes}
use Rattle.aat_write_truetype.proofs.outlines.glyph.append_last_points.Given as goal

abbrev pub invariant-loop-end : goal.invariant-loop-end
invariant-loop-end g l =
    l.out.items ≡ l.fn.out.items ++ word_bytes (last_points (take l.end-index l.ends))
