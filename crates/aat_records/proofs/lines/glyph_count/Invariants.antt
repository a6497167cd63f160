use Rattle.std.proofs.Common.{◌≡◌, length, take}
use Rattle.aat_records.specs.Lines.{glyphs_of}
use Rattle.aat_records.proofs.lines.glyph_count.Given as goal

-- the glyphs of the lines before this one are counted
abbrev pub invariant-loop-i : goal.invariant-loop-i
invariant-loop-i l = l.count ≡ length (glyphs_of (take l.i l.lines))
