use Rattle.std.proofs.Common.{◌≡◌, ◌++◌, drop, map, take}
use Rattle.aat_typesetter.specs.Prepared.{told_glyph}
use Rattle.aat_typesetter.proofs.prepared.put_not_found.Given as goal

-- the glyphs before this one are done, and those from it on are still to be
abbrev pub invariant-loop-i : goal.invariant-loop-i
invariant-loop-i l = l.glyphs ≡ map (told_glyph l.not_found) (take l.i l.initial.glyphs) ++ drop l.i l.initial.glyphs
