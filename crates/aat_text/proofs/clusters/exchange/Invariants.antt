use Rattle.std.proofs.Common.{◌≡◌, ◌++◌, drop, map, take}
use Rattle.aat_characters.specs.Decomposed.{has_glyph}
use Rattle.aat_text.specs.Prepared.{exchanged_at}
use Rattle.aat_text.proofs.clusters.exchange.Given as goal

-- the characters before this one are done, and those from it on are still to be
abbrev pub invariant-loop-i : goal.invariant-loop-i
invariant-loop-i l =
    l.characters ≡ map (exchanged_at (has_glyph l.face) l.direction) (take l.i l.initial.characters) ++ drop l.i l.initial.characters
