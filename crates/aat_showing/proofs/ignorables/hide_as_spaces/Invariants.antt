use Rattle.std.proofs.Common.{◌≡◌, ◌++◌, drop, take}
use Rattle.aat_showing.specs.Ignorables.{with_spaces}
use Rattle.aat_showing.proofs.ignorables.hide_as_spaces.Given as goal

-- the glyphs before this one are done, and those from it on are still to be
abbrev pub invariant-loop-i : goal.invariant-loop-i
invariant-loop-i l = l.glyphs ≡ with_spaces l.direction l.space (take l.i l.initial.glyphs) ++ drop l.i l.initial.glyphs
