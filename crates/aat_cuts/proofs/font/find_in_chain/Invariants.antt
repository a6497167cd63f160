use Rattle.std.proofs.Common.{take}
use Rattle.aat_cuts.specs.Fonts.{AreSettled}
use Rattle.aat_cuts.proofs.font.find_in_chain.Given as goal

abbrev pub invariant-loop-place : goal.invariant-loop-place
invariant-loop-place l = AreSettled (take l.place l.subtables)
