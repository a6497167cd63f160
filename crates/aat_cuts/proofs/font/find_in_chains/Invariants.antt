use Rattle.std.proofs.Common.{take}
use Rattle.aat_cuts.specs.Fonts.{AreAllSettled}
use Rattle.aat_cuts.proofs.font.find_in_chains.Given as goal

abbrev pub invariant-loop-place : goal.invariant-loop-place
invariant-loop-place l = AreAllSettled (take l.place l.chains)
