use Rattle.std.proofs.Common.{◌≡◌, reverse, take}
use Rattle.aat_cut_kinds.proofs.kerning_stack.Places.of.Given as goal

abbrev pub invariant-loop-place : goal.invariant-loop-place
invariant-loop-place l = l.made ≡ reverse (take l.place-index l.places)
